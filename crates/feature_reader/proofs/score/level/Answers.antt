use Rattle.std.proofs.Common.{◌≡◌, pos, true, rules}
use Rattle.std.specs.Prelude.{int_le}
use Rattle.feature_reader.proofs.Levels.{top_level}
use Rattle.feature_reader.proofs.score.level.Goals as goal

pub returns-then-score-from : goal.returns-then-score-from
returns-then-score-from c =
    let reached : int_le (pos c.args.scoremax) c.args.score ≡ true = search rules in
    top_level c.args.scoremax c.args.score c.requires reached
