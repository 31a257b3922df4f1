use Rattle.std.proofs.Common.{◌≡◌, ◌∙◌, rules}
use Rattle.feature_reader.specs.Tiles.{rising}
use Rattle.feature_reader.proofs.PhraseFacts.{is_feature}
use Rattle.feature_reader.proofs.rules.made.Goals as goal

pub from_parts-requires : goal.from_parts-requires
from_parts-requires c =
    let risen : c.in_ok-risen.risen.items ≡ rising c.args.tiles.now.items = search rules in
    rw (c.from_vec.ensures ∙ risen)
    (is_feature c.args.id c.args.score c.args.zoom c.args.phrases c.args.tiles.now.items c.requires.id c.requires.score (record { texts = c.requires.texts; relevances = c.requires.relevances; distinct = c.requires.distinct }) c.requires.zoom c.requires.tiles c.requires.some c.requires.few)
