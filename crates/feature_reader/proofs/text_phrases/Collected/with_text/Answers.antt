use Rattle.std.proofs.Common.{◌∙◌, ℕ, ap, sym, fold, rules}
use Rattle.geo_text.specs.Parts.{pieces}
use Rattle.feature_reader.specs.Collected.{with_piece}
use Rattle.feature_reader.proofs.CollectedFacts.{phrases_collected, tokens_in}
use Rattle.feature_reader.proofs.text_phrases.Collected.with_text.Goals as goal

pub loop-piece-init : goal.loop-piece-init
loop-piece-init c = record {
  all =
      phrases_collected c.args.replace.now c.args.cap c.args.text.now c.args.set.bits c.args.self
      ∙ ap (λ (n : ℕ). (fold (with_piece c.args.set.bits c.args.cap) (c.args.self, n) (tokens_in c.args.replace.now (pieces c.args.text.now))).0) (sym c.at_most-relev.ensures);
  text = search rules;
}
