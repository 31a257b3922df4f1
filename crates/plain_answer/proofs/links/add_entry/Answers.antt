use Rattle.std.proofs.Common.{◌≡◌, ◌∙◌, ◌≤◌, ◌++◌, ℕ, List, length, sym, ap, arith, rules, append-nil}
use Rattle.std.proofs.lemmas.List.{length-map}
use Rattle.geo_text.specs.Tokens.{replaced}
use Rattle.geo_layer.specs.Layer.{LayerView}
use Rattle.plain_answer.specs.Links.{feature_links}
use Rattle.plain_answer.proofs.LayerTokens.{mapped_at, past_end}
use Rattle.plain_answer.proofs.links.add_entry.Goals as goal

pub returns-then-place-len : goal.returns-then-place-len
returns-then-place-len c =
    let past : length c.args.head.now.layers ≤ c.args.number = search (rules, arith) in
    record { links = sym (ap (λ l. c.args.links.now.items ++ feature_links c.args.head.now c.args.query.now l c.args.number c.args.feature.now) (past_end c.args.head.now.layers c.args.number past) ∙ append-nil c.args.links.now.items) }

pub add_feature-requires-clause-tokens : goal.add_feature-requires-clause-tokens
add_feature-requires-clause-tokens c =
    mapped_at (λ (v : LayerView). replaced v.tokens c.args.query.now.tokens) c.args.head.now.layers c.args.tokens.now c.from-place.result c.at.result.now c.index-tokens-place.result c.requires c.at.ensures.value (search rules)

pub add_feature-requires-clause-few : goal.add_feature-requires-clause-few
add_feature-requires-clause-few c =
    let is : c.index-tokens-place.result ≡ replaced c.at.result.now.tokens c.args.query.now.tokens = mapped_at (λ (v : LayerView). replaced v.tokens c.args.query.now.tokens) c.args.head.now.layers c.args.tokens.now c.from-place.result c.at.result.now c.index-tokens-place.result c.requires c.at.ensures.value (search rules) in
    let count : length c.index-tokens-place.result ≡ length c.args.query.now.tokens = ap (length {A = List ℕ}) is ∙ length-map _ _ in
    omega (arith, count, c.tokens-tokens.ensures.is.few)
