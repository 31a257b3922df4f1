use Rattle.std.proofs.Common.{◌≡◌, ◌∙◌, false, [], sym, ap}
use Rattle.std.specs.Prelude.{string_bytes, is_some}
use Rattle.std.specs.Map.Iter.{deref_pair}
use Rattle.std.proofs.lemmas.Map.Iter.{rest_more}
use Rattle.serde_json.specs.View.{view, members_view}
use Rattle.geo_text.specs.Tokens.{replacement}
use Rattle.geo_layer.specs.LayerText.{one_token}
use Rattle.geo_layer.proofs.TokenFacts.{onward, onward-all, none_found, one_turn, one_token-word, token-word}
use Rattle.geo_layer.proofs.read_layer.map_of.Goals as goal

pub loop-key-init : goal.loop-key-init
loop-key-init c =
    rw c.new-map.ensures (ap (λ es. onward [] (members_view es)) c.into_iter-key-iterator.ensures.into_iter_gives.0 ∙ onward-all (members_view c.args.members.now.entries))

pub insert-requires-clause-token : goal.insert-requires-clause-token
insert-requires-clause-token c = one_token-word _ c.in-Some-2.from (sym c.in_ok-from.ensures ∙ c.in-Some-2.is)

pub insert-requires-clause-text : goal.insert-requires-clause-text
insert-requires-clause-text c = token-word _ c.in-Some-3.to (sym c.in_ok-to.ensures ∙ c.in-Some-3.is)

pub loop-key-preserved : goal.loop-key-preserved
loop-key-preserved c =
    let turn = rest_more deref_pair _ _ _ _ c.in-Some.is c.next.ensures.steps in
    let free : is_some (replacement c.loop-key.map c.in-Some-2.from) ≡ false = none_found (λ t. t.now) c.get.result _ (c.get.ensures ∙ ap (replacement c.loop-key.map) c.as_str-in-loop-key.ensures) (sym c.is_some.ensures ∙ c.if-is_some.false) in
    one_turn c.loop-key.map c.insert.new.self (string_bytes c.in-Some.key.now) (view c.in-Some.value.now) c.in-Some-2.from c.in-Some-3.to (members_view c.next.new.self)
    (ap one_token (sym c.as_str.ensures.value) ∙ (sym c.in_ok-from.ensures ∙ c.in-Some-2.is)) free (sym c.in_ok-to.ensures ∙ c.in-Some-3.is) c.in_ok-insert.ensures.list
    ∙ (ap (λ es. onward c.loop-key.map (members_view es)) (sym turn) ∙ c.loop-key.invariant)
