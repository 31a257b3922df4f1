use Rattle.std.proofs.Common.{◌≡◌, IfOk, option_map, option_and_then, subst, refl, ap}
use Rattle.std.proofs.lemmas.Str.{IsUtf8-from_is_utf8, is_utf8-from_IsUtf8}
use Rattle.std.proofs.lemmas.Bool.{cases_Bool}
use Rattle.std.proofs.Common.{inl, inr}
use Rattle.std.specs.Str.{is_utf8}
use Rattle.serde_json.specs.Read.{read}
use Rattle.serde_json.specs.Find.{as_object}
use Rattle.feature_json.specs.Said.{members_said, said_by}
use Rattle.geo_layer.specs.Json.{data_of}
use Rattle.feature_json.proofs.members.members_of.Goals as goal

pub returns-in-Ok : goal.returns-in-Ok
returns-in-Ok c =
    let both = c.in-Ok.ensures in
    let utf8 = is_utf8-from_IsUtf8 c.args.bytes.now both.1 in
    let as_read : read c.in-Ok.text.now ≡ data_of c.args.bytes.now = rw utf8 (ap read both.0) in
    subst (λ d. IfOk c.read_text.result (λ o. option_map (said_by c.read_text.new.tiles.items) o ≡ option_map members_said (option_and_then as_object d))) as_read c.read_text.ensures

pub returns-in-Err : goal.returns-in-Err
returns-in-Err c =
    elim (cases_Bool (is_utf8 c.args.bytes.now)) [
      | inl is ↦ absurd (c.in-Err.ensures (IsUtf8-from_is_utf8 _ is))
      | inr isnt ↦ rw isnt refl
    ]
