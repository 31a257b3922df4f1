use Rattle.std.proofs.Common.{rules, sym, refl, inl, inr}
use Rattle.std.proofs.lemmas.Bool.{cases_Bool}
use Rattle.std.proofs.lemmas.Str.{IsUtf8-from_is_utf8, is_utf8-from_IsUtf8}
use Rattle.std.specs.Str.{is_utf8}
use Rattle.serde_json.specs.Errors.{IsMemory}
use Rattle.geo_layer.proofs.json.read_json.Goals as goal

pub returns-in-Ok : goal.returns-in-Ok
returns-in-Ok c = rw (is_utf8-from_IsUtf8 _ c.in-Ok.ensures.ok.0) (sym c.in-Ok.ensures.ok.1)

pub returns-else-is_memory : goal.returns-else-is_memory
returns-else-is_memory c =
    let not_memory : ¬ (IsMemory c.in-Err.error) = search rules in
    elim (cases_Bool (is_utf8 c.args.bytes.now)) [
      | inl is ↦ rw is (sym (c.in-Err.ensures.err not_memory (IsUtf8-from_is_utf8 _ is)))
      | inr isnt ↦ rw isnt refl
    ]
