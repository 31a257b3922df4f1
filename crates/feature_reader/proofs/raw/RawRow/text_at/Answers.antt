use Rattle.std.proofs.Common.{rules, ◌≡◌, Some, None, ap, ◌∙◌, option_and_then, inl, inr, refl}
use Rattle.std.specs.Prelude.{slice_get}
use Rattle.std.specs.Str.{is_utf8}
use Rattle.std.proofs.lemmas.Bool.{cases_Bool}
use Rattle.std.proofs.lemmas.Str.{IsUtf8-from_is_utf8, is_utf8-from_IsUtf8}
use Rattle.feature_reader.specs.Row.{utf8_of}
use Rattle.feature_reader.proofs.raw.RawRow.text_at.Goals as goal

pub returns-in-Ok : goal.returns-in-Ok
returns-in-Ok c =
    let found : Some c.in_ok-field.field-0.now ≡ slice_get c.args.self.now c.args.place = search rules in
    let utf8 = is_utf8-from_IsUtf8 c.in_ok-field.field-0.now c.in-Ok.ensures.cases.1 in
    let is_text : Some c.in-Ok.text.now ≡ utf8_of c.in_ok-field.field-0.now = rw utf8 (ap Some c.in-Ok.ensures.cases.0) in
    is_text ∙ ap (option_and_then utf8_of) found

pub returns-in-Err : goal.returns-in-Err
returns-in-Err c =
    let found : Some c.in_ok-field.field-0.now ≡ slice_get c.args.self.now c.args.place = search rules in
    let none : None ≡ utf8_of c.in_ok-field.field-0.now = elim (cases_Bool (is_utf8 c.in_ok-field.field-0.now)) [
      | inl is ↦ absurd (c.in-Err.ensures.cases.0 (IsUtf8-from_is_utf8 _ is))
      | inr isnt ↦ rw isnt refl
    ] in
    none ∙ ap (option_and_then utf8_of) found
