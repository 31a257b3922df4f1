use Rattle.std.proofs.Common.{◌≡◌, ◌∙◌, ℕ, List, true, Some, sym, ap, Option, None, MatchOption, option_map, false}
use Rattle.std.specs.Prelude.{codes}
use Rattle.std.proofs.lemmas.Bool.{and_parts, both_ways}
use Rattle.std.specs.List.{list_all}
use Rattle.geo_base.specs.LangCode.{is_code}
use Rattle.geo_text.specs.Words.{words_of}
use Rattle.geo_query.specs.Query.{option_value, is_option, names_differ}
use Rattle.geo_query.proofs.Codes.{lang_is_code}
use Rattle.geo_query.proofs.options.lang_in.Goals as goal

-- what is a code is made one
made : (r : Option (List ℕ)) (value : List ℕ) → MatchOption r (is_code value ≡ false) (λ code. (is_code value ≡ true) × (code ≡ value)) → is_code value ≡ true → r ≡ Some value
made None value isnt is = absurd (both_ways (is_code value) isnt is)
made (Some code) value match is = ap Some match.1

pub returns : goal.returns
returns c =
    let words = words_of c.args.words.now in
    let value : option_value (codes "lang") words ≡ Some c.in_ok-option_value.field-0.now = sym (ap (λ name. option_value name words) c.as_slice.ensures) ∙ (sym c.option_value.ensures ∙ ap (option_map (λ v. v.now)) c.in_ok-option_value.was) in
    let is = lang_is_code words c.in_ok-option_value.field-0.now (and_parts (list_all is_option words) (names_differ words) c.requires).0 value in
    made c.code_of.result c.in_ok-option_value.field-0.now c.code_of.ensures is ∙ sym value
