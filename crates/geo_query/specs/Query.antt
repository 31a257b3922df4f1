-- The query that a line spells, or its first fault.
use Rattle.std.specs.Prelude.{ℕ, Bool, true, false, List, [], ◌∷◌, ◌&&◌, ◌||◌, ◌==◌, not, nat_lt, length, codes, chars, bytes_eq, if◌then◌else◌, Option, Some, None, option_and_then, is_some, Result, Ok, Err}
use Rattle.std.specs.List.{list_all, list_any, before_first, after_first, find}
use Rattle.geo_base.specs.LangCode.{is_code}
use Rattle.geo_base.specs.TileBox.{BoxView, box_at}
use Rattle.geo_text.specs.Numbers.{slashed}
use Rattle.geo_text.specs.Tokens.{tokens_of}
use Rattle.geo_text.specs.Words.{words_of, after_or_all}
use Rattle.geo_query.specs.QueryView.{QueryView}
use Rattle.geo_query.specs.declared.query.QueryFault.{QueryFault}
use Rattle.geo_query.specs.declared.query.QueryFault.TheVariants as fault

-- the words of a line's options: those before its first bar, none where it has no bar
abbrev pub option_words : List ℕ → List (List ℕ)
option_words line = if list_any (λ b. b == 124) line then words_of (before_first (λ b. b == 124) line) else []

-- the text of a query: what follows the first bar, or the whole line where it has none
abbrev pub query_text : List ℕ → List ℕ
query_text line = after_or_all 124 line

-- the name of an option, which ends at the first equals sign
abbrev pub name_part : List ℕ → List ℕ
name_part word = before_first (λ b. b == 61) word

-- the value of an option, which follows that sign
abbrev pub value_part : List ℕ → List ℕ
value_part word = after_first (λ b. b == 61) word

-- the value of the option of this name, where there is one
abbrev pub option_value : List ℕ → List (List ℕ) → Option (List ℕ)
option_value name words = option_and_then (λ word. Some (value_part word)) (find (λ word. bytes_eq (name_part word) name) words)

-- no name stands twice
abbrev pub names_differ : List (List ℕ) → Bool
names_differ [] = true
names_differ (word ∷ words) = not (list_any (λ other. bytes_eq (name_part other) (name_part word)) words) && names_differ words

-- the word is an option: `auto=0`, `auto=1`, `lang` with a code, or `box`, whose value is looked at later
abbrev pub is_option : List ℕ → Bool
is_option word =
    list_any (λ b. b == 61) word
    && (bytes_eq word (codes "auto=0") || (bytes_eq word (codes "auto=1") || ((bytes_eq (name_part word) (codes "lang") && is_code (value_part word)) || bytes_eq (name_part word) (codes "box"))))

-- each word is an option, and no name stands twice
abbrev pub options_fit : List (List ℕ) → Bool
options_fit words = list_all is_option words && names_differ words

-- five numbers make a box
abbrev pub box_of_numbers : List ℕ → Option BoxView
box_of_numbers (z ∷ x0 ∷ y0 ∷ x1 ∷ y1 ∷ []) = box_at z x0 y0 x1 y1
box_of_numbers numbers = None

-- the box that a text `z/x0/y0/x1/y1` names
abbrev pub box_of : List ℕ → Option BoxView
box_of text = option_and_then box_of_numbers (slashed text)

-- no box is asked for, or one that there is
abbrev pub box_fits : Option (List ℕ) → Bool
box_fits None = true
box_fits (Some value) = is_some (box_of value)

-- the last run may be the beginning of a phrase, unless the option says no
abbrev pub is_auto : Option (List ℕ) → Bool
is_auto None = true
is_auto (Some value) = bytes_eq value (codes "1")

-- the query that a line spells, or the first of its faults
abbrev pub query_of : List ℕ → Result QueryView QueryFault
query_of line =
    let words = option_words line in
    let text = query_text line in
    let tokens = tokens_of text in
    if not (options_fit words) then Err fault.WrongOption
    else if not (box_fits (option_value (codes "box") words)) then Err fault.Box
    else if nat_lt 256 (length (chars text)) then Err fault.Long
    else if nat_lt (length tokens) 1 then Err fault.Empty
    else if nat_lt 20 (length tokens) then Err fault.Tokens
    else Ok (record {
      tokens = tokens;
      auto = is_auto (option_value (codes "auto") words);
      lang = option_value (codes "lang") words;
      bounds = option_and_then box_of (option_value (codes "box") words);
    })

-- the fault is found before any room is asked for
abbrev pub needs_no_room : QueryFault → Bool
needs_no_room fault.WrongOption = true
needs_no_room fault.Box = true
needs_no_room fault.Long = true
needs_no_room fault.Empty = false
needs_no_room fault.Tokens = false
