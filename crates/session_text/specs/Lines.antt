-- What a line of a session is made of.
use Rattle.std.specs.Prelude.{ℕ, Bool, false, List, [], ◌∷◌, ◌||◌, ◌==◌}
use Rattle.std.specs.List.{list_all}
use Rattle.std.specs.Str.Lines.{strip_carriage_return}
use Rattle.geo_text.specs.Words.{after_word, skip_spaces}

-- the most bytes of a line, with a carriage return at its end
abbrev pub longest : ℕ
longest = 1048576

-- one carriage return at the end is no part of a line
abbrev pub line_text : List ℕ → List ℕ
line_text line = strip_carriage_return line

-- the text begins with this byte
abbrev pub begins_with_byte : ℕ → List ℕ → Bool
begins_with_byte c [] = false
begins_with_byte c (b ∷ bs) = b == c

-- an empty line, a line of spaces and a line that begins with `#` are skipped
abbrev pub is_skipped : List ℕ → Bool
is_skipped text = list_all (λ b. b == 32) text || begins_with_byte 35 text

-- what follows the first word and its spaces
abbrev pub next_field : List ℕ → List ℕ
next_field text = skip_spaces (after_word text)
