-- The listed languages.
use Rattle.std.specs.Prelude.{ℕ, Bool, true, List, [], ◌∷◌, ◌&&◌, not, nat_le, length, bytes_eq, position, if◌then◌else◌, Option, Some, None, unwrap_or}
use Rattle.std.specs.List.{list_all, list_any}
use Rattle.geo_text.specs.Words.{words_of}
use Rattle.geo_base.specs.LangCode.{is_code}

-- no two texts are the same
abbrev pub all_differ : List (List ℕ) → Bool
all_differ [] = true
all_differ (text ∷ texts) = not (list_any (bytes_eq text) texts) && all_differ texts

-- listed languages are at most 127 codes, all different
abbrev pub are_langs : List (List ℕ) → Bool
are_langs codes = nat_le (length codes) 127 && (list_all is_code codes && all_differ codes)

-- the languages that a line lists as its words, at least one
abbrev pub langs_of : List ℕ → Option (List (List ℕ))
langs_of line = if nat_le 1 (length (words_of line)) && are_langs (words_of line) then Some (words_of line) else None

-- the bit of a language: its place in the list, or 127 where it isn't listed
abbrev pub bit_of : List (List ℕ) → List ℕ → ℕ
bit_of langs code = unwrap_or (position (bytes_eq code) langs) 127
