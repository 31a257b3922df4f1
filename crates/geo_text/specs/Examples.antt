-- Texts that serve as examples.
use Rattle.std.specs.Prelude.{ℕ, List, [], ◌∷◌}

-- the characters of the Arabic word `kitab` with the vowel marks kasra, U+0650, and fatha, U+064E
abbrev pub kitab : List ℕ
kitab = 0x643 ∷ 0x650 ∷ 0x62A ∷ 0x64E ∷ 0x627 ∷ 0x628 ∷ []

-- the three letters of the syllable U+D55C
abbrev pub han : List ℕ
han = 0x1112 ∷ 0x1161 ∷ 0x11AB ∷ []
