-- What bytes begin with, and bytes of one line.
use Rattle.std.specs.Prelude.{◌≡◌, ℕ, ◌==◌, ⊤, Bool, false, List, [], ◌∷◌, length, take, bytes_eq}

-- the text begins with these bytes
abbrev pub begins_with : List ℕ → List ℕ → Bool
begins_with text front = bytes_eq (take (length front) text) front

-- there is no line feed among these bytes
abbrev pub NoLineFeed : List ℕ → Type 0
NoLineFeed [] = ⊤
NoLineFeed (b ∷ bs) = ((b == 10) ≡ false) × NoLineFeed bs
