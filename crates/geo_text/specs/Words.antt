-- Words between spaces.
use Rattle.std.specs.Prelude.{ℕ, ◌<◌, ◌≢◌, Bool, true, false, List, [], ◌∷◌, ◌==◌, length, filter, All, if◌then◌else◌}
use Rattle.std.specs.List.{slice_split, before_first, after_first, list_any}

-- the list has something in it
abbrev pub is_not_empty : {X : Type 0} → List X → Bool
is_not_empty [] = false
is_not_empty (x ∷ xs) = true

-- the words of a text, which are separated by spaces
abbrev pub words_of : List ℕ → List (List ℕ)
words_of text = filter is_not_empty (slice_split (λ b. b == 32) text)

-- the first word of a text, which ends at the first space
abbrev pub first_word : List ℕ → List ℕ
first_word text = before_first (λ b. b == 32) text

-- what follows that word and one space
abbrev pub after_word : List ℕ → List ℕ
after_word text = after_first (λ b. b == 32) text

-- what follows the first of these marks, or the whole text where there is none
abbrev pub after_or_all : ℕ → List ℕ → List ℕ
after_or_all mark text = if list_any (λ b. b == mark) text then after_first (λ b. b == mark) text else text

-- the text without the spaces at its beginning
abbrev pub skip_spaces : List ℕ → List ℕ
skip_spaces [] = []
skip_spaces (b ∷ bs) = if b == 32 then skip_spaces bs else b ∷ bs

-- a word: not empty, and without a space
pub record IsWord (word : List ℕ) : Type 0 where
  pub some : 0 < length word
  pub whole : All (λ b. b ≢ 32) word
