-- What was taken of a source, and what it has left.
use Rattle.std.proofs.Common.{◌≡◌, ◌≤◌, ℕ, List, [], ◌++◌, length, take, Option, Some, None, refl, sym, ap, ◌∙◌, append_assoc}
use Rattle.std.proofs.lemmas.List.{append-nil, take-append-le}
use Rattle.std.specs.Io.KnownBytes.{Consumes, IsAtEnd}
use Rattle.feature_feed.specs.Taking.{all_bytes}

-- what a source tells after a call was told before it
abbrev Told : Option (List ℕ) → Option (List ℕ) → Type 0
Told left now = (bytes : List ℕ) → now ≡ Some bytes → (before : List ℕ) × (left ≡ Some before)

-- what is read moves behind what was taken
pub moved : (left now : Option (List ℕ)) (taken part : List ℕ) → Consumes left now part → Told left now → all_bytes (taken ++ part) now ≡ all_bytes taken left
moved None None taken part read told = refl
moved None (Some y) taken part read told = let before = told y refl in absurd (cc before.1)
moved (Some x) None taken part read told = absurd read
moved (Some x) (Some y) taken part read told = ap Some (append_assoc taken part y ∙ ap (λ l. taken ++ l) (sym read))

-- at the end of the source all of it was taken
pub whole_at_end : (n : ℕ) (left now : Option (List ℕ)) (taken after rest : List ℕ) → all_bytes after now ≡ all_bytes taken left → IsAtEnd now → left ≡ Some rest
    → take n after ≡ take n (taken ++ rest)
whole_at_end n left now taken after rest same end is = by left now same end is
  where
    by : (left now : Option (List ℕ)) → all_bytes after now ≡ all_bytes taken left → IsAtEnd now → left ≡ Some rest → take n after ≡ take n (taken ++ rest)
    by None now same end is = cc is
    by (Some x) None same end is = cc same
    by (Some x) (Some y) same end is =
        let none : y ≡ [] = end in
        let all : after ++ y ≡ taken ++ x = cc same in
        let rest_is : x ≡ rest = cc is in
        ap (take n) (sym (append-nil after) ∙ ap (λ l. after ++ l) (sym none) ∙ all ∙ ap (λ l. taken ++ l) rest_is)

-- what is as long as the limit has all bytes up to it
pub whole_at_limit : (n : ℕ) (left now : Option (List ℕ)) (taken after rest : List ℕ) → all_bytes after now ≡ all_bytes taken left → n ≤ length after → left ≡ Some rest
    → take n after ≡ take n (taken ++ rest)
whole_at_limit n left now taken after rest same long is = by left now same is
  where
    by : (left now : Option (List ℕ)) → all_bytes after now ≡ all_bytes taken left → left ≡ Some rest → take n after ≡ take n (taken ++ rest)
    by None now same is = cc is
    by (Some x) None same is = cc same
    by (Some x) (Some y) same is =
        let all : after ++ y ≡ taken ++ x = cc same in
        let rest_is : x ≡ rest = cc is in
        sym (take-append-le n after y long) ∙ ap (take n) (all ∙ ap (λ l. taken ++ l) rest_is)
