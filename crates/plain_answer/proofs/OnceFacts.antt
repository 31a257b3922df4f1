-- Lists of which each member stands once.
use Rattle.std.proofs.Common.{◌≡◌, ◌≢◌, ◌∙◌, ℕ, Bool, true, false, cond, not, List, [], ◌∷◌, filter, All, refl, ap, ⊎_elim}
use Rattle.std.proofs.lemmas.Bool.{cases_Bool}
use Rattle.std.proofs.lemmas.List.Elements.{All-head, All-tail, All-weaker}
use Rattle.std.proofs.lemmas.Slice.Eq.{bytes_eq-Decides}
use Rattle.geo_base.specs.Lists.{once}
use Rattle.geo_base.proofs.Members.{pairs_head, pairs_tail}
use Rattle.plain_answer.specs.Count.{Entry, entry_numbers, same_entry}
use Rattle.plain_answer.proofs.Differing.{Differ}

module _ {X : Type 0} where
  -- a filter keeps a list of which all pass
  pub filter_all : (p : X → Bool) (xs : List X) → All (λ x. p x ≡ true) xs → filter p xs ≡ xs
  filter_all p [] pass = refl
  filter_all p (x ∷ xs) pass =
      ap (λ b. cond b (x ∷ filter p xs) (filter p xs)) (All-head (λ y. p y ≡ true) x xs pass)
      ∙ ap (λ l. x ∷ l) (filter_all p xs (All-tail (λ y. p y ≡ true) x xs pass))

  -- members that all differ stand once each, where the test finds like ones alone to be the same
  pub once_is : (same : X → X → Bool) (xs : List X) → Differ xs → ((a b : X) → same a b ≡ true → a ≡ b) → once same xs ≡ xs
  once_is same [] apart is = refl
  once_is same (x ∷ xs) apart is =
      let later = once_is same xs (pairs_tail (λ a b. a ≢ b) x xs apart) is in
      let others : All (λ y. not (same x y) ≡ true) xs = All-weaker (λ y. x ≢ y) (λ y. not (same x y) ≡ true) (λ y differs. isnt y differs) xs (pairs_head (λ a b. a ≢ b) x xs apart) in
      ap (λ l. x ∷ l) (ap (filter (λ y. not (same x y))) later ∙ filter_all (λ y. not (same x y)) xs others)
    where
      isnt : (y : X) → x ≢ y → not (same x y) ≡ true
      isnt y differs =
          ⊎_elim
          (λ (yes : same x y ≡ true). absurd (differs (is x y yes)))
          (λ (no : same x y ≡ false). ap not no)
          (cases_Bool (same x y))

-- ---- entries

-- the entry of such numbers and bytes
entry_of : (bits relev score x y id : ℕ) → List ℕ → Entry
entry_of bits relev score x y id text = record { phrase = record { set = record { bits = bits }; text = text; relev = relev }; score = score; x = x; y = y; id = id }

-- entries that are the same by the test are equal
pub same_is : (a b : Entry) → same_entry a b ≡ true → a ≡ b
unfolding entry_of
same_is a b same =
    let numbers : entry_numbers a ≡ entry_numbers b = (bytes_eq-Decides (entry_numbers a) (entry_numbers b)).0 same in
    let whole : entry_of a.phrase.set.bits a.phrase.relev a.score a.x a.y a.id a.phrase.text ≡ entry_of b.phrase.set.bits b.phrase.relev b.score b.x b.y b.id b.phrase.text = cc numbers in
    whole
