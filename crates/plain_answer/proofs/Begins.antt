-- Texts that begin with others, and with the tokens of a run.
use Rattle.std.specs.Prelude.{◌&&◌, ◌||◌, ◌==◌, bytes_eq}
use Rattle.std.proofs.Common.{◌≡◌, ◌∙◌, ◌-◌, ◌<◌, ◌≤◌, ℕ, suc, get_or, List, [], ◌∷◌, ◌++◌, length, take, drop, Option, None, Some, MatchOption, Bool, true, false, nat_eq, refl, sym, ap, arith, inl, inr, append_assoc, append-nil, length-append, take-append-drop}
use Rattle.std.proofs.Math.Seq.{take-append_seam, take-length, drop-append_seam}
use Rattle.std.specs.Cmp.Lexicographic.{pointwise, bytes_decides}
use Rattle.std.proofs.lemmas.Bool.{cases_Bool}
use Rattle.std.proofs.lemmas.Slice.Eq.{bytes_eq-Decides}
use Rattle.geo_text.specs.Bytes.{begins_with}
use Rattle.geo_text.specs.Tokens.{joined}
use Rattle.plain_answer.specs.Match.{run_text, matches}

and_true : (b : Bool) → (b && true) ≡ b
and_true true = refl
and_true false = refl

and_false : (b : Bool) → (b && false) ≡ false
and_false true = refl
and_false false = refl

pub begins : (text front : List ℕ) → pointwise nat_eq (take (length front) text) front ≡ true → text ≡ front ++ drop (length front) text
begins text front is = sym (take-append-drop (length front) text) ∙ ap (λ l. l ++ drop (length front) text) ((bytes_decides (take (length front) text) front).0 is)

pub begins_not : (text front : List ℕ) → pointwise nat_eq (take (length front) text) front ≡ false → (rest : List ℕ) → text ≡ front ++ rest → ⊥
begins_not text front isnt rest split =
    let is : take (length front) text ≡ front = ap (take (length front)) split ∙ take-append_seam front rest in
    let yes = (bytes_decides (take (length front) text) front).1 is in
    absurd (cc (yes, isnt))

-- what is known at None and at Some, as other facts
pub match_both : {X : Type 0} {A C : Type 0} {B D : X → Type 0} (o : Option X) → MatchOption o A B → (A → C) → ((x : X) → B x → D x) → MatchOption o C D
match_both None h f g = f h
match_both (Some x) h f g = g x h

-- the text of a token and more tokens
pub joined-cons : (first : List ℕ) (more : List (List ℕ)) → 0 < length more → joined (first ∷ more) ≡ first ++ 32 ∷ joined more
joined-cons first [] some = absurd (omega (arith, some))
joined-cons first (second ∷ more) some = refl

-- a phrase that begins with a token, a space and the text of more tokens
pub begins_more : (first : List ℕ) (more : List (List ℕ)) (phrase rest after_space : List ℕ) → 0 < length more → phrase ≡ first ++ rest → rest ≡ (32 ∷ []) ++ after_space → (end : List ℕ) → after_space ≡ joined more ++ end → phrase ≡ joined (first ∷ more) ++ end
begins_more first more phrase rest after_space some one space end two =
    one
    ∙ (ap (λ l. first ++ l) (space ∙ ap (λ l. 32 ∷ l) two)
    ∙ (sym (append_assoc first (32 ∷ joined more) end) ∙ ap (λ l. l ++ end) (sym (joined-cons first more some))))

-- and what such a phrase has behind the token
pub behind_first : (first : List ℕ) (more : List (List ℕ)) (phrase end : List ℕ) → 0 < length more → phrase ≡ joined (first ∷ more) ++ end → phrase ≡ first ++ (32 ∷ joined more ++ end)
behind_first first more phrase end some is = is ∙ (ap (λ l. l ++ end) (joined-cons first more some) ∙ append_assoc first (32 ∷ joined more) end)

not_zero : (n : ℕ) → (suc n == 0) ≡ false
not_zero n = grind arith

-- a list of two or more is its first member and the others
pub split_first : (tokens : List (List ℕ)) (first : List ℕ) → 2 ≤ length tokens → first ≡ get_or tokens 0 first → (tokens ≡ first ∷ take (length tokens - 1) (drop 1 tokens)) × (0 < length (take (length tokens - 1) (drop 1 tokens)))
split_first [] first long is = absurd (omega (arith, long))
split_first (x ∷ []) first long is = absurd (omega (arith, long))
split_first (x ∷ y ∷ more) first long is =
    let less : length (x ∷ y ∷ more) - 1 ≡ length (y ∷ more) = omega arith in
    let rest : take (length (x ∷ y ∷ more) - 1) (drop 1 (x ∷ y ∷ more)) ≡ y ∷ more = ap (λ n. take n (y ∷ more)) less ∙ take-length (y ∷ more) in
    (rw (rest, is) refl, rw rest (omega arith))

-- no bytes are missing of a text that is another one and no more
ends_there : (front rest : List ℕ) → bytes_eq (front ++ rest) front ≡ (length rest == 0)
ends_there front [] = (bytes_eq-Decides (front ++ []) front).1 (append-nil front)
ends_there front (b ∷ rest) =
    elim (cases_Bool (bytes_eq (front ++ b ∷ rest) front)) [
      | inl is ↦
          let same : front ++ b ∷ rest ≡ front = (bytes_eq-Decides (front ++ b ∷ rest) front).0 is in
          absurd (omega (arith, ap length same, length-append front (b ∷ rest)))
      | inr isnt ↦ isnt ∙ sym (not_zero (length rest))
    ]

-- a phrase that begins with a run's text matches by what follows it
pub matches-found : (tokens : List (List ℕ)) (auto : Bool) (from to : ℕ) (phrase rest : List ℕ) → phrase ≡ run_text tokens from to ++ rest → matches tokens auto from to phrase ≡ ((length rest == 0) || (auto && (to == length tokens)))
matches-found tokens auto from to phrase rest is =
    let run = run_text tokens from to in
    let equal : bytes_eq phrase run ≡ (length rest == 0) = ap (λ l. bytes_eq l run) is ∙ ends_there run rest in
    let begun : begins_with phrase run ≡ true = (bytes_eq-Decides (take (length run) phrase) run).1 (ap (take (length run)) is ∙ take-append_seam run rest) in
    ap (λ b. b || (auto && (to == length tokens) && begins_with phrase run)) equal
    ∙ ap (λ b. (length rest == 0) || (auto && (to == length tokens) && b)) begun
    ∙ ap (λ b. (length rest == 0) || b) (and_true (auto && (to == length tokens)))

-- one that doesn't begin with it matches in no way
pub matches-not_found : (tokens : List (List ℕ)) (auto : Bool) (from to : ℕ) (phrase : List ℕ) → ((rest : List ℕ) → phrase ≡ run_text tokens from to ++ rest → ⊥) → matches tokens auto from to phrase ≡ false
matches-not_found tokens auto from to phrase none =
    let run = run_text tokens from to in
    let equal : bytes_eq phrase run ≡ false = elim (cases_Bool (bytes_eq phrase run)) [
      | inl is ↦ absurd (none [] ((bytes_eq-Decides phrase run).0 is ∙ sym (append-nil run)))
      | inr isnt ↦ isnt
    ] in
    let begun : begins_with phrase run ≡ false = elim (cases_Bool (begins_with phrase run)) [
      | inl is ↦ absurd (none (drop (length run) phrase) (begins phrase run is))
      | inr isnt ↦ isnt
    ] in
    ap (λ b. b || (auto && (to == length tokens) && begins_with phrase run)) equal
    ∙ ap (λ b. auto && (to == length tokens) && b) begun
    ∙ and_false (auto && (to == length tokens))

append-cancel : (front a b : List ℕ) → front ++ a ≡ front ++ b → a ≡ b
append-cancel front a b is = sym (drop-append_seam front a) ∙ (ap (drop (length front)) is ∙ drop-append_seam front b)

-- behind the first token of such a phrase stands a space
pub behind_space : (first : List ℕ) (more : List (List ℕ)) (phrase rest end : List ℕ) → phrase ≡ first ++ rest → 0 < length more → phrase ≡ joined (first ∷ more) ++ end → rest ≡ 32 ∷ (joined more ++ end)
behind_space first more phrase rest end begun some is = append-cancel first rest (32 ∷ joined more ++ end) (sym begun ∙ behind_first first more phrase end some is)

-- and behind the space the text of the others
pub same_end : (rest after_space more end : List ℕ) → rest ≡ 32 ∷ (more ++ end) → rest ≡ 32 ∷ after_space → after_space ≡ more ++ end
same_end rest after_space more end one two = cc
