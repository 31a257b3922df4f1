-- A line and its carriage return.
use Rattle.std.proofs.Common.{◌≡◌, ◌∙◌, ◌-◌, ◌≢◌, ◌++◌, ◌==◌, ℕ, true, false, cond, List, [], ◌∷◌, length, take, get_or, refl, sym, ap, subst, arith}
use Rattle.std.proofs.Math.Seq.{get_or-append_seam, take-append_seam, take-length, take-suc}
use Rattle.std.proofs.lemmas.Bool.{eqb-true}
use Rattle.std.proofs.lemmas.List.{length-append}
use Rattle.session_text.specs.Lines.{line_text}

-- one at the end is taken off
pub taken_off : (text line : List ℕ) → line ≡ text ++ 13 ∷ [] → line_text line ≡ text
taken_off text line is = subst (λ l. line_text l ≡ text) (sym is) (ap (λ b. cond (b == 13) (take (length whole - 1) whole) whole) last ∙ front)
  where
    whole : List ℕ
    whole = text ++ 13 ∷ []

    place : length whole - 1 ≡ length text
    place = omega (arith, length-append text (13 ∷ []))

    last : get_or whole (length whole - 1) 0 ≡ 13
    last = ap (λ n. get_or whole n 0) place ∙ get_or-append_seam text 13 [] 0

    front : take (length whole - 1) whole ≡ text
    front = ap (λ n. take n whole) place ∙ take-append_seam text (13 ∷ [])

-- where there is none, nothing is
pub none_off : (line : List ℕ) → ((front : List ℕ) → line ≢ front ++ 13 ∷ []) → line_text line ≡ line
none_off [] none = refl
none_off (b ∷ bs) none =
    elim (get_or (b ∷ bs) (length (b ∷ bs) - 1) 0 == 13) as (λ t. (get_or (b ∷ bs) (length (b ∷ bs) - 1) 0 == 13) ≡ t → cond t (take (length (b ∷ bs) - 1) (b ∷ bs)) (b ∷ bs) ≡ b ∷ bs) [
      | true ↦ λ e.
          let place : length (b ∷ bs) - 1 ≡ length bs = omega arith in
          let last : get_or (b ∷ bs) (length bs) 0 ≡ 13 = ap (λ n. get_or (b ∷ bs) n 0) (sym place) ∙ eqb-true _ 13 e in
          absurd (none (take (length bs) (b ∷ bs)) (sym (take-length (b ∷ bs)) ∙ (take-suc (b ∷ bs) (length bs) 0 (omega arith) ∙ ap (λ c. take (length bs) (b ∷ bs) ++ c ∷ []) last)))
      | false ↦ λ e. refl
    ] refl
