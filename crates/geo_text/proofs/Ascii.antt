-- Texts of ASCII, as a test of each byte.
use Rattle.std.proofs.Common.{◌≡◌, ◌<◌, ℕ, zero, suc, true, false, List, [], ◌∷◌, get_or, refl, arith, IsAscii}
use Rattle.std.proofs.lemmas.Bool.{and_parts, ltb-true, lt-ltb}
use Rattle.geo_text.specs.Tokens.{is_ascii}

-- a text of ASCII passes the test of each byte
pub is_ascii-true : (bs : List ℕ) → IsAscii bs → is_ascii bs ≡ true
is_ascii-true [] h = refl
is_ascii-true (b ∷ bs) h = rw (lt-ltb b 128 (h zero), is_ascii-true bs (λ i. h (suc i))) refl

-- a text whose bytes all pass the test is ASCII
pub is_ascii-all : (bs : List ℕ) → is_ascii bs ≡ true → IsAscii bs
is_ascii-all [] h = λ i. omega arith
is_ascii-all (b ∷ bs) h =
    let both = and_parts _ _ h in
    λ i. elim i as (λ i. get_or (b ∷ bs) i 0 < 128) [ zero ↦ ltb-true b 128 both.0 | suc k ↦ is_ascii-all bs both.1 k ]

-- where a test fails, the text is not ASCII
pub is_ascii-false : (bs : List ℕ) → (IsAscii bs → ⊥) → is_ascii bs ≡ false
is_ascii-false bs h = elim (is_ascii bs) as (λ b. is_ascii bs ≡ b → is_ascii bs ≡ false) [ true ↦ λ e. absurd (h (is_ascii-all bs e)) | false ↦ λ e. e ] refl
