-- A text with more than four slashes names no box.
use Rattle.std.proofs.Common.{◌≡◌, ◌∙◌, ℕ, List, ◌∷◌, Option, None, Some, IfSome, refl, ap, ◌==◌}
use Rattle.std.specs.Prelude.{option_and_then}
use Rattle.std.specs.List.{slice_split}
use Rattle.geo_text.proofs.SplitParts.{some_part}
use Rattle.geo_text.specs.Numbers.{numbers_of, number_of}
use Rattle.geo_query.specs.Query.{box_of, box_of_numbers}

-- there is a first number
abbrev Starts : Option (List ℕ) → Type 0
Starts p = IfSome p (λ ns. (n : ℕ) × (ms : List ℕ) × (ns ≡ n ∷ ms))

-- one more number in front
abbrev on : Option ℕ → Option (List ℕ) → Option (List ℕ)
on o p = option_and_then (λ n. option_and_then (λ ns. Some (n ∷ ns)) p) o

-- where a first number and the others are there, there is a first
starts : (o : Option ℕ) (p : Option (List ℕ)) → Starts (on o p)
starts None p = tt
starts (Some n) None = tt
starts (Some n) (Some ns) = (n, ns, refl)

-- six numbers or more make no box
six : (z x0 y0 x1 y1 : Option ℕ) (p : Option (List ℕ)) → Starts p → option_and_then box_of_numbers (on z (on x0 (on y0 (on x1 (on y1 p))))) ≡ None
six None x0 y0 x1 y1 p h = refl
six (Some z) None y0 x1 y1 p h = refl
six (Some z) (Some x0) None x1 y1 p h = refl
six (Some z) (Some x0) (Some y0) None y1 p h = refl
six (Some z) (Some x0) (Some y0) (Some x1) None p h = refl
six (Some z) (Some x0) (Some y0) (Some x1) (Some y1) None h = refl
six (Some z) (Some x0) (Some y0) (Some x1) (Some y1) (Some ns) h = rw h.2 refl

-- the fields of a text between its slashes
abbrev fields : List ℕ → List (List ℕ)
fields text = slice_split (λ b. b == 47) text

-- five slashes or more
pub too_many : (text z after_z x0 after_x0 y0 after_y0 x1 after_x1 y1 more : List ℕ) → fields text ≡ z ∷ fields after_z → fields after_z ≡ x0 ∷ fields after_x0 → fields after_x0 ≡ y0 ∷ fields after_y0
    → fields after_y0 ≡ x1 ∷ fields after_x1 → fields after_x1 ≡ y1 ∷ fields more → box_of text ≡ None
too_many text z after_z x0 after_x0 y0 after_y0 x1 after_x1 y1 more first second third fourth fifth =
    let last = some_part (λ b. b == 47) more in
    let all : fields text ≡ z ∷ x0 ∷ y0 ∷ x1 ∷ y1 ∷ last.0 ∷ last.1 =
    first ∙ ap (λ l. z ∷ l) (second ∙ ap (λ l. x0 ∷ l) (third ∙ ap (λ l. y0 ∷ l) (fourth ∙ ap (λ l. x1 ∷ l) (fifth ∙ ap (λ l. y1 ∷ l) last.2)))) in
    ap (λ l. option_and_then box_of_numbers (numbers_of l)) all
    ∙ six (number_of z) (number_of x0) (number_of y0) (number_of x1) (number_of y1) (numbers_of (last.0 ∷ last.1)) (starts (number_of last.0) (numbers_of last.1))
