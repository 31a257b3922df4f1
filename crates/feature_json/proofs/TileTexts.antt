-- A text with more than two slashes names no tile.
use Rattle.std.proofs.Common.{◌≡◌, ◌∙◌, ℕ, List, ◌∷◌, Option, None, Some, IfSome, refl, ap, ◌==◌}
use Rattle.std.specs.Prelude.{option_and_then}
use Rattle.std.specs.List.{slice_split}
use Rattle.geo_text.proofs.SplitParts.{some_part}
use Rattle.geo_text.specs.Numbers.{numbers_of, number_of}
use Rattle.feature_json.specs.Tiles.{tile_of, tile_of_numbers}

-- where a first number and the others are there, there is a first
both : (o : Option ℕ) (p : Option (List ℕ)) → IfSome (option_and_then (λ n. option_and_then (λ ns. Some (n ∷ ns)) p) o) (λ ns. (n : ℕ) × (ms : List ℕ) × (ns ≡ n ∷ ms))
both None p = tt
both (Some n) None = tt
both (Some n) (Some ns) = (n, ns, refl)

-- one more number in front
abbrev on : Option ℕ → Option (List ℕ) → Option (List ℕ)
on o p = option_and_then (λ n. option_and_then (λ ns. Some (n ∷ ns)) p) o

-- four numbers or more make no tile
four : (a b c : Option ℕ) (p : Option (List ℕ)) → IfSome p (λ ns. (n : ℕ) × (ms : List ℕ) × (ns ≡ n ∷ ms)) → option_and_then tile_of_numbers (on a (on b (on c p))) ≡ None
four None b c p h = refl
four (Some z) None c p h = refl
four (Some z) (Some x) None p h = refl
four (Some z) (Some x) (Some y) None h = refl
four (Some z) (Some x) (Some y) (Some ns) h = rw h.2 refl

-- three slashes or more
pub too_many : (text z rest x y a b : List ℕ) → slice_split (λ c. c == 47) text ≡ z ∷ slice_split (λ c. c == 47) rest → slice_split (λ c. c == 47) rest ≡ x ∷ slice_split (λ c. c == 47) y
    → slice_split (λ c. c == 47) y ≡ a ∷ slice_split (λ c. c == 47) b → tile_of text ≡ None
too_many text z rest x y a b first second third =
    let last = some_part (λ c. c == 47) b in
    let parts : slice_split (λ c. c == 47) text ≡ z ∷ x ∷ a ∷ last.0 ∷ last.1 = first ∙ ap (λ l. z ∷ l) (second ∙ ap (λ l. x ∷ l) (third ∙ ap (λ l. a ∷ l) last.2)) in
    ap (λ l. option_and_then tile_of_numbers (numbers_of l)) parts ∙ four (number_of z) (number_of x) (number_of a) (numbers_of (last.0 ∷ last.1)) (both (number_of last.0) (numbers_of last.1))
