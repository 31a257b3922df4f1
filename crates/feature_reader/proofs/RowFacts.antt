-- The fields of a row, looked up one by one.
use Rattle.std.proofs.Common.{◌≡◌, ℕ, zero, suc, List, [], ◌∷◌, refl}
use Rattle.std.specs.Prelude.{slice_get}
use Rattle.csv.specs.Records.{field_at}

-- two ways to look up a field
pub same_field : (fields : List (List ℕ)) (place : ℕ) → field_at fields place ≡ slice_get fields place
unfolding field_at
same_field [] place = refl
same_field (f ∷ fs) zero = refl
same_field (f ∷ fs) (suc place) = same_field fs place
