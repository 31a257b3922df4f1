-- What keeps the features of a table in the layers of a head, at their zooms.
use Rattle.std.proofs.Common.{◌≡◌, ℕ, Bool, true, false, not, [], ◌∷◌, All, Some, Result, Ok, Err, refl, sym, subst}
use Rattle.std.specs.Prelude.{slice_get, IfSome, IsSome}
use Rattle.std.proofs.lemmas.List.Elements.{All-cons, All-head, All-tail, All-filter}
use Rattle.geo_layer.specs.Layer.{LayerView}
use Rattle.geo_layer.specs.declared.head.Head.{Head}
use Rattle.feature_reader.specs.FeatureView.{FeatureView}
use Rattle.feature_reader.specs.Table.{Table, is_at, comes_before, without, inserted, with_feature, put_answer, after_put, put, IsOfHead}
use Rattle.feature_reader.specs.declared.taker.PutFault.{PutFault}
use Rattle.feature_reader.specs.declared.taker.Taken.{Taken}
use Rattle.feature_reader.proofs.Zooms.{AtZoom}

-- the entry's feature is in a layer of the head, at its zoom
abbrev IsIn : Head → ℕ × FeatureView → Type 0
IsIn head entry = IsSome (slice_get head.layers entry.0) × IfSome (slice_get head.layers entry.0) (λ layer. AtZoom layer.zoom entry.1)

is_in : (head : Head) (n : ℕ) (layer : LayerView) (f : FeatureView) → slice_get head.layers n ≡ Some layer → AtZoom layer.zoom f → IsIn head (n, f)
is_in head n layer f there at = subst (λ o. IsSome o × IfSome o (λ l. AtZoom l.zoom f)) (sym there) (refl, at)

inserted_all : (P : ℕ × FeatureView → Type 0) (layer : ℕ) (f : FeatureView) (table : Table) → P (layer, f) → All P table → All P (inserted layer f table)
inserted_all P layer f [] one all = All-cons P (layer, f) [] one all
inserted_all P layer f (e ∷ es) one all = by (inserted_all P layer f es one (All-tail P e es all)) (comes_before layer f.id e) refl
  where
    by : All P (inserted layer f es) → (b : Bool) → comes_before layer f.id e ≡ b → All P (inserted layer f (e ∷ es))
    by later true is = rw is (All-cons P (layer, f) (e ∷ es) one all)
    by later false is = rw is (All-cons P e (inserted layer f es) (All-head P e es all) later)

-- what is left after a feature is removed is of the head
pub without_of_head : (head : Head) (table : Table) (layer id : ℕ) → IsOfHead head table → IsOfHead head (without table layer id)
without_of_head head table layer id all = All-filter (λ e. not (is_at layer id e)) (IsIn head) table all

-- a feature at a layer's zoom is taken into the layer
pub with_of_head : (head : Head) (table : Table) (n : ℕ) (layer : LayerView) (f : FeatureView) → IsOfHead head table → slice_get head.layers n ≡ Some layer → All (λ t. t.z ≡ layer.zoom) f.tiles → IsOfHead head (with_feature table n f)
with_of_head head table n layer f all there at = inserted_all (IsIn head) n f (without table n f.id) (is_in head n layer f there at) (without_of_head head table n f.id all)

-- a put of a feature at a layer's zoom into the layer, also a refused one
pub put_of_head : (head : Head) (table : Table) (n : ℕ) (layer : LayerView) (f : FeatureView) → IsOfHead head table → slice_get head.layers n ≡ Some layer → All (λ t. t.z ≡ layer.zoom) f.tiles → IsOfHead head (put table n f)
put_of_head head table n layer f all there at = by (put_answer table n f)
  where
    by : (answer : Result Taken PutFault) → IsOfHead head (after_put table n f answer)
    by (Ok taken) = with_of_head head table n layer f all there at
    by (Err fault) = all
