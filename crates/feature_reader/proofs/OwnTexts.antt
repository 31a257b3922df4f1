-- The names of texts in languages.
use Rattle.std.proofs.Common.{◌≡◌, true, false, cond, ℕ, List, ◌++◌, ◌&&◌, refl, Some, None}
use Rattle.std.specs.Prelude.{codes, nat_eq, drop}
use Rattle.std.specs.List.{starts_with}
use Rattle.std.proofs.lemmas.Bool.Decides.{Decides-eqb}
use Rattle.std.proofs.lemmas.Slice.Eq.{starts_is}
use Rattle.geo_base.specs.LangCode.{is_code}
use Rattle.feature_reader.specs.Feature.{text_code}

-- a name that begins otherwise is none of a text in a language
pub other_name : (name : List ℕ) → ((rest : List ℕ) → name ≡ codes "carmen:text_" ++ rest → ⊥) → None ≡ text_code name
other_name name other = elim (starts_with nat_eq name (codes "carmen:text_")) as (λ b. starts_with nat_eq name (codes "carmen:text_") ≡ b → None ≡ cond (b && is_code (drop 12 name)) (Some (drop 12 name)) None) [
  | true ↦ λ e. absurd (other (drop 12 name) ((starts_is Decides-eqb name (codes "carmen:text_") _ refl).0 e))
  | false ↦ λ e. refl
] refl
