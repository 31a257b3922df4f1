-- The walk over the tree of partials.
use Rattle.std.specs.Prelude.{ℕ, zero, suc, List, [], ◌∷◌, flat_map}
use Rattle.geo_base.specs.declared.job.Job.{Job}
use Rattle.stackable.specs.Partial.{children, roots}

-- a partial, and what is reached from it over at most so many children, depth first
abbrev pub reached_from : Job → ℕ → List ℕ → List (List ℕ)
reached_from job zero p = p ∷ []
reached_from job (suc n) p = p ∷ flat_map (reached_from job n) (children job p)

-- the partials that the walk from the roots over children reaches; a partial of 16 pieces has no child
abbrev pub reached : Job → List (List ℕ)
reached job = flat_map (reached_from job 15) (roots job)
