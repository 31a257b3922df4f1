-- For private contracts alone: the order of roots, by bounds that were computed once.
use Rattle.std.specs.Prelude.{ℕ, [], ◌∷◌}
use Rattle.std.specs.Ordering.{nat_cmp, ordering_then}
use Rattle.std.specs.declared.cmp.Ordering.{Ordering}
use Rattle.geo_base.specs.declared.job.Job.{Job}
use Rattle.stackable.specs.declared.roots.Root.{Root}
use Rattle.stackable.specs.Partial.{bound}

-- a piece with the bound of the partial that it alone is
abbrev pub root_of : Job → ℕ → Root
root_of job k = record { bound = bound job (k ∷ []); piece = k }

-- greater bound, then smaller piece number
abbrev pub by_bound : Root → Root → Ordering
by_bound a b = ordering_then (nat_cmp b.bound a.bound) (nat_cmp a.piece b.piece)
