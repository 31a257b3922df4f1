-- Partials with their bounds.
use Rattle.std.specs.Prelude.{◌≡◌, ℕ, List}
use Rattle.geo_base.specs.declared.job.Job.{Job}
use Rattle.stackable.specs.declared.bounded.Bounded.{Bounded}
use Rattle.stackable.specs.Partial.{IsPartial, bound}

-- the partial with its bound
abbrev pub with_bound : Job → List ℕ → Bounded
with_bound job p = record { partial = p; bound = bound job p }

-- a partial of the job, with its bound
pub record IsBounded (job : Job) (b : Bounded) : Type 0 where
  pub partial : IsPartial job b.partial
  pub bound : b.bound ≡ bound job b.partial
