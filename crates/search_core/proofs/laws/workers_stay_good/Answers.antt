use Rattle.std.proofs.Common.{ap, refl, slice_get}
use Rattle.stackable.specs.Partial.{roots}
use Rattle.search_core.specs.Machine.{top_partial}
use Rattle.stackable.proofs.TreeFacts.{root_is_partial, child_is_partial}
use Rattle.search_core.proofs.FloorFacts.{floor_of_is_sound}
use Rattle.search_core.proofs.GoodFacts.{idle_is_good, looked_is_good, cut_is_good, claimed_is_good, opened_is_good}
use Rattle.search_core.proofs.laws.workers_stay_good.Goals as goal

pub returns : goal.returns
returns c = record {
  new = idle_is_good;
  claimed = λ job cells fits w k idle good. claimed_is_good job cells fits w k (slice_get (roots job) k) refl (ap top_partial idle) (λ r e. root_is_partial job fits.is_job k r e) good;
  looked = looked_is_good;
  cut = cut_is_good;
  opened = λ job cells fits w may good. opened_is_good job cells fits w (child_is_partial job fits.is_job) good;
  raised = λ job cells fits w good. floor_of_is_sound job cells w.top good.top;
}
