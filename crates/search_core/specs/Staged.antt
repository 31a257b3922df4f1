-- For private contracts alone: the state of a replay by what its workers have in hand.
use Rattle.std.specs.Prelude.{ℕ, List, [], map}
use Rattle.search_core.specs.Machine.{State}
use Rattle.search_core.specs.Hand.{Hand, as_worker}

-- the state without claims
abbrev pub staged : ℕ → ℕ → List Hand → State
staged next floor hands = record { next = next; floor = floor; workers = map (as_worker []) hands }
