-- For private contracts alone: what can be seen of a state of the search machine whose claims nobody keeps.
use Rattle.std.specs.Prelude.{[], map}
use Rattle.search_core.specs.Machine.{WorkerState, State}

-- a worker that has claimed nothing, with the same in hand
abbrev pub unclaimed : WorkerState → WorkerState
unclaimed w = record { claims = []; stack = w.stack; seen = w.seen; top = w.top }

-- the state without the claims
abbrev pub shown : State → State
shown s = record { next = s.next; floor = s.floor; workers = map unclaimed s.workers }
