-- Events of a search, as the words of a line.
use Rattle.std.specs.Prelude.{ℕ, ◌-◌, ◌<◌, List, [], ◌∷◌, ◌&&◌, ◌==◌, nat_le, if◌then◌else◌, Option, Some, None}
use Rattle.geo_base.specs.declared.event.Event.{Event}
use Rattle.geo_base.specs.declared.event.Event.TheVariants.{Claim, Look, Cut, Open, Raise}
use Rattle.geo_layer.specs.Json.{each_of}

-- the event that a letter says of a worker
abbrev pub event_by : ℕ → ℕ → Option Event
event_by letter worker =
    if letter == 99 then Some (Claim worker)
    else if letter == 108 then Some (Look worker)
    else if letter == 120 then Some (Cut worker)
    else if letter == 111 then Some (Open worker)
    else if letter == 114 then Some (Raise worker)
    else None

-- the event that a word is: `c`, `l`, `x`, `o` or `r`, and the digit of a worker, 0 to 7
abbrev pub event_of : List ℕ → Option Event
event_of (letter ∷ digit ∷ []) = if nat_le 48 digit && nat_le digit 55 then event_by letter (digit - 48) else None
event_of word = None

-- the events that words are, where each of them is one
abbrev pub events_of : List (List ℕ) → Option (List Event)
events_of words = each_of event_of words

-- the event is one of the workers 0 to 7
abbrev pub IsOfEight : Event → Type 0
IsOfEight (Claim worker) = worker < 8
IsOfEight (Look worker) = worker < 8
IsOfEight (Cut worker) = worker < 8
IsOfEight (Open worker) = worker < 8
IsOfEight (Raise worker) = worker < 8
