-- What the bytes of a source give: the head of a session, its closed rounds, and how it ends.
use Rattle.std.specs.Prelude.{ℕ, ◌+◌, Bool, List, [], ◌∷◌, ◌++◌, ◌&&◌, ◌||◌, ◌==◌, nat_lt, length, codes, bytes_eq, flat_map, if◌then◌else◌, Result, Ok, Err}
use Rattle.std.specs.List.{slice_split}
use Rattle.geo_layer.specs.declared.head.Head.{Head}
use Rattle.session_text.specs.Lines.{longest, line_text}
use Rattle.session_text.specs.Session.{SessionView, start, line_at, after_item, step_of, named_by}
use Rattle.session_text.specs.declared.body.BodyLine.{BodyLine}
use Rattle.session_text.specs.declared.item.Item.{Item}
use Rattle.session_text.specs.declared.session.Kind.{Kind}
use Rattle.session_text.specs.declared.session.Step.{Step}
use Rattle.session_text.specs.declared.session.Step.TheVariants.{More, Ready, Last}
use Rattle.session_text.specs.declared.why.Why.{Why}

-- ---- lines

-- the rest after the last line feed is a line where it is too long, however it goes on; and where the source ends there and it is `end`
abbrev pub last_line : Bool → List ℕ → List (List ℕ)
last_line ended rest = if nat_lt longest (length rest) || (ended && bytes_eq (line_text rest) (codes "end")) then rest ∷ [] else []

-- the lines of the parts between line feeds
abbrev pub lines_in : Bool → List (List ℕ) → List (List ℕ)
lines_in ended [] = []
lines_in ended (x ∷ []) = last_line ended x
lines_in ended (x ∷ y ∷ more) = x ∷ lines_in ended (y ∷ more)

-- the lines of some bytes; ended: the source ends there
abbrev pub lines_of : Bool → List ℕ → List (List ℕ)
lines_of ended bytes = lines_in ended (slice_split (λ b. b == 10) bytes)

-- ---- what they give

-- there is an `end` line; or this line, counted from 1, is refused before that, and why; or neither
pub data Ending : Type 0 where
  at_end_line : Ending
  at_bad_line : ℕ → Why → Ending
  unended : Ending

-- the head, the closed rounds, and the ending
pub record Reading : Type 0 where
  pub head : Head
  pub rounds : List (List BodyLine)
  pub ending : Ending

-- a reading that ends where a session stands
abbrev pub stopped : SessionView → List (List BodyLine) → Ending → Reading
stopped session rounds ending = record { head = session.head; rounds = rounds; ending = ending }

-- a reading with rounds before its own
abbrev pub with_rounds : List (List BodyLine) → Reading → Reading
with_rounds rounds reading = record reading { rounds = rounds ++ reading.rounds }

-- the reading after a line that does this and leaves the session so; next is the reading of the lines after it
abbrev pub after_step : Step → SessionView → (SessionView → Reading) → Reading
after_step More session next = next session
after_step (Ready round) session next = with_rounds (round ∷ []) (next session)
after_step (Last round) session next = stopped session (round ∷ []) at_end_line

-- the reading after a line of this number that says this, or is refused
abbrev pub reading_after : SessionView → ℕ → Result Item Why → (SessionView → Reading) → Reading
reading_after session n (Ok item) next = after_step (step_of session.round item) (after_item session item) next
reading_after session n (Err why) next = stopped session [] (at_bad_line n why)

-- the reading of lines from where a session stands, the first of which has this number
abbrev pub reading_from : SessionView → ℕ → List (List ℕ) → Reading
reading_from session n [] = stopped session [] unended
reading_from session n (line ∷ lines) = reading_after session n (line_at session line) (λ next. reading_from next (n + 1) lines)

-- the reading from where a session stands behind so much of the line of this number, over what follows
abbrev pub reading_on : SessionView → ℕ → List ℕ → Bool → List ℕ → Reading
reading_on session n begun ended more = reading_from session n (lines_of ended (begun ++ more))

-- the reading of these bytes; ended: the source was found at its end
abbrev pub reading : ℕ → Kind → Bool → List ℕ → Reading
reading feeds kind ended bytes = reading_on (start feeds kind) 1 [] ended bytes

-- ---- the lines that were read

-- the lines of these rounds, one after another
abbrev pub lines_of_rounds : List (List BodyLine) → List BodyLine
lines_of_rounds [] = []
lines_of_rounds (round ∷ rounds) = round ++ lines_of_rounds rounds

-- the feeds that these lines name, in order
abbrev pub feeds_named : List BodyLine → List ℕ
feeds_named lines = flat_map named_by lines
