-- What a run of the program does: it tells of itself, or calls `carmen`; and how it ends.
use Rattle.std.specs.Prelude.{◌≡◌, ◌≢◌, ◌↔◌, ◌≤◌, ℕ, List, [], ◌∷◌, ◌++◌, ◌||◌, length, codes, decimal, bytes_eq, if◌then◌else◌, Option, Some, None}
use Rattle.std.specs.Io.KnownBytes.{Keeps, Appends}
use Rattle.geo_outside.specs.Device.{Rose, most_bytes}
use Rattle.feature_feed.specs.Feed.{FeedView}
use Rattle.session_text.specs.Status.{status_text}
use Rattle.session_text.specs.declared.session.Kind.{Kind}
use Rattle.session_text.specs.declared.status.Status.{Status}
use Rattle.session_text.specs.declared.status.Status.TheVariants.{Done, Usage, ReadFault, WriteFault, Memory}
use Rattle.query_server.specs.Promise.{EndsAs, IsDecided, IsFront, IsProperFront}
use Rattle.carmen_cli.specs.TopCall.{kind_asked}
use Rattle.carmen_cli.specs.declared.about.TheConstants.{HELP, VERSION}
use Rattle.carmen_cli.specs.declared.about.About.{About}
use Rattle.carmen_cli.specs.declared.about.About.TheVariants.{Help, Version}

-- ---- what it tells of itself

-- what the first word asks to be told, whatever follows it
abbrev pub about_of : List (List ℕ) → Option About
about_of [] = None
about_of (word ∷ more) =
    if bytes_eq word (codes "--help") || bytes_eq word (codes "-h") then Some Help
    else if bytes_eq word (codes "--version") || bytes_eq word (codes "-V") then Some Version
    else None

-- the text that is told
abbrev pub about_text : About → List ℕ
about_text Help = HELP.now
about_text Version = VERSION.now

-- what a status says of a text that is told: it was written; or, after a failed write, not all of it; or a front of it, where memory was wanting; only a failed write is a fault of the sink
abbrev pub IsTold : List ℕ → Option (List ℕ) → Option (List ℕ) → ℕ → ℕ → Status → Type 0
IsTold text contents contents_after faults faults_after Done = (faults_after ≡ faults) × Appends contents contents_after text
IsTold text contents contents_after faults faults_after WriteFault = Rose faults faults_after × ((put : List ℕ) × Appends contents contents_after put × IsProperFront put text)
IsTold text contents contents_after faults faults_after Memory = (faults_after ≡ faults) × ((put : List ℕ) × Appends contents contents_after put × IsFront put text)
IsTold text contents contents_after faults faults_after status = ⊥

-- ---- how it ends

-- what is told of a status where errors go: its text and a line feed; nothing of `Done`
abbrev pub told_of : Status → List ℕ
told_of Done = []
told_of status = status_text status ++ codes "\n"

-- what is told where the file of the feed of this number, counted from 0, can't be opened
abbrev pub unopened_text : ℕ → List ℕ
unopened_text n = codes "carmen: feed " ++ decimal n ++ codes " cannot be opened\n"

-- the exit status of a run that can't open a file of a feed
abbrev pub unopened_exit : ℕ
unopened_exit = 9

-- what `carmen` promises of the status that it answers to these words; left, contents: the bytes that its source has left and that its sink has, before and after; feeds: what its feeds show; reads, writes: how many reads and writes have failed
pub record IsAnsweredAs (words : List (List ℕ)) (left left_after contents contents_after : Option (List ℕ)) (feeds feeds_after : List FeedView) (reads reads_after writes writes_after : ℕ) (status : Status) : Type 0 where
  pub session : (kind : Kind) → kind_asked words ≡ Some kind → EndsAs most_bytes kind left left_after contents contents_after feeds feeds_after status
  pub usage : (status ≡ Usage) ↔ (kind_asked words ≡ None)
  pub untouched : status ≡ Usage → Keeps left left_after × Keeps contents contents_after × (reads_after ≡ reads) × (writes_after ≡ writes) × (feeds_after ≡ feeds)
  pub read_fault : status ≡ ReadFault → Rose reads reads_after
  pub write_fault : status ≡ WriteFault → Rose writes writes_after
  pub decided : (kind : Kind) → kind_asked words ≡ Some kind → ¬ (Rose reads reads_after) → ¬ (Rose writes writes_after) → IsDecided most_bytes kind (length feeds) left status
  pub later : (reads ≤ reads_after) × (writes ≤ writes_after)
  pub kept : (status ≢ ReadFault → reads_after ≡ reads) × (status ≢ WriteFault → writes_after ≡ writes)

-- what a run with these words does, by the status that it ends with: it tells of itself, reads nothing and pulls no feed, or it answers one session
abbrev pub IsRunAs : List (List ℕ) → Option (List ℕ) → Option (List ℕ) → Option (List ℕ) → Option (List ℕ) → List FeedView → List FeedView → ℕ → ℕ → ℕ → ℕ → Status → Type 0
IsRunAs words left left_after contents contents_after feeds feeds_after reads reads_after writes writes_after status = elim (about_of words) [
  | None ↦ IsAnsweredAs words left left_after contents contents_after feeds feeds_after reads reads_after writes writes_after status
  | Some about ↦ Keeps left left_after × (reads_after ≡ reads) × (feeds_after ≡ feeds) × IsTold (about_text about) contents contents_after writes writes_after status
]

-- a text was written, or a front of it, where the sink failed or memory was wanting
abbrev pub IsBegun : Option (List ℕ) → Option (List ℕ) → List ℕ → Type 0
IsBegun contents contents_after text = (put : List ℕ) × Appends contents contents_after put × IsFront put text
