-- For private contracts alone: what a reader of CSV has left, and what taking a row of it does.
use Rattle.std.specs.Prelude.{◌≡◌, ℕ, ◌+◌, List, [], ◌∷◌, length, true, Option, Some, None, option_map}
use Rattle.csv.specs.Reading.{records_from, default_config, source_of, Ready, reader_state, reader_config, reader_trim, is_flexible}
use Rattle.csv.specs.declared.parser.State.{State}
use Rattle.csv.specs.declared.reader.Reader.{Reader}
use Rattle.csv.specs.declared.reader.Trim.TheVariants as trim
use Rattle.feature_feed.specs.declared.csv_rows.Stage.{Stage}
use Rattle.feature_feed.specs.declared.csv_rows.Stage.TheVariants.{Open, Ended, Lost}

-- rows, each a list of fields
abbrev pub Rows : Type 0
Rows = List (List (List ℕ))

-- the records of a text from a state of the reader on
abbrev pub rows_from : State → List ℕ → Rows
rows_from s xs = records_from default_config (length xs + 1) s xs

-- the rows that a reader has left, where it tells its bytes
abbrev pub rows_of : {R : Type 0} → (R → Option (List ℕ)) → Reader R → Option Rows
rows_of rem r = option_map (rows_from (reader_state r)) (source_of rem r)

-- the rows that are left at a stage: those of the reader while it is open, none at the end, and unknown after want of memory
abbrev pub rows_at : Stage → Option Rows → Option Rows
rows_at Open rows = rows
rows_at Ended rows = Some []
rows_at Lost rows = None

-- a reader with the default setup, of records of any length, which tells its bytes
abbrev pub IsPlain : {R : Type 0} → (R → Option (List ℕ)) → Reader R → Type 0
IsPlain rem r = Ready r × (reader_trim r ≡ trim.None) × (is_flexible r ≡ true) × (reader_config r ≡ default_config) × (xs : List ℕ) × (source_of rem r ≡ Some xs)

-- of these rows the first is given and the others are left; or there is none, and none is given
abbrev pub GivesRow : Rows → Option (List (List ℕ)) → Option Rows → Type 0
GivesRow rows None left = (rows ≡ []) × (left ≡ Some [])
GivesRow rows (Some row) left = (more : Rows) × (rows ≡ row ∷ more) × (left ≡ Some more)
