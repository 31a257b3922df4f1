-- The rows of a text of CSV, taken one by one.
use Rattle.std.proofs.Common.{◌≡◌, ◌<◌, ◌⊎◌, ℕ, zero, suc, Bool, true, false, List, [], ◌∷◌, ◌++◌, ◌+◌, ◌&&◌, length, Option, Some, None, refl, sym, ap, subst, ◌∙◌, inl, inr, arith, codes, bytes_eq, IfSome, IfOk, Result, Ok, Err}
use Rattle.std.specs.Prelude.{if◌then◌else◌}
use Rattle.csv.specs.Machine.{Read, next_record, step, is_end, ends_at_end, fields_after, field_after}
use Rattle.csv.specs.Reading.{records_from, records_next, default_config, ReadRecord, Reached}
use Rattle.csv.specs.Records.{field_at}
use Rattle.csv.specs.declared.parser.State.{State}
use Rattle.csv.specs.declared.parser.State.TheVariants as st
use Rattle.csv.specs.declared.reader.Reader.{Reader}
use Rattle.csv.proofs.ReadFacts.{rows-more, rows-end}
use Rattle.feature_feed.specs.Csv.{is_header, without_header}
use Rattle.feature_feed.specs.declared.csv_rows.Stage.{Stage}
use Rattle.feature_feed.specs.declared.csv_rows.Stage.TheVariants as stage
use Rattle.feature_feed.specs.CsvRows.{Rows, rows_at, rows_from, rows_of, IsPlain, GivesRow}

-- a record leaves fewer bytes, or it was the last one
pub shorter : (s : State) (fields : List (List ℕ)) (field xs : List ℕ) (p : Read) → next_record default_config s fields field xs ≡ Some p
    → (length p.2 < length xs) ⊎ ((p.1 ≡ st.StartRecord) × (p.2 ≡ []))
unfolding next_record
shorter s fields field [] p e = by (ends_at_end s) refl e
  where
    by : (b : Bool) → ends_at_end s ≡ b → (if b then Some (fields ++ (field ∷ []), st.StartRecord, []) else None) ≡ Some p
        → (length p.2 < 0) ⊎ ((p.1 ≡ st.StartRecord) × (p.2 ≡ []))
    by true is e =
        let last : ◌≡◌ {A = Read} (fields ++ (field ∷ []), st.StartRecord, []) p = cc e in
        inr (sym (ap (λ (q : Read). q.1) last), sym (ap (λ (q : Read). q.2) last))
    by false is e = cc e
shorter s fields field (c ∷ rest) p e =
    by (is_end (step default_config s c).1) e (shorter (step default_config s c).0 (fields_after (step default_config s c).1 fields field) (field_after (step default_config s c).1 c field) rest p)
  where
    by : (b : Bool)
        → (if b then Some (fields_after (step default_config s c).1 fields field, (step default_config s c).0, rest)
        else next_record default_config (step default_config s c).0 (fields_after (step default_config s c).1 fields field) (field_after (step default_config s c).1 c field) rest) ≡ Some p
        → (next_record default_config (step default_config s c).0 (fields_after (step default_config s c).1 fields field) (field_after (step default_config s c).1 c field) rest ≡ Some p
        → (length p.2 < length rest) ⊎ ((p.1 ≡ st.StartRecord) × (p.2 ≡ [])))
        → (length p.2 < length (c ∷ rest)) ⊎ ((p.1 ≡ st.StartRecord) × (p.2 ≡ []))
    by true e more =
        let next : ◌≡◌ {A = Read} (fields_after (step default_config s c).1 fields field, (step default_config s c).0, rest) p = cc e in
        let behind : length rest ≡ length p.2 = ap (λ (q : Read). length q.2) next in
        inl (omega arith)
    by false e more = elim (more e) [ inl less ↦ inl (omega arith) | inr last ↦ inr last ]

-- an empty text has no records
pub none_left : (n : ℕ) → records_from default_config n st.StartRecord [] ≡ []
unfolding records_from next_record
none_left zero = refl
none_left (suc n) = refl

-- more turns than bytes read all records
pub enough : (n m : ℕ) (s : State) (xs : List ℕ) → length xs < n → length xs < m → records_from default_config n s xs ≡ records_from default_config m s xs
unfolding records_from
enough zero m s xs a b = absurd (omega arith)
enough (suc n) zero s xs a b = absurd (omega arith)
enough (suc n) (suc m) s xs a b = by (λ t ys. enough n m t ys) (next_record default_config s [] [] xs) refl
  where
    rest : ((t : State) (ys : List ℕ) → length ys < n → length ys < m → records_from default_config n t ys ≡ records_from default_config m t ys)
        → (p : Read) → (length p.2 < length xs) ⊎ ((p.1 ≡ st.StartRecord) × (p.2 ≡ [])) → records_from default_config n p.1 p.2 ≡ records_from default_config m p.1 p.2
    rest more p (inl less) = more p.1 p.2 (omega arith) (omega arith)
    rest more p (inr last) = rw (last.0, last.1) (none_left n ∙ sym (none_left m))

    by : ((t : State) (ys : List ℕ) → length ys < n → length ys < m → records_from default_config n t ys ≡ records_from default_config m t ys)
        → (o : Option Read) → next_record default_config s [] [] xs ≡ o
        → records_next (records_from default_config n) (next_record default_config s [] [] xs) ≡ records_next (records_from default_config m) (next_record default_config s [] [] xs)
    by more None e = rw e refl
    by more (Some p) e = rw e (ap (λ rows. p.0 ∷ rows) (rest more p (shorter s [] [] xs p e)))

-- the records from a state are the next one and those behind it
pub rows_step : (s : State) (xs : List ℕ) (p : Read) → next_record default_config s [] [] xs ≡ Some p → rows_from s xs ≡ p.0 ∷ rows_from p.1 p.2
unfolding records_from
rows_step s xs p e =
    let same : length xs + 1 ≡ suc (length xs) = omega arith in
    rw (same, e) (ap (λ rows. p.0 ∷ rows) (behind (shorter s [] [] xs p e)))
  where
    behind : (length p.2 < length xs) ⊎ ((p.1 ≡ st.StartRecord) × (p.2 ≡ [])) → records_from default_config (length xs) p.1 p.2 ≡ rows_from p.1 p.2
    behind (inl less) = enough (length xs) (length p.2 + 1) p.1 p.2 less (omega arith)
    behind (inr last) = rw (last.0, last.1) (none_left (length xs) ∙ sym (none_left (length {A = ℕ} [] + 1)))

-- there are none where there is no next one
pub rows_none : (s : State) (xs : List ℕ) → next_record default_config s [] [] xs ≡ None → rows_from s xs ≡ []
unfolding records_from
rows_none s xs e =
    let same : length xs + 1 ≡ suc (length xs) = omega arith in
    rw (same, e) refl

-- of the rows that a reader has left a read gives the first
pub took_row : {R : Type 0} (rem : R → Option (List ℕ)) (a b : Reader R) (fields : List (List ℕ)) (rows : Rows) → IsPlain rem a → ReadRecord rem a b true fields
    → rows_of rem a ≡ Some rows → (more : Rows) × (rows ≡ fields ∷ more) × (rows_of rem b ≡ Some more)
unfolding Reached
took_row rem a b fields rows (ready, untrimmed, flexible, config, xs, told) read is =
    let went = rows-more rem a b fields default_config a.state xs xs [] config told (refl, refl) read in
    let p = went.2.0 in
    let first : rows_from a.state xs ≡ fields ∷ rows_from p.1 p.2 = rows_step a.state xs p went.2.1 ∙ ap (λ f. f ∷ rows_from p.1 p.2) (sym went.2.2) in
    let here : Some (rows_from a.state xs) ≡ Some rows = rw told at is in
    let there : (p.1 ≡ b.state) × (p.2 ≡ went.0) = went.2.3 in
    let behind : rows_from b.state went.0 ≡ rows_from p.1 p.2 = rw (there.0, there.1) refl in
    (rows_from p.1 p.2, cc (here, first), rw went.1 (ap Some behind))

-- the reader goes on with the same setup
pub still_plain : {R : Type 0} (rem : R → Option (List ℕ)) (a b : Reader R) (fields : List (List ℕ)) → IsPlain rem a → ReadRecord rem a b true fields
    → b.first ≡ true → b.flexible ≡ a.flexible → IsPlain rem b
unfolding Reached
still_plain rem a b fields (ready, untrimmed, flexible, config, xs, told) read first same =
    let went = rows-more rem a b fields default_config a.state xs xs [] config told (refl, refl) read in
    (inl first, read.3 ∙ untrimmed, same ∙ flexible, read.2 ∙ config, went.0, went.1)

-- where a read gives none, none were left
pub no_row : {R : Type 0} (rem : R → Option (List ℕ)) (a b : Reader R) (fields : List (List ℕ)) (rows : Rows) → IsPlain rem a → ReadRecord rem a b false fields
    → rows_of rem a ≡ Some rows → rows ≡ []
no_row rem a b fields rows (ready, untrimmed, flexible, config, xs, told) read is =
    let none : rows_from a.state xs ≡ [] = rows_none a.state xs (rows-end rem a b fields default_config xs config told read) in
    let here : Some (rows_from a.state xs) ≡ Some rows = rw told at is in
    cc (here, none)

-- a record of four fields is the header where each is its word
pub header_is : (row : List (List ℕ)) (a b c d : Bool) → length row ≡ 4
    → IfSome (field_at row 0) (λ f. a ≡ bytes_eq f (codes "id")) → IfSome (field_at row 1) (λ f. b ≡ bytes_eq f (codes "text"))
    → IfSome (field_at row 2) (λ f. c ≡ bytes_eq f (codes "zxy")) → IfSome (field_at row 3) (λ f. d ≡ bytes_eq f (codes "score"))
    → is_header row ≡ (a && b && c && d)
unfolding field_at
header_is [] a b c d n = absurd (omega arith)
header_is (p ∷ []) a b c d n = absurd (omega arith)
header_is (p ∷ q ∷ []) a b c d n = absurd (omega arith)
header_is (p ∷ q ∷ r ∷ []) a b c d n = absurd (omega arith)
header_is (p ∷ q ∷ r ∷ s ∷ []) a b c d n = λ w x y z. rw (w, x, y, z) refl
header_is (p ∷ q ∷ r ∷ s ∷ t ∷ more) a b c d n = absurd (omega arith)

-- the rows at an open stage are those of the reader
pub rows_open : (s : Stage) (o : Option Rows) → s ≡ stage.Open → rows_at s o ≡ o
rows_open s o is = rw is refl

-- what holds on `Ok`, weakened
pub if_ok_map : {A E : Type 0} {P Q : A → Type 0} (r : Result A E) → ((x : A) → P x → Q x) → IfOk r P → IfOk r Q
if_ok_map (Ok x) f h = f x h
if_ok_map (Err e) f h = h

-- where no record was left, there is no row
pub none_first : (rows : Rows) (left : Option Rows) → GivesRow rows None left → GivesRow (without_header rows) None left
none_first rows left gave = rw gave.0 (refl, gave.1)

-- a first record that isn't the header is the first row
pub row_first : (rows : Rows) (row : List (List ℕ)) (left : Option Rows) → is_header row ≡ false → GivesRow rows (Some row) left → GivesRow (without_header rows) (Some row) left
row_first rows row left other gave = (gave.0, rw (gave.1, other) refl, gave.2)

-- a first record that is the header is left out
pub header_first : (rows : Rows) (row : List (List ℕ)) (o : Option (List (List ℕ))) (left after : Option Rows) → is_header row ≡ true → GivesRow rows (Some row) left
    → ((more : Rows) → left ≡ Some more → GivesRow more o after) → GivesRow (without_header rows) o after
header_first rows row o left after header gave next =
    let behind : without_header rows ≡ gave.0 = rw (gave.1, header) refl in
    subst (λ r. GivesRow r o after) (sym behind) (next gave.0 gave.2)
