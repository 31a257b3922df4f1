-- What is kept of a list of records: one more at its end, and each at its place.
use Rattle.std.proofs.Common.{◌≡◌, ℕ, zero, suc, ◌+◌, ◌-◌, ◌<◌, ◌≤◌, List, [], ◌∷◌, ◌++◌, length, get_or, take, drop, Result, Ok, Err, refl, sym, ap, ap₂, subst, subst₂, ◌∙◌, arith, length-append, ◌⊎◌, inl, inr}
use Rattle.std.specs.Prelude.{slice_range, slice_get, Some, IfOk}
use Rattle.std.specs.Io.{StartsWith}
use Rattle.std.proofs.lemmas.List.{take-append-le, drop-append-le, take_all, drop_at, length-drop}
use Rattle.geo_base.specs.declared.refusal.Refused.{Refused}
use Rattle.geo_base.specs.declared.refusal.Refused.TheVariants as refused
use Rattle.geo_base.specs.declared.lang_set.LangSet.{LangSet}
use Rattle.grid_row.specs.declared.fault.RowFault.{RowFault}
use Rattle.grid_row.specs.declared.record.Record.{Record}
use Rattle.grid_row.specs.declared.row_list.RecordEnd.{RecordEnd}
use Rattle.grid_row.specs.Spelling.{IsRecord, AreRecords}
use Rattle.grid_row.specs.Kept.{Gives, kept_records, kept_start, RiseTo}

-- ---- what a call answered

pub is_reading : {Y : Type 0} (r : Result Y (Refused RowFault)) (reading : Result Y RowFault) → Gives (λ y. y) r reading → IfOk r (λ y. reading ≡ Ok y)
is_reading (Ok y) reading given = given
is_reading (Err e) reading given = tt

pub is_fault : {Y : Type 0} (r : Result Y (Refused RowFault)) (reading : Result Y RowFault) → Gives (λ y. y) r reading → (f : RowFault) → r ≡ Err (refused.Fault f) → reading ≡ Err f
is_fault {Y} r reading given f is = subst (λ (q : Result Y (Refused RowFault)). Gives (λ y. y) q reading) is given

pub is_read : {Y : Type 0} (r : Result Y (Refused RowFault)) (y : Y) → Gives (λ y. y) r (Ok y) → (r ≡ Ok y) ⊎ (r ≡ Err refused.Memory)
is_read (Ok x) y given = inl (cc given)
is_read (Err refused.Memory) y given = inr refl
is_read {Y} (Err (refused.Fault f)) y given = absurd (cc given)

pub is_refusal : {Y : Type 0} (a b : Refused RowFault) → ◌≡◌ {A = Result Y (Refused RowFault)} (Err a) (Err b) → a ≡ b
is_refusal a b e = cc

-- ---- the places

-- no place lies behind the end
pub none_behind : (total from : ℕ) (ends : List RecordEnd) → RiseTo total from ends → from ≤ total
none_behind total from [] rise = omega (arith, rise)
none_behind total from (e ∷ ends) rise = let more = none_behind total e.end ends rise.1 in let here = rise.0 in omega (arith, here, more)

pub rises_on : (total more from : ℕ) (ends : List RecordEnd) (e : RecordEnd) → e.end ≡ total + more → RiseTo total from ends → RiseTo (total + more) from (ends ++ e ∷ [])
rises_on total more from [] e is rise = (omega (arith, is, rise), is)
rises_on total more from (a ∷ ends) e is rise = (rise.0, rises_on total more a.end ends e is rise.1)

pub as_many : (from : ℕ) (ends : List RecordEnd) (rows : List ℕ) → length (kept_records from ends rows) ≡ length ends
as_many from [] rows = refl
as_many from (e ∷ ends) rows = ap suc (as_many e.end ends rows)

-- ---- one record more

slice_front : (xs more : List ℕ) (from to : ℕ) → from ≤ to → to ≤ length xs → slice_range (xs ++ more) from to ≡ slice_range xs from to
slice_front xs more from to low high =
    ap (take (to - from)) (drop-append-le from xs more (omega (arith, low, high)))
    ∙ take-append-le (to - from) (drop from xs) more (omega (arith, low, high, length-drop from xs))

slice_behind : (xs more : List ℕ) (from to : ℕ) → from ≡ length xs → to ≡ length xs + length more → slice_range (xs ++ more) from to ≡ more
slice_behind xs more from to begins ends =
    ap (take (to - from)) (drop_at xs more from (sym begins))
    ∙ take_all (to - from) more (omega (arith, begins, ends))

pub one_more : (from : ℕ) (ends : List RecordEnd) (rows more : List ℕ) (e : RecordEnd) → e.end ≡ length rows + length more → RiseTo (length rows) from ends
    → kept_records from (ends ++ e ∷ []) (rows ++ more) ≡ kept_records from ends rows ++ record { set = e.set; rows = more } ∷ []
one_more from [] rows more e is rise = ap (λ (l : List ℕ). record { set = e.set; rows = l } ∷ []) (slice_behind rows more from e.end rise is)
one_more from (a ∷ ends) rows more e is rise =
    ap₂ (λ (l : List ℕ) (rs : List Record). record { set = a.set; rows = l } ∷ rs)
    (slice_front rows more from a.end rise.0 (none_behind (length rows) a.end ends rise.1))
    (one_more a.end ends rows more e is rise.1)

pub AreRecords-push : (rs : List Record) (r : Record) → AreRecords rs → IsRecord r → AreRecords (rs ++ r ∷ [])
AreRecords-push [] r are is = (is, tt)
AreRecords-push (q ∷ rs) r are is = (are.0, AreRecords-push rs r are.1 is)

abbrev kept : LangSet → ℕ → RecordEnd
kept set end = record { set = set; end = end }

-- the lists after a record with a set and rows went to their ends
pub record Pushed (ends : List RecordEnd) (rows : List ℕ) (new_ends : List RecordEnd) (new_rows : List ℕ) (r : Record) : Type 0 where
  pub rises : RiseTo (length new_rows) 0 new_ends
  pub are : AreRecords (kept_records 0 new_ends new_rows)
  pub is : kept_records 0 new_ends new_rows ≡ kept_records 0 ends rows ++ r ∷ []

pub pushed : (ends : List RecordEnd) (rows more new_rows : List ℕ) (new_ends : List RecordEnd) (set : LangSet) (end : ℕ) → RiseTo (length rows) 0 ends × AreRecords (kept_records 0 ends rows) → IsRecord (record { set = set; rows = more })
    → new_rows ≡ rows ++ more → end ≡ length new_rows → new_ends ≡ ends ++ record { set = set; end = end } ∷ [] → Pushed ends rows new_ends new_rows (record { set = set; rows = more })
pushed ends rows more new_rows new_ends set end inv is rows-is end-is ends-is =
    let long : end ≡ length rows + length more = end-is ∙ ap (length {A = ℕ}) rows-is ∙ length-append rows more in
    let whole = one_more 0 ends rows more (kept set end) long inv.0 in
    let new : kept_records 0 new_ends new_rows ≡ kept_records 0 ends rows ++ record { set = set; rows = more } ∷ [] = ap₂ (kept_records 0) ends-is rows-is ∙ whole in
    record {
      rises = subst₂ (λ n es. RiseTo n 0 es) (sym (ap (length {A = ℕ}) rows-is ∙ length-append rows more)) (sym ends-is) (rises_on (length rows) (length more) 0 ends (kept set end) long inv.0);
      are = subst AreRecords (sym new) (AreRecords-push (kept_records 0 ends rows) (record { set = set; rows = more }) inv.1 is);
      is = new;
    }

-- the lists after a refusal, cut back
pub record CutBack (ends : List RecordEnd) (rows : List ℕ) (new_ends : List RecordEnd) (new_rows : List ℕ) : Type 0 where
  pub rises : RiseTo (length new_rows) 0 new_ends
  pub are : AreRecords (kept_records 0 new_ends new_rows)
  pub is : kept_records 0 new_ends new_rows ≡ kept_records 0 ends rows

pub cut_back : (ends new_ends : List RecordEnd) (rows longer new_rows : List ℕ) (before : ℕ) → RiseTo (length rows) 0 ends × AreRecords (kept_records 0 ends rows) → new_ends ≡ ends → StartsWith longer rows → before ≡ length rows → new_rows ≡ take before longer
    → CutBack ends rows new_ends new_rows
cut_back ends new_ends rows longer new_rows before inv ends-is front before-is cut =
    let same : new_rows ≡ rows = cut ∙ (ap (λ (n : ℕ). take n longer) before-is ∙ front) in
    subst₂ (λ (es : List RecordEnd) (rs : List ℕ). CutBack ends rows es rs) (sym ends-is) (sym same) (record { rises = inv.0; are = inv.1; is = refl })

-- ---- each at its place

pub record_there : (from : ℕ) (ends : List RecordEnd) (rows : List ℕ) (k : ℕ) (d : RecordEnd) → k < length ends
    → slice_get (kept_records from ends rows) k ≡ Some (record { set = (get_or ends k d).set; rows = slice_range rows (kept_start from ends k) (get_or ends k d).end })
record_there from [] rows k d within = absurd (omega (arith, within))
record_there from (e ∷ ends) rows zero d within = refl
record_there from (e ∷ ends) rows (suc k) d within = record_there e.end ends rows k d (omega (arith, within))

pub starts_before : (total from : ℕ) (ends : List RecordEnd) (k : ℕ) (d : RecordEnd) → RiseTo total from ends → k < length ends → kept_start from ends k ≤ (get_or ends k d).end
starts_before total from [] k d rise within = absurd (omega (arith, within))
starts_before total from (e ∷ ends) zero d rise within = rise.0
starts_before total from (e ∷ ends) (suc k) d rise within = starts_before total e.end ends k d rise.1 (omega (arith, within))

pub ends_within : (total from : ℕ) (ends : List RecordEnd) (k : ℕ) (d : RecordEnd) → RiseTo total from ends → k < length ends → (get_or ends k d).end ≤ total
ends_within total from [] k d rise within = absurd (omega (arith, within))
ends_within total from (e ∷ ends) zero d rise within = none_behind total e.end ends rise.1
ends_within total from (e ∷ ends) (suc k) d rise within = ends_within total e.end ends k d rise.1 (omega (arith, within))

pub start_is : (from : ℕ) (ends : List RecordEnd) (k : ℕ) (d : RecordEnd) → 0 < k → k < length ends → (get_or ends (k - 1) d).end ≡ kept_start from ends k
start_is from ends zero d some within = absurd (omega (arith, some))
start_is from [] (suc k) d some within = absurd (omega (arith, within))
start_is from (e ∷ ends) (suc zero) d some within = refl
start_is from (e ∷ ends) (suc (suc k)) d some within =
    let less : suc (suc k) - 1 ≡ suc (suc k - 1) = omega arith in
    ap (λ (n : ℕ). (get_or (e ∷ ends) n d).end) less ∙ start_is e.end ends (suc k) d (omega arith) (omega (arith, within))

pub is_record_there : (from : ℕ) (ends : List RecordEnd) (rows : List ℕ) (k : ℕ) (d : RecordEnd) → AreRecords (kept_records from ends rows) → k < length ends
    → IsRecord (record { set = (get_or ends k d).set; rows = slice_range rows (kept_start from ends k) (get_or ends k d).end })
is_record_there from [] rows k d are within = absurd (omega (arith, within))
is_record_there from (e ∷ ends) rows zero d are within = are.0
is_record_there from (e ∷ ends) rows (suc k) d are within = is_record_there e.end ends rows k d are.1 (omega (arith, within))

-- a record of the list: where its rows lie
pub record IsThere (list : List Record) (place : ℕ) (rows : List ℕ) (from : ℕ) (here : RecordEnd) : Type 0 where
  pub low : from ≤ here.end
  pub high : here.end ≤ length rows
  pub is : slice_get list place ≡ Some (record { set = here.set; rows = slice_range rows from here.end })
  pub rule : IsRecord (record { set = here.set; rows = slice_range rows from here.end })

pub many_there : (ends : List RecordEnd) (rows : List ℕ) (list : List Record) → kept_records 0 ends rows ≡ list → length list ≡ length ends
many_there ends rows list view = sym (ap (length {A = Record}) view) ∙ as_many 0 ends rows

pub is_there : (ends : List RecordEnd) (rows : List ℕ) (list : List Record) (place : ℕ) (here : RecordEnd) (from : ℕ) → RiseTo (length rows) 0 ends × AreRecords (kept_records 0 ends rows) → kept_records 0 ends rows ≡ list → place < length list
    → here ≡ get_or ends place here → from ≡ kept_start 0 ends place → IsThere list place rows from here
is_there ends rows list place here from inv view within is begins =
    let less : place < length ends = omega (arith, within, many_there ends rows list view) in
    let Q : ℕ → RecordEnd → Type 0 = λ n e. IsThere list place rows n e in
    subst (λ n. Q n here) (sym begins)
    (subst (λ e. Q (kept_start 0 ends place) e) (sym is)
    (record {
      low = starts_before (length rows) 0 ends place here inv.0 less;
      high = ends_within (length rows) 0 ends place here inv.0 less;
      is = ap (λ l. slice_get l place) (sym view) ∙ record_there 0 ends rows place here less;
      rule = is_record_there 0 ends rows place here inv.1 less;
    }))
