-- Records one after another, to the end of the bytes.
use Rattle.std.proofs.Common.{◌≡◌, ℕ, zero, suc, ◌+◌, ◌<◌, ◌≤◌, List, [], ◌∷◌, ◌++◌, length, Result, Ok, Err, refl, sym, ap, subst, ◌∙◌, append_assoc, arith, ◌⊎◌, ⊎_elim}
use Rattle.std.specs.Prelude.{IfOk}
use Rattle.std.proofs.lemmas.List.{length-append, append-nil}
use Rattle.std.proofs.lemmas.List.Concat.{flat_map-cons}
use Rattle.geo_base.specs.declared.refusal.Refused.{Refused}
use Rattle.geo_base.specs.declared.refusal.Refused.TheVariants as refused
use Rattle.grid_row.specs.declared.fault.RowFault.{RowFault}
use Rattle.grid_row.specs.declared.fault.RowFault.TheVariants.{Count}
use Rattle.grid_row.specs.declared.record.Record.{Record}
use Rattle.grid_row.specs.Spelling.{spelling, spellings, IsRecord, AreRecords}
use Rattle.grid_row.specs.Reading.{◌>>=◌, set_at, record_at, records_at, decoding}
use Rattle.grid_row.specs.Kept.{Fails, Gives, records_behind}
use Rattle.grid_row.proofs.Fields.{IsBytes, bind_ok, ok_is}
use Rattle.grid_row.proofs.Records.{record_takes, record_again}

-- a record takes some bytes
shorter : (text rest bytes : List ℕ) → 0 < length text → bytes ≡ text ++ rest → length rest < length bytes
shorter text rest bytes some e =
    let lens : length bytes ≡ length text + length rest = ap (length {A = ℕ}) e ∙ length-append text rest in
    omega (arith, lens)

spelled : (r : Record) → 0 < length (spelling r)
spelled r = omega arith

-- two ways to go on that agree on what is left give the same
go_on_alike : (m n b : ℕ) (bytes : List ℕ) → IsBytes (b ∷ bytes) → ((rest : List ℕ) → length rest < length (b ∷ bytes) → IsBytes rest → records_at m rest ≡ records_at n rest) → (r : Result (Record × List ℕ) RowFault) → record_at (b ∷ bytes) ≡ r
    → (r >>= λ first. records_at m first.1 >>= λ others. Ok (first.0 ∷ others)) ≡ (r >>= λ first. records_at n first.1 >>= λ others. Ok (first.0 ∷ others))
go_on_alike m n b bytes fits more (Err f) is = refl
go_on_alike m n b bytes fits more (Ok first) is =
    let t = record_takes (b ∷ bytes) first fits is in
    let less = shorter (spelling first.0) first.1 (b ∷ bytes) (spelled first.0) t.0.parts in
    ap (λ (q : Result (List Record) RowFault). q >>= λ others. Ok (first.0 ∷ others)) (more first.1 less t.0.rest_fits)

-- any number of turns that is enough gives the same
pub enough : (m n : ℕ) (bytes : List ℕ) → IsBytes bytes → length bytes ≤ m → length bytes ≤ n → records_at m bytes ≡ records_at n bytes
unfolding records_at
enough m n [] fits le le' = refl
enough zero n (b ∷ bytes) fits le le' = absurd (omega arith)
enough (suc m) zero (b ∷ bytes) fits le le' = absurd (omega arith)
enough (suc m) (suc n) (b ∷ bytes) fits le le' = go_on_alike m n b bytes fits (λ rest less fits'. enough m n rest fits' (omega arith) (omega arith)) (record_at (b ∷ bytes)) refl

settled : (m : ℕ) (r : Result (Record × List ℕ) RowFault) → ((rest : List ℕ) (first : Record) → r ≡ Ok (first, rest) → records_at m rest ≡ records_at (length rest) rest)
    → (r >>= λ first. records_at m first.1 >>= λ others. Ok (first.0 ∷ others)) ≡ (r >>= λ first. records_at (length first.1) first.1 >>= λ others. Ok (first.0 ∷ others))
settled m (Err f) more = refl
settled m (Ok first) more = ap (λ (q : Result (List Record) RowFault). q >>= λ others. Ok (first.0 ∷ others)) (more first.1 first.0 refl)

pub decoding_step : (b : ℕ) (bytes : List ℕ) → IsBytes (b ∷ bytes) → decoding (b ∷ bytes) ≡ (record_at (b ∷ bytes) >>= λ first. decoding first.1 >>= λ others. Ok (first.0 ∷ others))
unfolding decoding records_at
decoding_step b bytes fits = settled (length bytes) (record_at (b ∷ bytes)) (λ rest first is.
    let t = record_takes (b ∷ bytes) (first, rest) fits is in
    let less = shorter (spelling first) rest (b ∷ bytes) (spelled first) t.0.parts in
    enough (length bytes) (length rest) rest t.0.rest_fits (omega arith) (omega arith))

pub decoding_end : decoding [] ≡ Ok []
unfolding decoding records_at
decoding_end = refl

-- ---- what decodes, and to what

module _ where
  takes_all : (n : ℕ) (bytes : List ℕ) (rs : List Record) → length bytes ≤ n → IsBytes bytes → decoding bytes ≡ Ok rs → AreRecords rs × (bytes ≡ spellings rs)
  takes_all n [] rs le fits e = subst (λ (y : List Record). AreRecords y × ([] ≡ spellings y)) (ok_is [] rs (sym decoding_end ∙ e)) (tt, refl)
  takes_all zero (b ∷ bytes) rs le fits e = absurd (omega arith)
  takes_all (suc n) (b ∷ bytes) rs le fits e =
      let a = bind_ok (record_at (b ∷ bytes)) (λ first. decoding first.1 >>= λ others. Ok (first.0 ∷ others)) rs (sym (decoding_step b bytes fits) ∙ e) in
      let o = bind_ok (decoding a.0.1) (λ others. Ok (a.0.0 ∷ others)) rs a.2 in
      let t = record_takes (b ∷ bytes) a.0 fits a.1 in
      let less = shorter (spelling a.0.0) a.0.1 (b ∷ bytes) (spelled a.0.0) t.0.parts in
      let more = takes_all n a.0.1 o.0 (omega arith) t.0.rest_fits o.1 in
      let whole : b ∷ bytes ≡ spellings (a.0.0 ∷ o.0) = t.0.parts ∙ ap (λ (z : List ℕ). spelling a.0.0 ++ z) more.1 ∙ sym (flat_map-cons spelling a.0.0 o.0) in
      subst (λ (y : List Record). AreRecords y × (b ∷ bytes ≡ spellings y)) (ok_is (a.0.0 ∷ o.0) rs o.2) ((t.1, more.0), whole)

pub decoding_takes : (bytes : List ℕ) (rs : List Record) → IsBytes bytes → decoding bytes ≡ Ok rs → AreRecords rs × (bytes ≡ spellings rs)
decoding_takes bytes rs fits e = takes_all (length bytes) bytes rs (omega arith) fits e

again_by : (r : Record) (rs : List Record) (bytes : List ℕ) → IsBytes bytes → bytes ≡ spelling r ++ spellings rs → IsRecord r → decoding (spellings rs) ≡ Ok rs → decoding bytes ≡ Ok (r ∷ rs)
again_by r rs [] fits e is more = absurd (let lens : 0 ≡ length (spelling r) + length (spellings rs) = ap (length {A = ℕ}) e ∙ length-append (spelling r) (spellings rs) in let some = spelled r in omega arith)
again_by r rs (b ∷ bytes) fits e is more =
    decoding_step b bytes fits
    ∙ ap (λ q. q >>= λ (first : Record × List ℕ). decoding first.1 >>= λ others. Ok (first.0 ∷ others)) (ap record_at e ∙ record_again r (spellings rs) is)
    ∙ ap (λ (q : Result (List Record) RowFault). q >>= λ others. Ok (r ∷ others)) more

IsBytes-after : (xs ys : List ℕ) → IsBytes (xs ++ ys) → IsBytes ys
IsBytes-after [] ys fits = fits
IsBytes-after (x ∷ xs) ys fits = IsBytes-after xs ys (λ i. fits (suc i))

pub decoding_again : (rs : List Record) → IsBytes (spellings rs) → AreRecords rs → decoding (spellings rs) ≡ Ok rs
decoding_again [] fits are = decoding_end
decoding_again (r ∷ rs) fits are =
    let e = flat_map-cons spelling r rs in
    let fits' : IsBytes (spelling r ++ spellings rs) = subst IsBytes e fits in
    again_by r rs (spellings (r ∷ rs)) fits e are.0 (decoding_again rs (IsBytes-after (spelling r) (spellings rs) fits') are.1)

pub is_decoded : (bytes : List ℕ) (r : Result (List Record) (Refused RowFault)) → IsBytes bytes → Gives (λ x. x) r (decoding bytes) → IfOk r (λ rs. AreRecords rs × (bytes ≡ spellings rs))
is_decoded bytes (Ok rs) fits given = decoding_takes bytes rs fits given
is_decoded bytes (Err e) fits given = tt

-- ---- as a loop goes

regroup : (front : List Record) (r : Record) (read : Result (List Record) RowFault) → records_behind front (read >>= λ rs. Ok (r ∷ rs)) ≡ records_behind (front ++ r ∷ []) read
regroup front r (Ok rs) = ap (λ (l : List Record). Ok l) (simp append_assoc)
regroup front r (Err f) = refl

pub list_goes_on : (front : List Record) (bytes : List ℕ) (r : Record) (after : List ℕ) (total : Result (List Record) RowFault) → IsBytes bytes → 0 < length bytes → record_at bytes ≡ Ok (r, after)
    → records_behind front (decoding bytes) ≡ total → records_behind (front ++ r ∷ []) (decoding after) ≡ total
list_goes_on front [] r after total fits some h so_far = absurd (omega arith)
list_goes_on front (b ∷ bytes) r after total fits some h so_far =
    let one : decoding (b ∷ bytes) ≡ (decoding after >>= λ others. Ok (r ∷ others)) = decoding_step b bytes fits ∙ ap (λ q. q >>= λ (first : Record × List ℕ). decoding first.1 >>= λ others. Ok (first.0 ∷ others)) h in
    sym (regroup front r (decoding after)) ∙ ap (records_behind front) (sym one) ∙ so_far

pub list_ends : (e : Refused RowFault) (front : List Record) (bytes : List ℕ) (total : Result (List Record) RowFault) → IsBytes bytes → 0 < length bytes → Fails e (record_at bytes)
    → records_behind front (decoding bytes) ≡ total → Fails e total
list_ends refused.Memory front bytes total fits some h so_far = tt
list_ends (refused.Fault f) front [] total fits some h so_far = absurd (omega arith)
list_ends (refused.Fault f) front (b ∷ bytes) total fits some h so_far =
    let one : decoding (b ∷ bytes) ≡ Err f = decoding_step b bytes fits ∙ ap (λ q. q >>= λ (first : Record × List ℕ). decoding first.1 >>= λ others. Ok (first.0 ∷ others)) h in
    sym so_far ∙ ap (records_behind front) one

pub list_is_done : (front : List Record) (bytes : List ℕ) (total : Result (List Record) RowFault) → length bytes ≡ 0 → records_behind front (decoding bytes) ≡ total → total ≡ Ok front
list_is_done front [] total none so_far = sym so_far ∙ ap (records_behind front) decoding_end ∙ ap (λ (l : List Record). Ok l) (append-nil front)
list_is_done front (b ∷ bytes) total none so_far = absurd (omega arith)

-- each record shortens what is left
pub less_left : (bytes : List ℕ) (r : Record) (after : List ℕ) → IsBytes bytes → record_at bytes ≡ Ok (r, after) → length after < length bytes
less_left bytes r after fits is =
    let t = record_takes bytes (r, after) fits is in
    shorter (spelling r) after bytes (spelled r) t.0.parts

-- ---- a fault of the first record

abbrev pub BeginsWithRecord : List ℕ → Type 0
BeginsWithRecord bytes = (x : Record × List ℕ) × (record_at bytes ≡ Ok x)

pub first_on : (bytes rest : List ℕ) (x : Record × List ℕ) → record_at rest ≡ Ok x → BeginsWithRecord bytes ⊎ (rest ≡ bytes) → BeginsWithRecord bytes
first_on bytes rest x is first = ⊎_elim (λ begins. begins) (λ (same : rest ≡ bytes). (x, ap record_at (sym same) ∙ is)) first

-- where the first record isn't read, all of the bytes are still there
pub still_all : (bytes rest : List ℕ) (f : RowFault) → record_at bytes ≡ Err f → BeginsWithRecord bytes ⊎ (rest ≡ bytes) → rest ≡ bytes
still_all bytes rest f is first = ⊎_elim (λ (begins : BeginsWithRecord bytes). let bad : done_with begins.0 ≡ Err f = sym begins.1 ∙ is in absurd cc) (λ same. same) first
  where
    done_with : Record × List ℕ → Result (Record × List ℕ) RowFault
    done_with x = Ok x

-- no bytes are too few, and have no number of rows out of range
pub no_bytes : (bytes : List ℕ) → length bytes ≡ 0 → record_at bytes ≡ Err Count → ⊥
unfolding record_at set_at
no_bytes [] none e = cc
no_bytes (b ∷ bytes) none e = omega (arith, none)

-- so they are where there are too few for a record
pub still_short : (bytes rest : List ℕ) → IsBytes bytes → length bytes < 20 → BeginsWithRecord bytes ⊎ (rest ≡ bytes) → rest ≡ bytes
still_short bytes rest fits less first = ⊎_elim (λ (begins : BeginsWithRecord bytes). absurd (
    let t = record_takes bytes begins.0 fits begins.1 in
    let lens : length bytes ≡ length (spelling begins.0.0) + length begins.0.1 = ap (length {A = ℕ}) t.0.parts ∙ length-append (spelling begins.0.0) begins.0.1 in
    omega (arith, lens, less))) (λ same. same) first

pub no_records_behind : (front : List Record) (read : Result (List Record) RowFault) → front ≡ [] → records_behind front read ≡ read
no_records_behind front (Ok rs) none = ap (λ (l : List Record). Ok (l ++ rs)) none
no_records_behind front (Err f) none = refl
