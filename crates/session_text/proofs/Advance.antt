-- How the reading of a session goes on, line by line.
use Rattle.std.proofs.Common.{◌≡◌, ◌∙◌, ◌+◌, ◌<◌, ◌≤◌, ℕ, Bool, true, false, List, [], ◌∷◌, ◌++◌, length, nat_lt, Ok, Err, refl, sym, ap, append_assoc, append-nil, arith, lt-ltb}
use Rattle.std.specs.Prelude.{bytes_eq, codes}
use Rattle.std.specs.List.{slice_split}
use Rattle.std.proofs.lemmas.Bool.{le-ltb, lt-leb}
use Rattle.std.proofs.lemmas.List.{length-append}
use Rattle.geo_text.specs.Bytes.{NoLineFeed}
use Rattle.geo_text.proofs.LineFeeds.{is_line_feed, split_line, split_rest}
use Rattle.geo_text.proofs.SplitParts.{some_part}
use Rattle.session_text.specs.Lines.{longest, line_text}
use Rattle.session_text.specs.Session.{SessionView, line_at, already, after_item, step_of}
use Rattle.session_text.specs.Reading.{last_line, lines_in, lines_of, at_end_line, at_bad_line, unended, Reading, stopped, with_rounds, after_step, reading_after, reading_from, reading_on}
use Rattle.session_text.specs.declared.body.BodyLine.{BodyLine}
use Rattle.session_text.specs.declared.item.Item.{Item}
use Rattle.session_text.specs.declared.session.Step.TheVariants.{More, Ready, Last}
use Rattle.session_text.specs.declared.why.Why.{Why}
use Rattle.session_text.specs.declared.why.Why.TheVariants as why

-- ---- the parts between line feeds

-- what has come of a line begins the first part
split_onto : (xs more y : List ℕ) (ys : List (List ℕ)) → NoLineFeed xs → slice_split is_line_feed more ≡ y ∷ ys → slice_split is_line_feed (xs ++ more) ≡ (xs ++ y) ∷ ys
split_onto [] more y ys none is = is
split_onto (x ∷ xs) more y ys none is = rw (none.0, split_onto xs more y ys none.1 is) refl

lines_in_cons : (ended : Bool) (x : List ℕ) (parts : List (List ℕ)) (y : List ℕ) (ys : List (List ℕ)) → parts ≡ y ∷ ys → lines_in ended (x ∷ parts) ≡ x ∷ lines_in ended parts
lines_in_cons ended x parts y ys is = rw is refl

-- the first line, and the lines of what follows
lines_of_line : (ended : Bool) (xs more : List ℕ) → NoLineFeed xs → lines_of ended (xs ++ 10 ∷ more) ≡ xs ∷ lines_of ended more
lines_of_line ended xs more none =
    let next = some_part is_line_feed more in
    ap (lines_in ended) (split_line xs more none) ∙ lines_in_cons ended xs (slice_split is_line_feed more) next.0 next.1 next.2

-- ---- one line

-- what ends no line joins what has come of it
pub joins : (s : SessionView) (n : ℕ) (begun part : List ℕ) (ended : Bool) (more : List ℕ) → reading_on s n begun ended (part ++ more) ≡ reading_on s n (begun ++ part) ended more
joins s n begun part ended more = ap (λ l. reading_from s n (lines_of ended l)) (sym (append_assoc begun part more))

-- a line feed: the line is read, and then what follows
at_line : (s : SessionView) (n : ℕ) (line : List ℕ) (ended : Bool) (more : List ℕ) → NoLineFeed line → reading_on s n line ended (10 ∷ more) ≡ reading_from s n (line ∷ lines_of ended more)
at_line s n line ended more none = ap (reading_from s n) (lines_of_line ended line more none)

-- the same for a line that says this
at_item : (s : SessionView) (n : ℕ) (line : List ℕ) (item : Item) (ended : Bool) (more : List ℕ) → NoLineFeed line → line_at s line ≡ Ok item
    → reading_on s n line ended (10 ∷ more) ≡ after_step (step_of s.round item) (after_item s item) (λ next. reading_from next (n + 1) (lines_of ended more))
at_item s n line item ended more none is =
    at_line s n line ended more none ∙ ap (λ said. reading_after s n said (λ next. reading_from next (n + 1) (lines_of ended more))) is

-- after a line that is taken the reading goes on
pub goes_on : (s : SessionView) (n : ℕ) (line : List ℕ) (item : Item) (ended : Bool) (more : List ℕ) → NoLineFeed line → line_at s line ≡ Ok item → step_of s.round item ≡ More
    → reading_on s n line ended (10 ∷ more) ≡ reading_on (after_item s item) (n + 1) [] ended more
goes_on s n line item ended more none is does =
    at_item s n line item ended more none is ∙ ap (λ step. after_step step (after_item s item) (λ next. reading_from next (n + 1) (lines_of ended more))) does

-- after one that closes a round that round comes first
pub closes : (s : SessionView) (n : ℕ) (line : List ℕ) (item : Item) (round : List BodyLine) (ended : Bool) (more : List ℕ) → NoLineFeed line → line_at s line ≡ Ok item → step_of s.round item ≡ Ready round
    → reading_on s n line ended (10 ∷ more) ≡ with_rounds (round ∷ []) (reading_on (after_item s item) (n + 1) [] ended more)
closes s n line item round ended more none is does =
    at_item s n line item ended more none is ∙ ap (λ step. after_step step (after_item s item) (λ next. reading_from next (n + 1) (lines_of ended more))) does

-- after the last one it ends, whatever follows
pub ends : (s : SessionView) (n : ℕ) (line : List ℕ) (item : Item) (round : List BodyLine) (ended : Bool) (more : List ℕ) → NoLineFeed line → line_at s line ≡ Ok item → step_of s.round item ≡ Last round
    → reading_on s n line ended (10 ∷ more) ≡ stopped (after_item s item) (round ∷ []) at_end_line
ends s n line item round ended more none is does =
    at_item s n line item ended more none is ∙ ap (λ step. after_step step (after_item s item) (λ next. reading_from next (n + 1) (lines_of ended more))) does

-- at a refused one it stops, whatever follows
pub refuses : (s : SessionView) (n : ℕ) (line : List ℕ) (why : Why) (ended : Bool) (more : List ℕ) → NoLineFeed line → line_at s line ≡ Err why
    → reading_on s n line ended (10 ∷ more) ≡ stopped s [] (at_bad_line n why)
refuses s n line why ended more none is =
    at_line s n line ended more none ∙ ap (λ said. reading_after s n said (λ next. reading_from next (n + 1) (lines_of ended more))) is

-- rounds before rounds
pub with_rounds_twice : (first second : List (List BodyLine)) (reading : Reading) → with_rounds first (with_rounds second reading) ≡ with_rounds (first ++ second) reading
with_rounds_twice first second reading = ap (λ rounds. record reading { rounds = rounds }) (sym (append_assoc first second reading.rounds))

-- ---- a line that is too long already is refused, however it goes on

long_line : (s : SessionView) (line : List ℕ) → longest < length line → already s.stage ≡ Ok tt → line_at s line ≡ Err why.Long
long_line s line long well = rw (well, lt-leb (length line) longest long) refl

first_is_long : (s : SessionView) (n : ℕ) (ended : Bool) (line : List ℕ) (parts : List (List ℕ)) → longest < length line → already s.stage ≡ Ok tt
    → reading_from s n (lines_in ended (line ∷ parts)) ≡ stopped s [] (at_bad_line n why.Long)
first_is_long s n ended line [] long well =
    let counted : lines_in ended (line ∷ []) ≡ line ∷ [] = rw (lt-ltb longest (length line) long) refl in
    ap (reading_from s n) counted ∙ ap (λ said. reading_after s n said (λ next. reading_from next (n + 1) [])) (long_line s line long well)
first_is_long s n ended line (part ∷ parts) long well =
    ap (λ said. reading_after s n said (λ next. reading_from next (n + 1) (lines_in ended (part ∷ parts)))) (long_line s line long well)

pub too_long : (s : SessionView) (n : ℕ) (begun : List ℕ) (ended : Bool) (more : List ℕ) → NoLineFeed begun → longest < length begun → already s.stage ≡ Ok tt
    → reading_on s n begun ended more ≡ stopped s [] (at_bad_line n why.Long)
too_long s n begun ended more none long well =
    let next = some_part is_line_feed more in
    let longer : longest < length (begun ++ next.0) = omega (arith, long, length-append begun next.0) in
    ap (λ parts. reading_from s n (lines_in ended parts)) (split_onto begun more next.0 next.1 none next.2) ∙ first_is_long s n ended (begun ++ next.0) next.1 longer well

-- ---- what has come of a line, where nothing follows

at_rest : (s : SessionView) (n : ℕ) (begun : List ℕ) (ended : Bool) → NoLineFeed begun → reading_on s n begun ended [] ≡ reading_from s n (last_line ended begun)
at_rest s n begun ended none =
    ap (λ l. reading_from s n (lines_of ended l)) (append-nil begun) ∙ ap (λ parts. reading_from s n (lines_in ended parts)) (split_rest begun none)

-- it is no line yet where it isn't too long
pub not_yet : (s : SessionView) (n : ℕ) (begun : List ℕ) → NoLineFeed begun → length begun ≤ longest → reading_on s n begun false [] ≡ stopped s [] unended
not_yet s n begun none short =
    let no_line : last_line false begun ≡ [] = rw (le-ltb longest (length begun) short) refl in
    at_rest s n begun false none ∙ ap (reading_from s n) no_line

-- nor where it isn't `end`
pub no_end : (s : SessionView) (n : ℕ) (begun : List ℕ) (ended : Bool) → NoLineFeed begun → length begun ≤ longest → bytes_eq (line_text begun) (codes "end") ≡ false → reading_on s n begun ended [] ≡ stopped s [] unended
no_end s n begun ended none short other = at_rest s n begun ended none ∙ ap (reading_from s n) (no_line ended)
  where
    no_line : (ended : Bool) → last_line ended begun ≡ []
    no_line true = rw (le-ltb longest (length begun) short, other) refl
    no_line false = rw (le-ltb longest (length begun) short) refl

-- where the source ends there and it is `end`, it is the last line
pub at_end : (s : SessionView) (n : ℕ) (begun : List ℕ) → NoLineFeed begun → bytes_eq (line_text begun) (codes "end") ≡ true
    → reading_on s n begun true [] ≡ reading_after s n (line_at s begun) (λ next. reading_from next (n + 1) [])
at_end s n begun none is = at_rest s n begun true none ∙ ap (reading_from s n) (counts (nat_lt longest (length begun)) refl)
  where
    counts : (b : Bool) → nat_lt longest (length begun) ≡ b → last_line true begun ≡ begun ∷ []
    counts true long = rw long refl
    counts false long = rw (long, is) refl
