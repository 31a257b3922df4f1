-- Lines that are answered one after another.
use Rattle.std.proofs.Common.{◌≡◌, ◌∙◌, ◌+◌, ◌<◌, ◌≤◌, ℕ, suc, List, [], ◌∷◌, ◌++◌, length, All, Option, None, Some, Result, Ok, Err, OnErr, map, refl, sym, ap, subst, arith, append_assoc, append-nil, length-set}
use Rattle.std.specs.Prelude.{slice_get, slice_index, IsSome}
use Rattle.std.proofs.lemmas.Option.{slice_get_within}
use Rattle.std.proofs.lemmas.List.{map-append}
use Rattle.std.proofs.lemmas.List.Elements.{All-head, All-tail, All-weaker, All-set}
use Rattle.geo_layer.specs.declared.head.Head.{Head}
use Rattle.feature_feed.specs.Feed.{FeedView}
use Rattle.feature_feed.specs.Load.{Loads}
use Rattle.feature_feed.specs.Load as given
use Rattle.session_text.specs.Reading.{feeds_named}
use Rattle.session_text.specs.Session.{IsLineOf, named_by}
use Rattle.session_text.specs.declared.body.BodyLine.{BodyLine}
use Rattle.session_text.specs.declared.body.BodyLine.TheVariants.{Put, Drop, Load, Limit, Publish, Ask, Explain, Replay}
use Rattle.query_server.specs.Generations.{BuilderState, after_line, builder_after}
use Rattle.query_server.specs.Plain.{AskCounts, counts_after, asks_after, IsText}
use Rattle.query_server.specs.Running.{RunLoads, Agrees, MayBePulled, ArePulled, AreLoaded, Stood, builder_of, asks_of, IsStep, IsAnswered, IsReady}
use Rattle.query_server.proofs.Pulled.{pulled_on, agrees_front, agrees_rest, may_none}
use Rattle.query_server.proofs.Fed.{AreApart, names, free_load, load_in, agrees_all, may_all}

-- ---- what a line of a session keeps

-- a number of a layer that is there is below their number
pub layer_below : {A : Type 0} (xs : List A) (n : ℕ) → IsSome (slice_get xs n) → n < length xs
layer_below {A = A} xs n there = by (slice_get xs n) refl there
  where
    by : (o : Option A) → slice_get xs n ≡ o → IsSome o → n < length xs
    by None is there = absurd (cc there)
    by (Some x) is there = slice_get_within xs n x is

-- ---- what stands after a line

-- the number of the generation that was published last
number_after : (loads : Loads) (builder : BuilderState) (line : BodyLine) → (after_line loads builder line).last.number ≤ builder.last.number + 1
number_after loads builder (Put layer f) = omega arith
number_after loads builder (Drop layer id) = omega arith
number_after loads builder (Load feed layer) = omega arith
number_after loads builder (Limit n) = omega arith
number_after loads builder Publish = omega arith
number_after loads builder (Ask lane text) = omega arith
number_after loads builder (Explain text) = omega arith
number_after loads builder (Replay events text) = omega arith

-- the counts of the lanes keep their bound
counts_bounded : (feeds : ℕ) (head : Head) (counts : AskCounts) (line : BodyLine) (left bound : ℕ) → length counts ≡ 8 → IsLineOf feeds head line → All (λ n. n + suc left ≤ bound) counts → All (λ n. n + left ≤ bound) (counts_after counts line)
counts_bounded feeds head counts line left bound eight fits all = by line fits
  where
    weaker : All (λ n. n + left ≤ bound) counts
    weaker = All-weaker (λ n. n + suc left ≤ bound) (λ n. n + left ≤ bound) (λ n h. omega (arith, h)) counts all

    by : (line : BodyLine) → IsLineOf feeds head line → All (λ n. n + left ≤ bound) (counts_after counts line)
    by (Put layer f) fits = weaker
    by (Drop layer id) fits = weaker
    by (Load feed layer) fits = weaker
    by (Limit n) fits = weaker
    by Publish fits = weaker
    by (Explain text) fits = weaker
    by (Replay events text) fits = weaker
    by (Ask lane text) within =
        let here : slice_index counts lane + suc left ≤ bound = all lane 0 (omega (arith, within, eight)) in
        All-set (λ n. n + left ≤ bound) counts lane (slice_index counts lane + 1) (omega (arith, here)) weaker

counts_length : (counts : AskCounts) (line : BodyLine) → length (counts_after counts line) ≡ length counts
counts_length counts (Put layer f) = refl
counts_length counts (Drop layer id) = refl
counts_length counts (Load feed layer) = refl
counts_length counts (Limit n) = refl
counts_length counts Publish = refl
counts_length counts (Explain text) = refl
counts_length counts (Replay events text) = refl
counts_length counts (Ask lane text) = length-set counts lane (slice_index counts lane + 1)

-- what stands fits the lines that are left after a line
ready_after : (loads : Loads) (feeds : ℕ) (head : Head) (bound : ℕ) (line : BodyLine) (left : List BodyLine) (old new : Stood) (out out_after : List ℕ) → IsStep loads head line old new out out_after → IsReady feeds head bound (line ∷ left) old → IsReady feeds head bound left new
ready_after loads feeds head bound line left old new out out_after step is =
    let fits : IsLineOf feeds head line = All-head (IsLineOf feeds head) line left is.lines in
    let number : (builder_of head new).last.number ≡ (after_line loads (builder_of head old) line).last.number = ap (λ (b : BuilderState). b.last.number) step.builder in
    let next : (after_line loads (builder_of head old) line).last.number ≤ (builder_of head old).last.number + 1 = number_after loads (builder_of head old) line in
    record {
      lines = All-tail (IsLineOf feeds head) line left is.lines;
      of_session = step.session is.of_session;
      number = omega (arith, is.number, number, next);
      asks = subst (All (λ n. n + length left ≤ bound)) (sym step.asks) (counts_bounded feeds head (asks_of old) line (length left) bound is.lanes fits is.asks);
      lanes = ap length step.asks ∙ counts_length (asks_of old) line ∙ is.lanes;
    }

-- ---- all lines, and those that are left

-- a line is answered, and the feed that it names has given this
abbrev pub HasAnswered : Head → BodyLine → Stood → Stood → List ℕ → List ℕ → List FeedView → List FeedView → Type 0
HasAnswered head line old new out out_after m n = (done : RunLoads) × (map (λ d. d.0) done ≡ named_by line) × ArePulled done [] m n × ((loads : Loads) → Agrees loads done → IsStep loads head line old new out out_after)

-- these lines are left of all, with this text so far, and these loads were run: what stands fits them where it fitted all; whatever text they have, all lines have it behind what was written; and the builder and the lanes end alike
pub record IsAlong (head : Head) (all left : List BodyLine) (start now : Stood) (out : List ℕ) (v n : List FeedView) : Type 0 where
  pub done : RunLoads
  pub named : map (λ d. d.0) done ++ feeds_named left ≡ feeds_named all
  pub pulled : ArePulled done [] v n
  pub ready : (feeds bound : ℕ) → IsReady feeds head bound all start → IsReady feeds head bound left now
  pub text : (loads : Loads) → Agrees loads done → (more : List ℕ) → IsText loads (builder_of head now) (asks_of now) left more → IsText loads (builder_of head start) (asks_of start) all (out ++ more)
  pub builder : (loads : Loads) → Agrees loads done → builder_after loads (builder_of head now) left ≡ builder_after loads (builder_of head start) all
  pub asks : asks_after (asks_of now) left ≡ asks_after (asks_of start) all

-- before the first
pub along_from : (head : Head) (all whole : List BodyLine) (start : Stood) (out : List ℕ) (v : List FeedView) → whole ≡ all → out ≡ [] → IsAlong head all whole start start out v v
along_from head all whole start out v is none = record {
  done = [];
  named = ap feeds_named is;
  pulled = may_none v;
  ready = λ feeds bound ready. subst (λ ls. IsReady feeds head bound ls start) (sym is) ready;
  text = λ loads agrees more text. subst (λ o. IsText loads (builder_of head start) (asks_of start) all (o ++ more)) (sym none) (subst (λ ls. IsText loads (builder_of head start) (asks_of start) ls more) is text);
  builder = λ loads agrees. ap (builder_after loads (builder_of head start)) is;
  asks = ap (asks_after (asks_of start)) is;
}

-- a line names one feed at most
apart_line : (line : BodyLine) → AreApart (named_by line)
apart_line (Put layer f) = λ i j d less within. absurd (omega (arith, within))
apart_line (Drop layer id) = λ i j d less within. absurd (omega (arith, within))
apart_line (Load feed layer) = λ i j d less within. absurd (omega (arith, less, within))
apart_line (Limit n) = λ i j d less within. absurd (omega (arith, within))
apart_line Publish = λ i j d less within. absurd (omega (arith, within))
apart_line (Ask lane text) = λ i j d less within. absurd (omega (arith, within))
apart_line (Explain text) = λ i j d less within. absurd (omega (arith, within))
apart_line (Replay events text) = λ i j d less within. absurd (omega (arith, within))

-- so there is something that the feeds may have given
step_of_some : (head : Head) (line : BodyLine) (old new : Stood) (out out_after : List ℕ) (m n : List FeedView) → HasAnswered head line old new out out_after m n → (loads : Loads) × IsStep loads head line old new out out_after
step_of_some head line old new out out_after m n (done, named, pulled, steps) =
    let loads : Loads = λ k. load_in done k (free_load None) in
    (loads, steps loads (agrees_all done (λ _. free_load None) (subst AreApart (sym named) (apart_line line))))

-- after a line
pub along_after : (head : Head) (all whole left : List BodyLine) (line : BodyLine) (start old new : Stood) (out out_after : List ℕ) (v m n : List FeedView) → whole ≡ line ∷ left → HasAnswered head line old new out out_after m n
    → IsAlong head all whole start old out v m → IsAlong head all left start new out_after v n
along_after head all whole left line start old new out out_after v m n is has before =
    let along : IsAlong head all (line ∷ left) start old out v m = subst (λ ls. IsAlong head all ls start old out v m) is before in
    let some = step_of_some head line old new out out_after m n has in
    let (more, of_line, pulled, steps) = has in
    record {
      done = along.done ++ more;
      named = ap (λ l. l ++ feeds_named left) (map-append (λ (d : ℕ × given.Load). d.0) along.done more) ∙ append_assoc (names along.done) (names more) (feeds_named left) ∙ ap (λ l. names along.done ++ (l ++ feeds_named left)) of_line ∙ along.named;
      pulled = pulled_on along.done more [] v m n along.pulled pulled;
      ready = λ feeds bound is. ready_after some.0 feeds head bound line left old new out out_after some.1 (along.ready feeds bound is);
      text = λ loads agrees more_text text.
          let step = steps loads (agrees_rest loads along.done more agrees) in
          let behind : IsText loads (after_line loads (builder_of head old) line) (counts_after (asks_of old) line) left more_text =
          subst (λ (p : AskCounts). IsText loads (after_line loads (builder_of head old) line) p left more_text) step.asks (subst (λ (b : BuilderState). IsText loads b (asks_of new) left more_text) step.builder text) in
          let whole = along.text loads (agrees_front loads along.done more agrees) (step.text ++ more_text) (step.text, more_text, refl, step.allowed, behind) in
          subst (IsText loads (builder_of head start) (asks_of start) all) (sym (ap (λ o. o ++ more_text) step.appended ∙ append_assoc out step.text more_text)) whole;
      builder = λ loads agrees.
          let step = steps loads (agrees_rest loads along.done more agrees) in
          ap (λ (b : BuilderState). builder_after loads b left) step.builder ∙ along.builder loads (agrees_front loads along.done more agrees);
      asks = ap (λ (p : AskCounts). asks_after p left) some.1.asks ∙ along.asks;
    }

-- what stands fits the line that comes next, where there are as many feeds as before
pub ready_next : (head : Head) (all whole left : List BodyLine) (line : BodyLine) (start now : Stood) (out : List ℕ) (v n : List FeedView) (feeds more bound : ℕ) → whole ≡ line ∷ left → more ≡ feeds → IsAlong head all whole start now out v n
    → IsReady feeds head bound all start → IsReady more head bound (line ∷ left) now
ready_next head all whole left line start now out v n feeds more bound is same along ready =
    subst (λ k. IsReady k head bound (line ∷ left) now) (sym same) (subst (λ ls. IsReady feeds head bound ls now) is (along.ready feeds bound ready))

-- at the end all lines are answered
pub along_at_end : (head : Head) (all left : List BodyLine) (start now : Stood) (out : List ℕ) (v n : List FeedView) → length left ≡ 0 → IsAlong head all left start now out v n
    → (done : RunLoads) × AreLoaded all done v n × ((loads : Loads) → Agrees loads done → IsAnswered loads head all start now out)
along_at_end head all [] start now out v n none along = (
  along.done,
  (sym (append-nil (names along.done)) ∙ along.named, along.pulled),
  λ loads agrees. record {
    allowed = subst (IsText loads (builder_of head start) (asks_of start) all) (append-nil out) (along.text loads agrees [] refl);
    builder = along.builder loads agrees;
    asks = along.asks;
  },
)
along_at_end head all (x ∷ xs) start now out v n none along = absurd (omega (arith, none))

-- and what stands fits no more lines
pub ready_at_end : (head : Head) (all left : List BodyLine) (start now : Stood) (out : List ℕ) (v n : List FeedView) → length left ≡ 0 → IsAlong head all left start now out v n → (feeds bound : ℕ) → IsReady feeds head bound all start → IsReady feeds head bound [] now
ready_at_end head all [] start now out v n none along feeds bound is = along.ready feeds bound is
ready_at_end head all (x ∷ xs) start now out v n none along feeds bound is = absurd (omega (arith, none))

-- where a line ends the call, none but the feeds that all lines name were pulled
pub stopped_along : (head : Head) (all whole left : List BodyLine) (line : BodyLine) (start old : Stood) (out : List ℕ) (v m n : List FeedView) → whole ≡ line ∷ left → IsAlong head all whole start old out v m → MayBePulled (named_by line) m n
    → {A E : Type 0} (r : Result A E) → OnErr r (MayBePulled (feeds_named all) v n)
stopped_along head all whole left line start old out v m n is before may (Ok a) = tt
stopped_along head all whole left line start old out v m n is before may (Err e) =
    let along : IsAlong head all (line ∷ left) start old out v m = subst (λ ls. IsAlong head all ls start old out v m) is before in
    let all_done : names (along.done ++ []) ≡ names along.done = ap names (append-nil along.done) in
    may_all (along.done ++ []) (named_by line) (feeds_named left) (feeds_named all) v n (pulled_on along.done [] (named_by line) v m n along.pulled may)
    (sym along.named ∙ ap (λ l. l ++ (named_by line ++ feeds_named left)) (sym all_done))
