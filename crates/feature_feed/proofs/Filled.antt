-- A layer that is filled from a feed, item after item.
use Rattle.std.proofs.Common.{◌≡◌, ◌∙◌, ◌+◌, ◌<◌, ◌≤◌, ℕ, Bool, cond, List, [], ◌∷◌, ◌++◌, length-append, Option, Some, None, refl, sym, ap, arith, append_assoc, append-nil, length}
use Rattle.std.specs.Prelude.{count_by, sum_by}
use Rattle.std.proofs.lemmas.List.Sums.{fold-append, sum_by-append, sum_by-cons}
use Rattle.geo_outside.specs.Device.{raised}
use Rattle.geo_layer.specs.Layer.{LayerView}
use Rattle.feature_reader.specs.Table.{Table}
use Rattle.feature_feed.specs.Feed.{Gives}
use Rattle.feature_feed.specs.Drain.{outcome_of, outcomes_of, after_item, after_items, is_bad, is_full, with_outcome, Gave, IsLoad}
use Rattle.feature_feed.specs.declared.feed.FeedItem.{FeedItem}
use Rattle.feature_reader.specs.declared.load_report.LoadReport.{LoadReport}
use Rattle.feature_feed.specs.declared.drain.Outcome.{Outcome}
use Rattle.feature_feed.specs.declared.drain.Outcome.TheVariants.{Bad, Full, Put}

-- while nothing failed: of items that it told, it still tells what is left behind those that it gave
abbrev pub Tells : Option (List FeedItem) → List FeedItem → Option (List FeedItem) → Type 0
Tells before gave left = (items : List FeedItem) → before ≡ Some items → (more : List FeedItem) × (left ≡ Some more) × (items ≡ gave ++ more)

-- what the feed gave so far was put and counted, and it tells what is left
pub record Filling (before : Option (List FeedItem)) (layer : LayerView) (langs : List (List ℕ)) (place : ℕ) (table : Table) (report : LoadReport) (gave : List FeedItem) (left : Option (List FeedItem)) (now : Table) : Type 0 where
  pub tells : Tells before gave left
  pub rest : (more : List FeedItem) → left ≡ Some more → before ≡ Some (gave ++ more)
  pub load : IsLoad layer langs place table now report gave

module _ (layer : LayerView) (langs : List (List ℕ)) (place : ℕ) where
  -- what comes of one more item
  outcomes_more : (table : Table) (gave : List FeedItem) (item : FeedItem) → outcomes_of layer langs place table (gave ++ item ∷ []) ≡ outcomes_of layer langs place table gave ++ outcome_of layer langs place (after_items layer langs place table gave) item ∷ []
  outcomes_more table [] item = refl
  outcomes_more table (first ∷ gave) item = ap (λ os. outcome_of layer langs place table first ∷ os) (outcomes_more (after_item layer langs place table first) gave item)

  counted : (p : Outcome → Bool) (table now : Table) (gave : List FeedItem) (item : FeedItem) (o : Outcome) → now ≡ after_items layer langs place table gave → o ≡ outcome_of layer langs place now item
      → count_by p (outcomes_of layer langs place table (gave ++ item ∷ [])) ≡ count_by p (outcomes_of layer langs place table gave) + cond (p o) 1 0
  counted p table now gave item o is came =
      let same : outcome_of layer langs place (after_items layer langs place table gave) item ≡ o = ap (λ (t : Table). outcome_of layer langs place t item) (sym is) ∙ sym came in
      ap (count_by p) (outcomes_more table gave item ∙ ap (λ x. outcomes_of layer langs place table gave ++ x ∷ []) same)
      ∙ sum_by-append (λ x. cond (p x) 1 0) (outcomes_of layer langs place table gave) (o ∷ [])
      ∙ ap (λ n. count_by p (outcomes_of layer langs place table gave) + n) (one o)
    where
      one : (o : Outcome) → sum_by (λ x. cond (p x) 1 0) (o ∷ []) ≡ cond (p o) 1 0
      one o = sum_by-cons (λ x. cond (p x) 1 0) o [] ∙ omega arith

  pub read_more : (r : LoadReport) (o : Outcome) → (with_outcome r o).read ≡ r.read + 1
  read_more r Put = refl
  read_more r Bad = refl
  read_more r Full = refl

  bad_more : (r : LoadReport) (o : Outcome) → (with_outcome r o).bad ≡ r.bad + cond (is_bad o) 1 0
  bad_more r Put = omega arith
  bad_more r Bad = refl
  bad_more r Full = omega arith

  full_more : (r : LoadReport) (o : Outcome) → (with_outcome r o).full ≡ r.full + cond (is_full o) 1 0
  full_more r Put = omega arith
  full_more r Bad = omega arith
  full_more r Full = refl

  -- one more item was given, put and counted
  pub filling_more : (before : Option (List FeedItem)) (table : Table) (report : LoadReport) (gave : List FeedItem) (left after : Option (List FeedItem)) (now then : Table) (item : FeedItem) (o : Outcome)
      → Filling before layer langs place table report gave left now
      → ((items : List FeedItem) → left ≡ Some items → Gives items (Some item) after)
      → ((items : List FeedItem) → after ≡ Some items → (was : List FeedItem) × (left ≡ Some was))
      → o ≡ outcome_of layer langs place now item → then ≡ after_item layer langs place now item
      → Filling before layer langs place table (with_outcome report o) (gave ++ item ∷ []) after then
  filling_more before table report gave left after now then item o so_far gives told came put =
      record {
        tells = λ items is.
            let (more, here, all) = so_far.tells items is in
            let (ys, first, behind) = gives more here in
            (ys, behind, all ∙ ap (λ l. gave ++ l) first ∙ sym (append_assoc gave (item ∷ []) ys));
        rest = λ more is.
            let (was, here) = told more is in
            let (ys, first, behind) = gives was here in
            let same : ys ≡ more = let both : Some ys ≡ Some more = sym behind ∙ is in cc both in
            so_far.rest was here ∙ ap (λ l. Some (gave ++ l)) (first ∙ ap (λ l. item ∷ l) same) ∙ ap Some (sym (append_assoc gave (item ∷ []) more));
        load =
            record {
              read = read_more report o ∙ omega (arith, so_far.load.read, length-append gave (item ∷ []));
              bad = bad_more report o ∙ ap (λ n. n + cond (is_bad o) 1 0) so_far.load.bad ∙ sym (counted is_bad table now gave item o so_far.load.table came);
              full = full_more report o ∙ ap (λ n. n + cond (is_full o) 1 0) so_far.load.full ∙ sym (counted is_full table now gave item o so_far.load.table came);
              table = put ∙ ap (λ (t : Table). after_item layer langs place t item) so_far.load.table ∙ sym (fold-append (after_item layer langs place) table gave (item ∷ []));
            };
      }

-- what the feed gave, where a pull changed nothing, or only that it tells no more
pub gave_same : (before left after : Option (List FeedItem)) (gave : List FeedItem) → Tells before gave left → ((more : List FeedItem) → left ≡ Some more → before ≡ Some (gave ++ more)) → ((items : List FeedItem) → after ≡ Some items → left ≡ Some items) → Gave before gave after
gave_same before left after gave tells rest same =
    record {
      front = λ items is. let (more, here, all) = tells items is in (more, all);
      rest = λ more is. rest more (same more is);
    }

-- what it gave, where nothing was left
pub gave_end : (before left after : Option (List FeedItem)) (gave : List FeedItem) → Tells before gave left → ((more : List FeedItem) → left ≡ Some more → before ≡ Some (gave ++ more)) → ((items : List FeedItem) → left ≡ Some items → Gives items None after)
    → ((items : List FeedItem) → after ≡ Some items → (was : List FeedItem) × (left ≡ Some was)) → Gave before gave after
gave_end before left after gave tells rest gives told =
    record {
      front = λ items is. let (more, here, all) = tells items is in (more, all);
      rest = λ more is.
          let (was, here) = told more is in
          let (none, behind) = gives was here in
          let same : was ≡ more = none ∙ (let both : Some [] ≡ Some more = sym behind ∙ is in cc both) in
          rest more (here ∙ ap Some same);
    }

-- what it gave, where a pull gave one more
pub gave_one : (before left after : Option (List FeedItem)) (gave : List FeedItem) (item : FeedItem) → Tells before gave left → ((more : List FeedItem) → left ≡ Some more → before ≡ Some (gave ++ more))
    → ((items : List FeedItem) → left ≡ Some items → Gives items (Some item) after) → ((items : List FeedItem) → after ≡ Some items → (was : List FeedItem) × (left ≡ Some was)) → Gave before (gave ++ item ∷ []) after
gave_one before left after gave item tells rest gives told =
    record {
      front = λ items is.
          let (more, here, all) = tells items is in
          let (ys, first, behind) = gives more here in
          (ys, all ∙ ap (λ l. gave ++ l) first ∙ sym (append_assoc gave (item ∷ []) ys));
      rest = λ more is.
          let (was, here) = told more is in
          let (ys, first, behind) = gives was here in
          let same : ys ≡ more = let both : Some ys ≡ Some more = sym behind ∙ is in cc both in
          rest was here ∙ ap (λ l. Some (gave ++ l)) (first ∙ ap (λ l. item ∷ l) same) ∙ ap Some (sym (append_assoc gave (item ∷ []) more));
    }

-- no more are bad, or refused, than were read
pub bad_within : (r : LoadReport) (o : Outcome) → r.bad ≤ r.read → (with_outcome r o).bad ≤ (with_outcome r o).read
bad_within r Put h = omega (arith, h)
bad_within r Bad h = omega (arith, h)
bad_within r Full h = omega (arith, h)

pub full_within : (r : LoadReport) (o : Outcome) → r.full ≤ r.read → (with_outcome r o).full ≤ (with_outcome r o).read
full_within r Put h = omega (arith, h)
full_within r Bad h = omega (arith, h)
full_within r Full h = omega (arith, h)

-- the count of items given, where it hasn't reached its end
pub given_more : (before now after turns : ℕ) → after ≡ raised now → (now < 18446744073709551615 → now ≡ before + turns) → after < 18446744073709551615 → after ≡ before + (turns + 1)
given_more before now after turns is so_far below =
    let lower : now < 18446744073709551615 = omega (arith, is, below) in
    omega (arith, is, below, so_far lower)

-- and where a pull gave none
pub given_still : (before now after turns n : ℕ) → after ≡ now → (now < 18446744073709551615 → now ≡ before + turns) → n ≡ turns → after < 18446744073709551615 → after ≡ before + n
given_still before now after turns n is so_far same below =
    let lower : now < 18446744073709551615 = omega (arith, is, below) in
    omega (arith, is, so_far lower, same)

pub end_more : (r : LoadReport) (o : Outcome) → (with_outcome r o).end ≡ r.end
end_more r Put = refl
end_more r Bad = refl
end_more r Full = refl

-- all that it told, where nothing is left
pub all_given : (before left after : Option (List FeedItem)) (gave : List FeedItem) → Tells before gave left → ((items : List FeedItem) → left ≡ Some items → Gives items None after) → (items : List FeedItem) → before ≡ Some items → length gave ≡ length items
all_given before left after gave tells gives items is =
    let (more, here, all) = tells items is in
    let (none, behind) = gives more here in
    ap length (sym (append-nil gave) ∙ ap (λ l. gave ++ l) (sym none) ∙ sym all)
