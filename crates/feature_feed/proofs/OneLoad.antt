-- Loads of one feed that didn't fail are one load.
use Rattle.std.proofs.Common.{◌≡◌, ◌∙◌, ◌<◌, ◌+◌, List, [], ◌∷◌, ◌++◌, length, Some, refl, sym, ap, arith}
use Rattle.std.specs.Prelude.{◌≢◌}
use Rattle.std.proofs.lemmas.List.{length-append}
use Rattle.feature_reader.specs.declared.load_report.LoadEnd.{LoadEnd}
use Rattle.feature_reader.specs.declared.load_report.LoadEnd.TheVariants.{End, Fault, Limit}
use Rattle.feature_feed.specs.Feed.{FeedView}
use Rattle.feature_feed.specs.Load.{Load, IsLoadOf, most_items}
use Rattle.feature_feed.specs.declared.feed.FeedItem.{FeedItem}

-- fronts of one list that are as long are one
same_front : {A : Type 0} (xs ys more rest : List A) → xs ++ more ≡ ys ++ rest → length xs ≡ length ys → xs ≡ ys
same_front [] [] more rest is long = refl
same_front [] (y ∷ ys) more rest is long = absurd (omega (arith, long))
same_front (x ∷ xs) [] more rest is long = absurd (omega (arith, long))
same_front (x ∷ xs) (y ∷ ys) more rest is long =
    let firsts : x ≡ y = cc is in
    let behind : xs ++ more ≡ ys ++ rest = cc is in
    let same : xs ≡ ys = same_front xs ys more rest behind (omega (arith, long)) in
    rw (firsts, same) refl

-- one has all items, and so not as many as the most
apart : (items gave other more : List FeedItem) → length gave < most_items → items ≡ gave → items ≡ other ++ more → length other ≡ most_items → ⊥
apart items gave other more few all front many =
    let sum : length items ≡ length other + length more = ap (length {A = FeedItem}) front ∙ length-append other more in
    let same : length items ≡ length gave = ap (length {A = FeedItem}) all in
    absurd (omega (arith, few, sum, same, many))

abbrev load_of : List FeedItem → LoadEnd → Load
load_of gave end = record { gave = gave; end = end }

pub one_load : (before after later : FeedView) (items : List FeedItem) (load other : Load) → before.left ≡ Some items → IsLoadOf before after load → IsLoadOf before later other
    → load.end ≢ Fault → other.end ≢ Fault → load ≡ other
one_load before after later items load other told one two well fine = by load.end other.end refl refl
  where
    whole : (e : LoadEnd) → load.end ≡ e → other.end ≡ e → load.gave ≡ other.gave → load ≡ other
    whole e is same gave =
        let ends : load.end ≡ other.end = is ∙ sym same in
        ap (λ g. load_of g load.end) gave ∙ ap (load_of other.gave) ends

    by : (e f : LoadEnd) → load.end ≡ e → other.end ≡ f → load ≡ other
    by Fault f is same = absurd (well is)
    by End Fault is same = absurd (fine same)
    by Limit Fault is same = absurd (fine same)
    by End End is same = whole End is same (sym ((one.ended is).1 items told) ∙ (two.ended same).1 items told)
    by Limit Limit is same =
        let (more, front) = one.first items told in
        let (rest, behind) = two.first items told in
        whole Limit is same (same_front load.gave other.gave more rest (sym front ∙ behind) (one.limited.0 is ∙ sym (two.limited.0 same)))
    by End Limit is same =
        let (rest, behind) = two.first items told in
        absurd (apart items load.gave other.gave rest (one.ended is).0 ((one.ended is).1 items told) behind (two.limited.0 same))
    by Limit End is same =
        let (more, front) = one.first items told in
        absurd (apart items other.gave load.gave more (two.ended same).0 ((two.ended same).1 items told) front (one.limited.0 is))
