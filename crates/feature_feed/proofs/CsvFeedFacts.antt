-- What a feed of the rows of CSV has left.
use Rattle.std.proofs.Common.{◌≡◌, ℕ, false, List, [], ◌∷◌, ◌++◌, take, Option, Some, None, Result, Ok, Err, IfOk, refl, sym, ap, ◌∙◌, option_map}
use Rattle.std.specs.Prelude.{OnErr}
use Rattle.std.specs.Option.{is_some}
use Rattle.csv.specs.Reading.{strip_bom}
use Rattle.csv.specs.declared.parser.State.TheVariants as st
use Rattle.feature_feed.specs.Csv.{csv_items, row_items, without_header}
use Rattle.geo_outside.specs.Device.{most_bytes}
use Rattle.feature_feed.specs.Feed.{Gives}
use Rattle.feature_feed.specs.CsvRows.{Rows, rows_from, GivesRow}
use Rattle.feature_feed.specs.CsvFeed.{left_at, given_at}
use Rattle.feature_feed.specs.Taking.{all_bytes}
use Rattle.feature_feed.specs.declared.csv_feed.Opened.{Opened}
use Rattle.feature_feed.specs.declared.feed.FeedError.{FeedError}
use Rattle.feature_feed.specs.declared.feed.FeedItem.{FeedItem}
use Rattle.feature_feed.specs.declared.feed.FeedItem.TheVariants.{Row}

-- while the source is taken, what is left goes by all its bytes
pub left_by_bytes : (opened : Option Opened) (left now : Option (List ℕ)) (taken after : List ℕ) → is_some opened ≡ false → all_bytes after now ≡ all_bytes taken left → left_at opened after now ≡ left_at opened taken left
left_by_bytes (Some opened) left now taken after closed same = cc closed
left_by_bytes None None None taken after closed same = refl
left_by_bytes None None (Some y) taken after closed same = cc same
left_by_bytes None (Some x) None taken after closed same = cc same
left_by_bytes None (Some x) (Some y) taken after closed same = let all : after ++ y ≡ taken ++ x = cc same in ap (λ l. Some (csv_items (take most_bytes l))) all

-- where the whole is taken, the rows of it are what was left before
pub opened_left : (before : Option Opened) (left now : Option (List ℕ)) (taken after bytes gone : List ℕ) (rows : Opened)
    → is_some before ≡ false → all_bytes after now ≡ all_bytes taken left
    → ((rest : List ℕ) → left ≡ Some rest → take most_bytes after ≡ take most_bytes (taken ++ rest))
    → bytes ≡ take most_bytes after → rows.rows ≡ Some (without_header (rows_from st.StartRecord (strip_bom bytes)))
    → left_at (Some rows) gone now ≡ left_at before taken left
opened_left (Some some) left now taken after bytes gone rows closed same whole cut is = cc closed
opened_left None None None taken after bytes gone rows closed same whole cut is = refl
opened_left None None (Some y) taken after bytes gone rows closed same whole cut is = cc same
opened_left None (Some x) None taken after bytes gone rows closed same whole cut is = cc same
opened_left None (Some x) (Some y) taken after bytes gone rows closed same whole cut is =
    let all : bytes ≡ take most_bytes (taken ++ x) = cut ∙ whole x refl in
    ap (option_map row_items) is ∙ ap (λ bs. Some (csv_items bs)) all

-- while the source is taken, none is given
pub none_yet : (o : Option Opened) → is_some o ≡ false → given_at o ≡ 0
none_yet None closed = refl
none_yet (Some opened) closed = cc closed

-- the rows behind items that are known
some_rows : (rows : Option Rows) (items : List FeedItem) → option_map row_items rows ≡ Some items → (rs : Rows) × (rows ≡ Some rs) × (row_items rs ≡ items)
some_rows None items is = cc is
some_rows (Some rs) items is = (rs, refl, cc is)

-- a row that is given is the first of the items
pub row_given : (rows next : Option Rows) (row : List (List ℕ)) (items : List FeedItem) → option_map row_items rows ≡ Some items → ((rs : Rows) → rows ≡ Some rs → GivesRow rs (Some row) next)
    → (more : List FeedItem) × (items ≡ Row row ∷ more) × (option_map row_items next ≡ Some more)
row_given rows next row items had gave =
    let (rs, here, all) = some_rows rows items had in
    let one = gave rs here in
    (row_items one.0, sym all ∙ ap row_items one.1, ap (option_map row_items) one.2)

-- where no row is given, there is no item
pub none_given : (rows next : Option Rows) (items : List FeedItem) → option_map row_items rows ≡ Some items → ((rs : Rows) → rows ≡ Some rs → GivesRow rs None next) → (items ≡ []) × (option_map row_items next ≡ Some [])
none_given rows next items had gave =
    let (rs, here, all) = some_rows rows items had in
    let none = gave rs here in
    (sym all ∙ ap row_items none.0, ap (option_map row_items) none.1)

-- the items that a pull leaves known were known before it
pub rows_told : (rows next : Option Rows) → ((rs : Rows) → next ≡ Some rs → (was : Rows) × (rows ≡ Some was)) → (items : List FeedItem) → option_map row_items next ≡ Some items
    → (was : List FeedItem) × (option_map row_items rows ≡ Some was)
rows_told rows next seen items known =
    let (rs, here, all) = some_rows next items known in
    let (was, there) = seen rs here in
    (row_items was, ap (option_map row_items) there)

-- how many were given, once all is taken
pub given_is : (opened : Option Opened) (rows : Opened) → opened ≡ Some rows → given_at opened ≡ rows.given
given_is opened rows is = rw is refl

-- ---- a pull, once all is taken

module _ (start : Option (List FeedItem)) (opened : Option Opened) (rows next : Opened) (taken gone : List ℕ) (left : Option (List ℕ)) (is : opened ≡ Some rows)
    (same : left_at opened taken left ≡ start) where
  -- what it gives is the first of what was left
  pub pulled : (r : Result (Option FeedItem) FeedError) → IfOk r (λ o. (items : List FeedItem) → option_map row_items rows.rows ≡ Some items → Gives items o (option_map row_items next.rows))
      → IfOk r (λ o. (items : List FeedItem) → start ≡ Some items → Gives items o (left_at (Some next) gone left))
  pulled (Err e) gave = tt
  pulled (Ok o) gave = λ items was. by items left (ap (λ (f : Option Opened). left_at f taken left) (sym is) ∙ (same ∙ was))
    where
      by : (items : List FeedItem) (l : Option (List ℕ)) → left_at (Some rows) taken l ≡ Some items → Gives items o (left_at (Some next) gone l)
      by items None had = absurd (cc had)
      by items (Some rest) had = gave items had

  -- what is known after it was known before
  pub known_before : ((items : List FeedItem) → option_map row_items next.rows ≡ Some items → (was : List FeedItem) × (option_map row_items rows.rows ≡ Some was))
      → (items : List FeedItem) → left_at (Some next) gone left ≡ Some items → (was : List FeedItem) × (start ≡ Some was)
  known_before seen items known =
      let had = by left known in
      (had.0, sym same ∙ (ap (λ (f : Option Opened). left_at f taken left) is ∙ had.1))
    where
      by : (l : Option (List ℕ)) → left_at (Some next) gone l ≡ Some items → (was : List FeedItem) × (left_at (Some rows) taken l ≡ Some was)
      by None known = absurd (cc known)
      by (Some rest) known = seen items known

  -- after a want of memory nothing is known
  pub lost_then : (r : Result (Option FeedItem) FeedError) → OnErr r (next.rows ≡ None) → OnErr r ((items : List FeedItem) → left_at (Some next) gone left ≡ Some items → start ≡ Some items)
  lost_then (Ok o) lost = tt
  lost_then (Err e) lost = λ items known. absurd (by left items known)
    where
      by : (l : Option (List ℕ)) (items : List FeedItem) → left_at (Some next) gone l ≡ Some items → ⊥
      by None items known = absurd (cc known)
      by (Some rest) items known = absurd (cc (rw lost at known))
