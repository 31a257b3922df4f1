-- The files that the words of a command line name.
use Rattle.std.proofs.Common.{◌≡◌, ◌≤◌, ◌&&◌, nat_le, Result, Ok, Err, IfOk, ℕ, List, [], ◌∷◌, Bool, true, false, Option, Some, None, is_some, map, length, refl, arith}
use Rattle.std.specs.Prelude.{if◌then◌else◌}
use Rattle.std.specs.List.{list_all, filter_map, cons_option}
use Rattle.std.proofs.lemmas.Bool.{leb-true}
use Rattle.session_text.specs.declared.session.Kind.{Kind}
use Rattle.carmen_cli.specs.TopCall.{FileView, feed_word, is_feed_word, most_feeds, kind_named, files_of}

-- what is read of each item may be read before
pub filter_map-map : {X Y Z : Type 0} (h : Y → Option Z) (f : X → Y) (xs : List X) → filter_map (λ x. h (f x)) xs ≡ filter_map h (map f xs)
filter_map-map h f [] = refl
filter_map-map h f (x ∷ xs) = rw (filter_map-map h f xs) refl

-- each item gives one at most
length-filter_map : {X Y : Type 0} (h : X → Option Y) (xs : List X) → length (filter_map h xs) ≤ length xs
length-filter_map h [] = omega arith
length-filter_map {Y = Y} h (x ∷ xs) = by (h x) (length-filter_map h xs)
  where
    by : (o : Option Y) → length (filter_map h xs) ≤ length xs → length (cons_option o (filter_map h xs)) ≤ length (x ∷ xs)
    by None few = omega (arith, few)
    by (Some y) few = omega (arith, few)

-- there are 16 files at most
few_files : (words : List (List ℕ)) → length (files_of words) ≤ 16
few_files [] = omega arith
few_files (word ∷ feeds) = by (nat_le (length feeds) most_feeds) (list_all is_feed_word feeds) (kind_named word) refl
  where
    by : (a b : Bool) (kind : Option Kind) → nat_le (length feeds) most_feeds ≡ a → length (if is_some (if a && b then kind else None) then filter_map feed_word feeds else []) ≤ 16
    by false b kind is = omega arith
    by true false kind is = omega arith
    by true true None is = omega arith
    by true true (Some kind) is = omega (arith, length-filter_map feed_word feeds, leb-true (length feeds) 16 is)

-- so there are in what was read of the words
pub few_in : {A E : Type 0} (items : A → List FileView) (r : Result A E) (words : List (List ℕ)) → IfOk r (λ files. items files ≡ files_of words) → IfOk r (λ files. length (items files) ≤ 16)
few_in items (Err e) words is = tt
few_in items (Ok files) words is = rw is (few_files words)
