-- Line feeds, and the lines that they end.
use Rattle.std.proofs.Common.{◌≡◌, ◌∙◌, ◌+◌, ◌-◌, ◌≤◌, ◌==◌, ℕ, cond, List, [], ◌∷◌, ◌++◌, length, take, drop, refl, sym, ap, append_assoc, append-nil, arith}
use Rattle.std.specs.Prelude.{slice_range}
use Rattle.std.specs.List.{slice_split}
use Rattle.std.specs.Str.Lines.{lines, lines_of_parts, strip_carriage_return}
use Rattle.std.proofs.lemmas.List.{drop-drop, drop-take, drop_all, length-append, length-drop, length-take-le, take_all}
use Rattle.std.proofs.Math.Seq.{drop-append-add}
use Rattle.geo_text.specs.Bytes.{NoLineFeed}
use Rattle.geo_text.proofs.LineFeeds.{is_line_feed, split_line, split_rest}
use Rattle.geo_text.proofs.SplitParts.{some_part}

-- ---- the lines of bytes

lines_cons : (x : List ℕ) (parts : List (List ℕ)) (y : List ℕ) (ys : List (List ℕ)) → parts ≡ y ∷ ys → lines_of_parts (x ∷ parts) ≡ strip_carriage_return x ∷ lines_of_parts parts
lines_cons x parts y ys is = rw is refl

-- the first line, and the lines of what follows
pub lines_line : (xs more : List ℕ) → NoLineFeed xs → lines (xs ++ 10 ∷ more) ≡ strip_carriage_return xs ∷ lines more
lines_line xs more none =
    let next = some_part is_line_feed more in
    ap lines_of_parts (split_line xs more none) ∙ lines_cons xs (slice_split is_line_feed more) next.0 next.1 next.2

-- without a line feed there is one line, where there is a byte
pub lines_rest : (xs : List ℕ) → NoLineFeed xs → lines xs ≡ cond (length xs == 0) [] (xs ∷ [])
lines_rest xs none = ap lines_of_parts (split_rest xs none)

-- ---- a range less its front

pub range_less : (xs : List ℕ) (from n end : ℕ) → from + n ≤ end → drop n (slice_range xs from end) ≡ slice_range xs (from + n) end
range_less xs from n end within =
    let sum : end - from ≡ n + (end - (from + n)) = omega (arith, within) in
    ap (λ k. drop n (take k (drop from xs))) sum ∙ drop-take n (end - (from + n)) (drop from xs) ∙ ap (take (end - (from + n))) (drop-drop n from xs)

-- what is left where a line is taken off
pub taken_off : (now begun part more block dest : List ℕ) (from end : ℕ) → begun ++ slice_range block from end ≡ now → slice_range block from end ≡ part ++ 10 ∷ more → from ≤ end → end ≤ length block → dest ≡ []
    → now ≡ (begun ++ part) ++ 10 ∷ (dest ++ slice_range block (from + (length part + 1)) end)
taken_off now begun part more block dest from end view is ordered within empty =
    let few : end - from ≤ length (drop from block) = omega (arith, length-drop from block, ordered, within) in
    let count : length (slice_range block from end) ≡ end - from = length-take-le (end - from) (drop from block) few in
    let parts : length (slice_range block from end) ≡ length part + length (10 ∷ more) = ap (length {A = ℕ}) is ∙ length-append part (10 ∷ more) in
    let room : from + (length part + 1) ≤ end = omega (arith, count, parts, ordered) in
    let rest : more ≡ slice_range block (from + (length part + 1)) end = sym (drop-append-add part (10 ∷ more) 1) ∙ (ap (drop (length part + 1)) (sym is) ∙ range_less block from (length part + 1) end room) in
    sym view ∙ ap (λ l. begun ++ l) (is ∙ ap (λ l. part ++ 10 ∷ l) rest)
    ∙ sym (append_assoc begun part (10 ∷ slice_range block (from + (length part + 1)) end))
    ∙ ap (λ l. (begun ++ part) ++ 10 ∷ (l ++ slice_range block (from + (length part + 1)) end)) (sym empty)

-- ---- a block that was read into

pub block_kept : (block new : List ℕ) (len : ℕ) → length block ≡ len → length new ≡ length block → take len (new ++ drop (length new) block) ≡ new
block_kept block new len whole same =
    let none : drop (length new) block ≡ [] = drop_all (length new) block (omega (arith, same)) in
    ap (λ l. take len (new ++ l)) none ∙ ap (take len) (append-nil new) ∙ take_all len new (omega (arith, whole, same))
