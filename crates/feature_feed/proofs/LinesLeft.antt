-- What is left of a source, while it is read and its lines are taken.
use Rattle.std.proofs.Common.{◌≡◌, ◌∙◌, ◌+◌, ◌<◌, ◌==◌, ℕ, false, cond, List, [], ◌∷◌, ◌++◌, length, take, Option, None, Some, refl, sym, ap, append_assoc, append-nil, arith}
use Rattle.std.specs.Io.KnownBytes.{Consumes, IsAtEnd}
use Rattle.std.specs.Option.{option_map}
use Rattle.std.specs.Str.Lines.{lines, strip_carriage_return}
use Rattle.std.proofs.Math.Seq.{take-append-add, take-nil}
use Rattle.geo_text.specs.Bytes.{NoLineFeed}
use Rattle.feature_feed.specs.JsonLines.{json_items, bytes_left, lines_left, items_left, onto}
use Rattle.feature_feed.proofs.FeedLines.{lines_line, lines_rest}

-- ---- a read

front : (buffered part y : List ℕ) (room after n : ℕ) → length part ≡ n → (n ≡ 0 → y ≡ []) → (n ≡ 0 → after ≡ 0) → (0 < n → after + n ≡ room) → (buffered ++ part) ++ take after y ≡ buffered ++ take room (part ++ y)
front buffered [] y room after n count none ended more =
    let zero_is : n ≡ 0 = omega (arith, count) in
    let empty = none zero_is in
    ap (λ l. (buffered ++ []) ++ take after l) empty ∙ ap (λ l. (buffered ++ []) ++ l) (take-nil after) ∙ append-nil (buffered ++ []) ∙ ap (λ l. buffered ++ l) (sym (take-nil room) ∙ ap (take room) (sym empty))
front buffered (b ∷ part) y room after n count none ended more =
    let sum : room ≡ length (b ∷ part) + after = omega (arith, count, more) in
    append_assoc buffered (b ∷ part) (take after y) ∙ ap (λ l. buffered ++ l) (sym (ap (λ k. take k ((b ∷ part) ++ y)) sum ∙ take-append-add (b ∷ part) y after))

-- what has come moves from the source into the buffer
pub read_more : (buffered part : List ℕ) (room after n : ℕ) (old new : Option (List ℕ)) → Consumes old new part → length part ≡ n → (n ≡ 0 → IsAtEnd new) → (n ≡ 0 → after ≡ 0) → (0 < n → after + n ≡ room) → ((bytes : List ℕ) → new ≡ Some bytes → (before : List ℕ) × (old ≡ Some before))
    → bytes_left (buffered ++ part) after new ≡ bytes_left buffered room old
read_more buffered part room after n None None took count none ended more told = refl
read_more buffered part room after n None (Some y) took count none ended more told = let before = told y refl in absurd (cc before.1)
read_more buffered part room after n (Some x) None took count none ended more told = absurd took
read_more buffered part room after n (Some x) (Some y) took count none ended more told = ap Some (front buffered part y room after n count none ended more ∙ ap (λ l. buffered ++ take room l) (sym took))

-- ---- a line

-- a line feed has come
pub line_taken : (buffered line rest text : List ℕ) (room : ℕ) (left : Option (List ℕ)) → NoLineFeed line → buffered ≡ line ++ 10 ∷ rest → text ≡ strip_carriage_return line → lines_left buffered room left ≡ onto text (lines_left rest room left)
line_taken buffered line rest text room None none is stripped = refl
line_taken buffered line rest text room (Some x) none is stripped =
    ap Some (ap (λ l. lines (l ++ take room x)) is ∙ ap lines (append_assoc line (10 ∷ rest) (take room x)) ∙ lines_line line (rest ++ take room x) none ∙ ap (λ l. l ∷ lines (rest ++ take room x)) (sym stripped))

-- nothing comes any more, and there is a byte
pub last_taken : (buffered text : List ℕ) (room : ℕ) (left : Option (List ℕ)) → NoLineFeed buffered → text ≡ buffered → room ≡ 0 → (length text == 0) ≡ false → lines_left buffered room left ≡ onto text (lines_left [] room left)
last_taken buffered text room None none is zero_is some = refl
last_taken buffered text room (Some x) none is zero_is some =
    ap Some (ap (λ k. lines (buffered ++ take k x)) zero_is ∙ ap lines (append-nil buffered) ∙ lines_rest buffered none ∙ ap (λ l. cond (length l == 0) [] (l ∷ [])) (sym is) ∙ ap (λ b. cond b [] (text ∷ [])) some ∙ ap (λ k. text ∷ lines (take k x)) (sym zero_is))

-- ---- before a first read

pub from_start : (buffered : List ℕ) (room limit : ℕ) (left known : Option (List ℕ)) → buffered ≡ [] → room ≡ limit → left ≡ known → items_left buffered room left ≡ option_map (λ bytes. json_items (take limit bytes)) known
from_start buffered room limit left known empty whole same =
    ap (items_left buffered room) same ∙ ap (λ k. items_left buffered k known) whole ∙ ap (λ l. items_left l limit known) empty ∙ by known
  where
    by : (known : Option (List ℕ)) → items_left [] limit known ≡ option_map (λ bytes. json_items (take limit bytes)) known
    by None = refl
    by (Some bytes) = refl
