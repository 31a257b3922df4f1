-- The items of lines of JSON.
use Rattle.std.specs.Prelude.{◌≡◌, ℕ, ◌++◌, Bool, true, false, List, [], ◌∷◌, map, filter, take, Option, Some}
use Rattle.std.specs.Option.{option_map}
use Rattle.std.specs.Str.Lines.{lines}
use Rattle.feature_feed.specs.declared.feed.FeedItem.{FeedItem}
use Rattle.feature_feed.specs.declared.feed.FeedItem.TheVariants.{Json}

-- ---- what bytes give

-- a line has a byte
abbrev pub has_byte : List ℕ → Bool
has_byte [] = false
has_byte (b ∷ bs) = true

-- an item for each line that isn't empty
abbrev pub items_of_lines : List (List ℕ) → List FeedItem
items_of_lines lines = map (λ line. Json line) (filter has_byte lines)

-- the items of some bytes: their lines, without `\n` and without one `\r` before it, that aren't empty
abbrev pub json_items : List ℕ → List FeedItem
json_items bytes = items_of_lines (lines bytes)

-- ---- what is left of a source

-- the bytes that have come, and behind them the first ones, up to a count, of those that a source has left, where it tells them
abbrev pub bytes_left : List ℕ → ℕ → Option (List ℕ) → Option (List ℕ)
bytes_left buffered room left = option_map (λ bytes. buffered ++ take room bytes) left

-- their items
abbrev pub items_left : List ℕ → ℕ → Option (List ℕ) → Option (List FeedItem)
items_left buffered room left = option_map json_items (bytes_left buffered room left)

-- ---- for private contracts alone

-- the lines of the bytes that are left
abbrev pub lines_left : List ℕ → ℕ → Option (List ℕ) → Option (List (List ℕ))
lines_left buffered room left = option_map lines (bytes_left buffered room left)

-- this one before those that are left, where they are known
abbrev pub onto : {A : Type 0} → A → Option (List A) → Option (List A)
onto x left = option_map (λ more. x ∷ more) left

-- of those that are left, where they are known, there was none, and so it is still
abbrev pub IsNoneLeft : {A : Type 0} → Option (List A) → Option (List A) → Type 0
IsNoneLeft {A} before after = (after ≡ before) × ((xs : List A) → before ≡ Some xs → xs ≡ [])
