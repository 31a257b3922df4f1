-- What the words of the command line ask for.
use Rattle.std.specs.Prelude.{ℕ, Bool, List, [], ◌∷◌, ◌&&◌, nat_le, nat_eq, length, drop, codes, bytes_eq, if◌then◌else◌, Option, Some, None, is_some}
use Rattle.std.specs.List.{starts_with, list_all, filter_map}
use Rattle.session_text.specs.declared.session.Kind.{Kind}
use Rattle.session_text.specs.declared.session.Kind.TheVariants.{Asks, Replays}
use Rattle.carmen_cli.specs.declared.words.FeedFormat.{FeedFormat}
use Rattle.carmen_cli.specs.declared.words.FeedFormat.TheVariants.{Json, Csv}

-- a file that is to be lent as a feed
pub record FileView : Type 0 where
  pub format : FeedFormat
  pub path : List ℕ

-- the file of this format at a path; none where the path is empty
abbrev pub file_at : FeedFormat → List ℕ → Option FileView
file_at format [] = None
file_at format (b ∷ bs) = Some (record { format = format; path = b ∷ bs })

-- the file that a word names: `json:` or `csv:`, and its path
abbrev pub feed_word : List ℕ → Option FileView
feed_word word =
    if starts_with nat_eq word (codes "json:") then file_at Json (drop 5 word)
    else if starts_with nat_eq word (codes "csv:") then file_at Csv (drop 4 word)
    else None

-- the word names a file
abbrev pub is_feed_word : List ℕ → Bool
is_feed_word word = is_some (feed_word word)

-- the most feeds
abbrev pub most_feeds : ℕ
most_feeds = 16

-- the kind of session that a command reads: `plain` one whose lines ask, `replay` one whose lines also explain and replay
abbrev pub kind_named : List ℕ → Option Kind
kind_named word =
    if bytes_eq word (codes "plain") then Some Asks
    else if bytes_eq word (codes "replay") then Some Replays
    else None

-- the kind of session that the words ask for: they are such a command and at most 16 words behind it, each of which names a file; none where the words are refused
abbrev pub kind_asked : List (List ℕ) → Option Kind
kind_asked [] = None
kind_asked (word ∷ feeds) = if nat_le (length feeds) most_feeds && list_all is_feed_word feeds then kind_named word else None

-- the files of the feeds, in order: those that the words behind the command name, each of them one; none where the words are refused
abbrev pub files_of : List (List ℕ) → List FileView
files_of words = if is_some (kind_asked words) then filter_map feed_word (drop 1 words) else []
