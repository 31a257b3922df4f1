-- The grammar of a session: what each line says at its place, or its first fault.
use Rattle.std.specs.Prelude.{◌≡◌, ℕ, ◌<◌, ◌≤◌, ⊤, Bool, true, false, List, [], ◌∷◌, ◌++◌, ◌&&◌, ◌==◌, not, nat_lt, nat_le, length, take, drop, codes, bytes_eq, count_by, slice_get, if◌then◌else◌, All, IfSome, IsSome, Option, Some, None, Result, Ok, Err, ok_or}
use Rattle.std.specs.List.{list_all, list_any, before_first, after_first}
use Rattle.std.specs.Str.{is_utf8}
use Rattle.geo_text.specs.Numbers.{number_of, numbers_of}
use Rattle.geo_text.specs.Words.{words_of, first_word, after_word}
use Rattle.geo_layer.specs.Json.{◌>>=◌, wanted}
use Rattle.geo_layer.specs.declared.head.Head.{Head}
use Rattle.geo_layer.specs.Langs.{langs_of}
use Rattle.geo_layer.specs.Layer.{LayerView}
use Rattle.geo_layer.specs.LayerText.{layer_of, last_zoom}
use Rattle.geo_layer.specs.declared.layer.LayerFault.{LayerFault}
use Rattle.feature_reader.specs.Feature.{feature_of}
use Rattle.feature_reader.specs.declared.feature.FeatureFault.{FeatureFault}
use Rattle.session_text.specs.Events.{events_of, IsOfEight}
use Rattle.session_text.specs.Lines.{longest, line_text, is_skipped, next_field}
use Rattle.session_text.specs.declared.body.BodyLine.{BodyLine}
use Rattle.session_text.specs.declared.body.BodyLine.TheVariants.{Put, Drop, Load, Limit, Publish, Ask, Explain, Replay}
use Rattle.session_text.specs.declared.item.Item.{Item}
use Rattle.session_text.specs.declared.item.Item.TheVariants.{Skipped, Title, Langs, Layer, Body, Join, End}
use Rattle.session_text.specs.declared.item.Word.{Word}
use Rattle.session_text.specs.declared.item.Word.TheVariants as word
use Rattle.session_text.specs.declared.session.Kind.{Kind}
use Rattle.session_text.specs.declared.session.Kind.TheVariants.{Asks, Replays}
use Rattle.session_text.specs.declared.session.Stage.{Stage}
use Rattle.session_text.specs.declared.session.Step.{Step}
use Rattle.session_text.specs.declared.session.Step.TheVariants.{More, Ready, Last}
use Rattle.session_text.specs.declared.session.Stage.TheVariants as at
use Rattle.session_text.specs.declared.why.Why.{Why}
use Rattle.session_text.specs.declared.why.Why.TheVariants as why

-- where a session stands: its stage, its head so far, the lines of the open round, the feeds that were named, how many feeds there are, and which lines may ask
pub record SessionView : Type 0 where
  pub stage : Stage
  pub head : Head
  pub round : List BodyLine
  pub named : List ℕ
  pub feeds : ℕ
  pub kind : Kind

-- a session before its first line, to which so many feeds are handed
abbrev pub start : ℕ → Kind → SessionView
start feeds kind = record { stage = at.BeforeHead; head = record { langs = []; layers = [] }; round = []; named = []; feeds = feeds; kind = kind }

-- ---- tests and fields

-- the numbers of a line after its word
abbrev pub numbers_after : List ℕ → Result (List ℕ) Why
numbers_after text = ok_or (numbers_of (words_of (after_word text))) why.Form

-- one of one
abbrev pub only_one : List ℕ → Result ℕ Why
only_one (n ∷ []) = Ok n
only_one numbers = Err why.Form

-- two of two
abbrev pub only_two : List ℕ → Result (ℕ × ℕ) Why
only_two (m ∷ n ∷ []) = Ok (m, n)
only_two numbers = Err why.Form

-- the one number of a line after its word
abbrev pub one_number : List ℕ → Result ℕ Why
one_number text = numbers_after text >>= λ numbers. only_one numbers

-- the two numbers of a line after its word
abbrev pub two_numbers : List ℕ → Result (ℕ × ℕ) Why
two_numbers text = numbers_after text >>= λ numbers. only_two numbers

-- a layer's fault as that of a line
abbrev pub of_layer : {A : Type 0} → Result A LayerFault → Result A Why
of_layer (Ok x) = Ok x
of_layer (Err fault) = Err (why.Layer fault)

-- a feature's fault as that of a line
abbrev pub of_feature : {A : Type 0} → Result A FeatureFault → Result A Why
of_feature (Ok x) = Ok x
of_feature (Err fault) = Err (why.Feature fault)

-- ---- the lines of the head

-- `carmen 1`
abbrev pub title_line : List ℕ → Result Item Why
title_line text = wanted (bytes_eq (take 8 text) (codes "carmen 1") && list_all (λ b. b == 32) (drop 8 text)) why.Head >>= λ _. Ok Title

-- `langs` and 1 to 127 codes
abbrev pub langs_line : List ℕ → Result Item Why
langs_line text = ok_or (langs_of (after_word text)) why.Lang >>= λ codes. Ok (Langs codes)

-- `layer JSON`
abbrev pub layer_line : List LayerView → List ℕ → Result Item Why
layer_line layers text = of_layer (layer_of layers (next_field text)) >>= λ layer. Ok (Layer layer)

-- ---- the lines of the body

-- `put L JSON`
abbrev pub put_line : Head → List ℕ → Result Item Why
put_line head text =
    let json = next_field (next_field text) in
    ok_or (number_of (first_word (next_field text))) why.Form >>= λ n.
    ok_or (slice_get head.layers n) why.Number >>= λ layer.
    of_feature (feature_of layer head.langs json) >>= λ f.
    Ok (Body (Put n f))

-- `drop L ID`
abbrev pub drop_line : Head → List ℕ → Result Item Why
drop_line head text =
    two_numbers text >>= λ n.
    wanted (nat_lt n.0 (length head.layers) && nat_lt n.1 67108864) why.Number >>= λ _.
    Ok (Body (Drop n.0 n.1))

-- `load F L`: a feed that is there and wasn't named before
abbrev pub load_line : SessionView → List ℕ → Result Item Why
load_line session text =
    two_numbers text >>= λ n.
    wanted (nat_lt n.1 (length session.head.layers)) why.Number >>= λ _.
    wanted (nat_lt n.0 session.feeds && not (list_any (λ f. f == n.0) session.named)) why.Feed >>= λ _.
    Ok (Body (Load n.0 n.1))

-- `limit N`
abbrev pub limit_line : List ℕ → Result Item Why
limit_line text =
    one_number text >>= λ n.
    wanted (nat_le 1 n && nat_le n 8388608) why.Number >>= λ _.
    Ok (Body (Limit n))

-- the line asks something
abbrev pub is_asking : BodyLine → Bool
is_asking (Ask lane text) = true
is_asking (Explain text) = true
is_asking (Replay events text) = true
is_asking line = false

-- there is room for one more line that asks: a round has at most 4,096
abbrev pub room_for_ask : List BodyLine → Result (Unit {0}) Why
room_for_ask round = wanted (nat_lt (count_by is_asking round) 4096) why.Asks

-- `ask LANE QUERY`
abbrev pub ask_line : List BodyLine → List ℕ → Result Item Why
ask_line round text =
    ok_or (number_of (first_word (next_field text))) why.Form >>= λ lane.
    wanted (nat_lt lane 8) why.Number >>= λ _.
    room_for_ask round >>= λ _.
    Ok (Body (Ask lane (after_word (next_field text))))

-- `explain QUERY`: the query is all that follows one space
abbrev pub explain_line : List BodyLine → List ℕ → Result Item Why
explain_line round text =
    room_for_ask round >>= λ _.
    Ok (Body (Explain (after_word text)))

-- `replay EVENTS ; QUERY`: the events are words, none or more, up to the first semicolon; the query is all that follows it
abbrev pub replay_line : List BodyLine → List ℕ → Result Item Why
replay_line round text =
    let fields = after_word text in
    wanted (list_any (λ b. b == 59) fields) why.Form >>= λ _.
    ok_or (events_of (words_of (before_first (λ b. b == 59) fields))) why.Form >>= λ events.
    room_for_ask round >>= λ _.
    Ok (Body (Replay events (after_first (λ b. b == 59) fields)))

-- a line of one word
abbrev pub bare_line : Item → List ℕ → Result Item Why
bare_line item text = wanted (nat_lt (length (words_of text)) 2) why.Form >>= λ _. Ok item

-- the word of a line that tells of a search, which not every kind of session has
abbrev pub search_word_of : Kind → List ℕ → Option Word
search_word_of Asks w = None
search_word_of Replays w =
    if bytes_eq w (codes "explain") then Some word.Explain
    else if bytes_eq w (codes "replay") then Some word.Replay
    else None

-- the word of a line of the body in a session of this kind
abbrev pub word_of : Kind → List ℕ → Option Word
word_of kind w =
    if bytes_eq w (codes "put") then Some word.Put
    else if bytes_eq w (codes "drop") then Some word.Drop
    else if bytes_eq w (codes "load") then Some word.Load
    else if bytes_eq w (codes "limit") then Some word.Limit
    else if bytes_eq w (codes "publish") then Some word.Publish
    else if bytes_eq w (codes "ask") then Some word.Ask
    else if bytes_eq w (codes "join") then Some word.Join
    else if bytes_eq w (codes "end") then Some word.End
    else search_word_of kind w

-- a line with this word
abbrev pub line_of_word : SessionView → List ℕ → Option Word → Result Item Why
line_of_word session text (Some word.Put) = put_line session.head text
line_of_word session text (Some word.Drop) = drop_line session.head text
line_of_word session text (Some word.Load) = load_line session text
line_of_word session text (Some word.Limit) = limit_line text
line_of_word session text (Some word.Publish) = bare_line (Body Publish) text
line_of_word session text (Some word.Ask) = ask_line session.round text
line_of_word session text (Some word.Explain) = explain_line session.round text
line_of_word session text (Some word.Replay) = replay_line session.round text
line_of_word session text (Some word.Join) = bare_line Join text
line_of_word session text (Some word.End) = bare_line End text
line_of_word session text None = Err why.Word

-- a line of the body
abbrev pub body_line : SessionView → List ℕ → Result Item Why
body_line session text = line_of_word session text (word_of session.kind (first_word text))

-- ---- a line at its place

-- a line of the head: languages directly after the title, layers, and after a layer the first line of the body
abbrev pub head_line : SessionView → Bool → List ℕ → Result Item Why
head_line session first text =
    if bytes_eq (first_word text) (codes "langs") && first then langs_line text
    else if bytes_eq (first_word text) (codes "layer") then layer_line session.head.layers text
    else if nat_le 1 (length session.head.layers) then body_line session text
    else Err why.Word

-- a spent session answers its fault again
abbrev pub already : Stage → Result (Unit {0}) Why
already (at.Spent fault) = Err fault
already stage = Ok tt

-- a line that isn't skipped, by the stage
abbrev pub staged_line : SessionView → Stage → List ℕ → Result Item Why
staged_line session at.BeforeHead text = title_line text
staged_line session at.AfterTitle text = head_line session true text
staged_line session at.InHead text = head_line session false text
staged_line session at.InBody text = body_line session text
staged_line session at.Ended text = body_line session text
staged_line session (at.Spent fault) text = Err fault

-- what a line says at its place, or its first fault
abbrev pub line_at : SessionView → List ℕ → Result Item Why
line_at session line =
    already session.stage >>= λ _.
    wanted (nat_le (length line) longest) why.Long >>= λ _.
    wanted (is_utf8 line) why.Utf8 >>= λ _.
    (if is_skipped (line_text line) then Ok Skipped else staged_line session session.stage (line_text line))

-- ---- what a line does

-- the feed that a line names
abbrev pub named_by : BodyLine → List ℕ
named_by (Load feed layer) = feed ∷ []
named_by line = []

-- where a session stands after a line that says this
abbrev pub after_item : SessionView → Item → SessionView
after_item session Skipped = session
after_item session Title = record session { stage = at.AfterTitle }
after_item session (Langs codes) = record session { stage = at.InHead; head = record { langs = codes; layers = session.head.layers } }
after_item session (Layer layer) = record session { stage = at.InHead; head = record { langs = session.head.langs; layers = session.head.layers ++ layer ∷ [] } }
after_item session (Body line) = record session { stage = at.InBody; round = session.round ++ line ∷ []; named = session.named ++ named_by line }
after_item session Join = record session { stage = at.InBody; round = [] }
after_item session End = record session { stage = at.Ended; round = [] }

-- a session that is spent by a fault
abbrev pub spent : Why → SessionView → SessionView
spent fault session = record session { stage = at.Spent fault }

-- what the call answers: that the round is closed, and the last one, or that there is more to come
abbrev pub step_of : List BodyLine → Item → Step
step_of round Join = Ready round
step_of round End = Last round
step_of round item = More

-- the line can be added: there are fewer than 16 layers, whose zooms don't fall; and fewer than 4,096 lines that ask
abbrev pub Fits : SessionView → Item → Type 0
Fits session (Layer layer) = (length session.head.layers < 16) × (last_zoom session.head.layers ≤ layer.zoom)
Fits session (Body line) = is_asking line ≡ true → count_by is_asking session.round < 4096
Fits session item = ⊤

-- what each line of the body keeps, where so many feeds are handed in: the layer of a put is one of the head, and the tiles of its feature have its zoom; the feed of a load is one of those, and its layer one of the head; a limit is 1 to 8,388,608; the lane of an ask is below 8; the events of a replay are those of eight workers
abbrev pub IsLineOf : ℕ → Head → BodyLine → Type 0
IsLineOf feeds head (Put layer f) = IsSome (slice_get head.layers layer) × IfSome (slice_get head.layers layer) (λ l. All (λ t. t.z ≡ l.zoom) f.tiles)
IsLineOf feeds head (Load feed layer) = (feed < feeds) × IsSome (slice_get head.layers layer)
IsLineOf feeds head (Limit n) = (1 ≤ n) × (n ≤ 8388608)
IsLineOf feeds head (Ask lane text) = lane < 8
IsLineOf feeds head (Replay events text) = All IsOfEight events
IsLineOf feeds head line = ⊤

-- the fault is found before any room is asked for, by a session that isn't spent
abbrev pub needs_no_room : Why → Bool
needs_no_room why.Long = true
needs_no_room why.Utf8 = true
needs_no_room why.Head = true
needs_no_room why.Word = true
needs_no_room why.Form = true
needs_no_room why.Lang = false
needs_no_room (why.Layer fault) = false
needs_no_room why.Number = true
needs_no_room why.Feed = true
needs_no_room (why.Feature fault) = false
needs_no_room why.Asks = true
