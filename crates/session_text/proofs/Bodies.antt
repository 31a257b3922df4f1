-- What the lines of a session's body keep.
use Rattle.std.proofs.Common.{◌≡◌, ◌==◌, ◌&&◌, ℕ, ◌+◌, ◌<◌, Bool, true, false, nat_lt, nat_le, not, List, [], ◌∷◌, length, is_some, inl, inr, Option, None, Some, Result, Ok, Err, refl, sym, ap, subst, ltb-true, arith}
use Rattle.std.proofs.lemmas.Bool.{leb-true}
use Rattle.std.specs.Prelude.{⊤, codes, bytes_eq, ok_or, if◌then◌else◌, slice_get, take, drop, IfSome, IsSome}
use Rattle.std.specs.List.{list_all, list_any, before_first, after_first}
use Rattle.std.specs.Str.{is_utf8}
use Rattle.std.proofs.lemmas.Bool.{and_parts, not-true}
use Rattle.std.proofs.lemmas.Option.{slice_get_cases}
use Rattle.geo_text.specs.Numbers.{number_of}
use Rattle.geo_text.specs.Words.{words_of, first_word, after_word}
use Rattle.geo_layer.specs.Json.{wanted}
use Rattle.geo_layer.specs.Langs.{langs_of}
use Rattle.geo_layer.specs.Layer.{LayerView}
use Rattle.geo_layer.specs.LayerText.{layer_of}
use Rattle.feature_reader.specs.Feature.{feature_of}
use Rattle.feature_reader.specs.declared.feature.FeatureFault.{FeatureFault}
use Rattle.feature_reader.proofs.Zooms.{AtZoom, bind_ok, wanted_ok, feature_zoom}
use Rattle.session_text.specs.Events.{events_of}
use Rattle.session_text.specs.Lines.{longest, line_text, is_skipped, next_field}
use Rattle.session_text.specs.Session.{SessionView, one_number, two_numbers, of_layer, of_feature, title_line, langs_line, layer_line, put_line, drop_line, load_line, limit_line, room_for_ask, ask_line, explain_line, replay_line, bare_line, word_of, line_of_word, body_line, head_line, already, staged_line, line_at, after_item, step_of, IsLineOf}
use Rattle.session_text.specs.Reading.{reading_after, reading_from, after_step}
use Rattle.session_text.specs.declared.body.BodyLine.{BodyLine}
use Rattle.session_text.specs.declared.body.BodyLine.TheVariants.{Put, Drop, Load, Limit, Publish, Ask, Explain, Replay}
use Rattle.session_text.specs.declared.item.Item.{Item}
use Rattle.session_text.specs.declared.item.Item.TheVariants.{Skipped, Title, Langs, Layer, Body, Join, End}
use Rattle.session_text.specs.declared.item.Word.{Word}
use Rattle.session_text.specs.declared.item.Word.TheVariants as word
use Rattle.session_text.specs.declared.session.Stage.{Stage}
use Rattle.session_text.specs.declared.session.Stage.TheVariants as at
use Rattle.session_text.specs.declared.session.Step.TheVariants.{Ready, Last}
use Rattle.session_text.specs.declared.why.Why.{Why}
use Rattle.session_text.specs.declared.why.Why.TheVariants as why
use Rattle.session_text.proofs.EventFacts.{of_eight}

-- ---- steps that gave something

there_ok : {A E : Type 0} (o : Option A) (x : A) (fault : E) → ok_or o fault ≡ Ok x → o ≡ Some x
there_ok None x fault e = absurd (cc e)
there_ok (Some y) x fault e = let same : y ≡ x = cc e in rw same refl

feature_ok : {A : Type 0} (r : Result A FeatureFault) (x : A) → of_feature r ≡ Ok x → r ≡ Ok x
feature_ok (Ok y) x e = let same : y ≡ x = cc e in rw same refl
feature_ok (Err fault) x e = absurd (cc e)

-- the layer of a number below that of the layers is there
layer_there : (layers : List LayerView) (n : ℕ) → n < length layers → IsSome (slice_get layers n)
layer_there layers n within = elim (slice_get_cases layers n).1 [
  | inl (layer, inside, there, read) ↦ ap is_some there
  | inr past ↦ absurd (omega (arith, within, past.0))
]

-- ---- what the lines of the body say

-- the feed that a line names isn't among these
abbrev pub IsUnnamed : List ℕ → BodyLine → Type 0
IsUnnamed named (Load feed layer) = list_any (λ f. f == feed) named ≡ false
IsUnnamed named line = ⊤

-- a line keeps what the session asks of it
abbrev IsOf : SessionView → BodyLine → Type 0
IsOf s said = IsLineOf s.feeds s.head said × IsUnnamed s.named said

-- such a line is skipped, a line of the body that keeps what the session asks of it, or the end of a round
abbrev pub OfBody : SessionView → Item → Type 0
OfBody s Skipped = ⊤
OfBody s Title = ⊥
OfBody s (Langs codes) = ⊥
OfBody s (Layer layer) = ⊥
OfBody s (Body said) = IsOf s said
OfBody s Join = ⊤
OfBody s End = ⊤

put_fits : (s : SessionView) (text : List ℕ) (item : Item) → put_line s.head text ≡ Ok item → OfBody s item
put_fits s text item e =
    let (n, is_n, e₁) = bind_ok (ok_or (number_of (first_word (next_field text))) why.Form) _ item e in
    let (layer, is_layer, e₂) = bind_ok (ok_or (slice_get s.head.layers n) why.Number) _ item e₁ in
    let (f, is_f, e₃) = bind_ok (of_feature (feature_of layer s.head.langs (next_field (next_field text)))) _ item e₂ in
    let there : slice_get s.head.layers n ≡ Some layer = there_ok (slice_get s.head.layers n) layer why.Number is_layer in
    let at_zoom : AtZoom layer.zoom f = feature_zoom layer s.head.langs (next_field (next_field text)) f (feature_ok (feature_of layer s.head.langs (next_field (next_field text))) f is_f) in
    let same : Body (Put n f) ≡ item = cc e₃ in
    subst (OfBody s) same (subst (λ o. IsSome o × IfSome o (λ l. AtZoom l.zoom f)) (sym there) (refl, at_zoom), tt)

drop_fits : (s : SessionView) (text : List ℕ) (item : Item) → drop_line s.head text ≡ Ok item → OfBody s item
drop_fits s text item e =
    let (n, is_n, e₁) = bind_ok (two_numbers text) _ item e in
    let (u, is_u, e₂) = bind_ok (wanted (nat_lt n.0 (length s.head.layers) && nat_lt n.1 67108864) why.Number) _ item e₁ in
    let same : Body (Drop n.0 n.1) ≡ item = cc e₂ in
    subst (OfBody s) same (tt, tt)

load_fits : (s : SessionView) (text : List ℕ) (item : Item) → load_line s text ≡ Ok item → OfBody s item
load_fits s text item e =
    let (n, is_n, e₁) = bind_ok (two_numbers text) _ item e in
    let (u, is_u, e₂) = bind_ok (wanted (nat_lt n.1 (length s.head.layers)) why.Number) _ item e₁ in
    let (v, is_v, e₃) = bind_ok (wanted (nat_lt n.0 s.feeds && not (list_any (λ f. f == n.0) s.named)) why.Feed) _ item e₂ in
    let there : IsSome (slice_get s.head.layers n.1) = layer_there s.head.layers n.1 (ltb-true n.1 (length s.head.layers) (wanted_ok (nat_lt n.1 (length s.head.layers)) why.Number u is_u)) in
    let (lent, unnamed) = and_parts (nat_lt n.0 s.feeds) (not (list_any (λ f. f == n.0) s.named)) (wanted_ok (nat_lt n.0 s.feeds && not (list_any (λ f. f == n.0) s.named)) why.Feed v is_v) in
    let same : Body (Load n.0 n.1) ≡ item = cc e₃ in
    subst (OfBody s) same ((ltb-true n.0 s.feeds lent, there), not-true (list_any (λ f. f == n.0) s.named) unnamed)

limit_fits : (s : SessionView) (text : List ℕ) (item : Item) → limit_line text ≡ Ok item → OfBody s item
limit_fits s text item e =
    let (n, is_n, e₁) = bind_ok (one_number text) _ item e in
    let (u, is_u, e₂) = bind_ok (wanted (nat_le 1 n && nat_le n 8388608) why.Number) _ item e₁ in
    let (low, high) = and_parts (nat_le 1 n) (nat_le n 8388608) (wanted_ok (nat_le 1 n && nat_le n 8388608) why.Number u is_u) in
    let same : Body (Limit n) ≡ item = cc e₂ in
    subst (OfBody s) same ((leb-true 1 n low, leb-true n 8388608 high), tt)

ask_fits : (s : SessionView) (text : List ℕ) (item : Item) → ask_line s.round text ≡ Ok item → OfBody s item
ask_fits s text item e =
    let (lane, is_lane, e₁) = bind_ok (ok_or (number_of (first_word (next_field text))) why.Form) _ item e in
    let (u, is_u, e₂) = bind_ok (wanted (nat_lt lane 8) why.Number) _ item e₁ in
    let (v, is_v, e₃) = bind_ok (room_for_ask s.round) _ item e₂ in
    let same : Body (Ask lane (after_word (next_field text))) ≡ item = cc e₃ in
    subst (OfBody s) same (ltb-true lane 8 (wanted_ok (nat_lt lane 8) why.Number u is_u), tt)

explain_fits : (s : SessionView) (text : List ℕ) (item : Item) → explain_line s.round text ≡ Ok item → OfBody s item
explain_fits s text item e =
    let (v, is_v, e₁) = bind_ok (room_for_ask s.round) _ item e in
    let same : Body (Explain (after_word text)) ≡ item = cc e₁ in
    subst (OfBody s) same (tt, tt)

replay_fits : (s : SessionView) (text : List ℕ) (item : Item) → replay_line s.round text ≡ Ok item → OfBody s item
replay_fits s text item e =
    let fields = after_word text in
    let words = words_of (before_first (λ b. b == 59) fields) in
    let (u, is_u, e₁) = bind_ok (wanted (list_any (λ b. b == 59) fields) why.Form) _ item e in
    let (events, are, e₂) = bind_ok (ok_or (events_of words) why.Form) _ item e₁ in
    let (v, is_v, e₃) = bind_ok (room_for_ask s.round) _ item e₂ in
    let same : Body (Replay events (after_first (λ b. b == 59) fields)) ≡ item = cc e₃ in
    subst (OfBody s) same (of_eight words events (there_ok (events_of words) events why.Form are), tt)

bare_fits : (s : SessionView) (said item : Item) (text : List ℕ) → OfBody s said → bare_line said text ≡ Ok item → OfBody s item
bare_fits s said item text of_body e =
    let (u, is_u, e₁) = bind_ok (wanted (nat_lt (length (words_of text)) 2) why.Form) _ item e in
    let same : said ≡ item = cc e₁ in
    subst (OfBody s) same of_body

word_fits : (s : SessionView) (text : List ℕ) (w : Option Word) (item : Item) → line_of_word s text w ≡ Ok item → OfBody s item
word_fits s text (Some word.Put) item e = put_fits s text item e
word_fits s text (Some word.Drop) item e = drop_fits s text item e
word_fits s text (Some word.Load) item e = load_fits s text item e
word_fits s text (Some word.Limit) item e = limit_fits s text item e
word_fits s text (Some word.Publish) item e = bare_fits s (Body Publish) item text (tt, tt) e
word_fits s text (Some word.Ask) item e = ask_fits s text item e
word_fits s text (Some word.Explain) item e = explain_fits s text item e
word_fits s text (Some word.Replay) item e = replay_fits s text item e
word_fits s text (Some word.Join) item e = bare_fits s Join item text tt e
word_fits s text (Some word.End) item e = bare_fits s End item text tt e
word_fits s text None item e = absurd (cc e)

body_fits : (s : SessionView) (text : List ℕ) (item : Item) → body_line s text ≡ Ok item → OfBody s item
body_fits s text item e = word_fits s text (word_of s.kind (first_word text)) item e

-- ---- what any line says

-- a line of the body keeps what the session asks of it
abbrev Fitting : SessionView → Item → Type 0
Fitting s (Body said) = IsOf s said
Fitting s item = ⊤

fitting : (s : SessionView) (item : Item) → OfBody s item → Fitting s item
fitting s Skipped of_body = tt
fitting s Title of_body = tt
fitting s (Langs codes) of_body = tt
fitting s (Layer layer) of_body = tt
fitting s (Body said) of_body = of_body
fitting s Join of_body = tt
fitting s End of_body = tt

title_fits : (s : SessionView) (text : List ℕ) (item : Item) → title_line text ≡ Ok item → Fitting s item
title_fits s text item e =
    let (u, is_u, e₁) = bind_ok (wanted (bytes_eq (take 8 text) (codes "carmen 1") && list_all (λ b. b == 32) (drop 8 text)) why.Head) _ item e in
    let same : Title ≡ item = cc e₁ in
    subst (Fitting s) same tt

langs_fits : (s : SessionView) (text : List ℕ) (item : Item) → langs_line text ≡ Ok item → Fitting s item
langs_fits s text item e =
    let (langs, is_langs, e₁) = bind_ok (ok_or (langs_of (after_word text)) why.Lang) _ item e in
    let same : Langs langs ≡ item = cc e₁ in
    subst (Fitting s) same tt

layer_fits : (s : SessionView) (text : List ℕ) (item : Item) → layer_line s.head.layers text ≡ Ok item → Fitting s item
layer_fits s text item e =
    let (found, is_found, e₁) = bind_ok (of_layer (layer_of s.head.layers (next_field text))) _ item e in
    let same : Layer found ≡ item = cc e₁ in
    subst (Fitting s) same tt

head_fits : (s : SessionView) (first : Bool) (text : List ℕ) (item : Item) → head_line s first text ≡ Ok item → Fitting s item
head_fits s first text item e = by (bytes_eq (first_word text) (codes "langs") && first) (bytes_eq (first_word text) (codes "layer")) (nat_le 1 (length s.head.layers)) e
  where
    by : (a b c : Bool) → (if a then langs_line text else if b then layer_line s.head.layers text else if c then body_line s text else Err why.Word) ≡ Ok item → Fitting s item
    by true b c e = langs_fits s text item e
    by false true c e = layer_fits s text item e
    by false false true e = fitting s item (body_fits s text item e)
    by false false false e = absurd (cc e)

staged_fits : (s : SessionView) (stage : Stage) (text : List ℕ) (item : Item) → staged_line s stage text ≡ Ok item → Fitting s item
staged_fits s at.BeforeHead text item e = title_fits s text item e
staged_fits s at.AfterTitle text item e = head_fits s true text item e
staged_fits s at.InHead text item e = head_fits s false text item e
staged_fits s at.InBody text item e = fitting s item (body_fits s text item e)
staged_fits s at.Ended text item e = fitting s item (body_fits s text item e)
staged_fits s (at.Spent fault) text item e = absurd (cc e)

-- a line that is taken is skipped, or says something by the stage
taken : (s : SessionView) (line : List ℕ) (item : Item) (P : Item → Type 0) → P Skipped → (staged_line s s.stage (line_text line) ≡ Ok item → P item) → line_at s line ≡ Ok item → P item
taken s line item P none says e =
    let (u, is_u, e₁) = bind_ok (already s.stage) _ item e in
    let (v, is_v, e₂) = bind_ok (wanted (nat_le (length line) longest) why.Long) _ item e₁ in
    let (w, is_w, e₃) = bind_ok (wanted (is_utf8 line) why.Utf8) _ item e₂ in
    by (is_skipped (line_text line)) e₃
  where
    by : (b : Bool) → (if b then Ok Skipped else staged_line s s.stage (line_text line)) ≡ Ok item → P item
    by true e = let same : Skipped ≡ item = cc e in subst P same none
    by false e = says e

fits : (s : SessionView) (line : List ℕ) (said : BodyLine) → line_at s line ≡ Ok (Body said) → IsOf s said
fits s line said e = taken s line (Body said) (Fitting s) tt (staged_fits s s.stage (line_text line) (Body said)) e

-- a line of the body that is taken keeps what the head and the number of feeds ask for
pub fits_head : (s : SessionView) (line : List ℕ) (said : BodyLine) → line_at s line ≡ Ok (Body said) → IsLineOf s.feeds s.head said
fits_head s line said e = (fits s line said e).0

-- and names no feed that was named before
pub unnamed_before : (s : SessionView) (line : List ℕ) (said : BodyLine) → line_at s line ≡ Ok (Body said) → IsUnnamed s.named said
unnamed_before s line said e = (fits s line said e).1

-- ---- the head in the body

pub in_body : (s : SessionView) (line : List ℕ) (item : Item) → s.stage ≡ at.InBody → line_at s line ≡ Ok item → OfBody s item
in_body s line item stage e = taken s line item (OfBody s) tt (λ says. body_fits s (line_text line) item (subst (λ (st : Stage). staged_line s st (line_text line) ≡ Ok item) stage says)) e

-- where the lines behind a line keep it, that line and they do
step_head : (s : SessionView) (n : ℕ) (lines : List (List ℕ)) (item : Item) → s.stage ≡ at.InBody → OfBody s item
    → ((next : SessionView) → next.stage ≡ at.InBody → (reading_from next (n + 1) lines).head ≡ next.head)
    → (after_step (step_of s.round item) (after_item s item) (λ next. reading_from next (n + 1) lines)).head ≡ s.head
step_head s n lines Skipped stage of_body later = later s stage
step_head s n lines Title stage of_body later = absurd of_body
step_head s n lines (Langs codes) stage of_body later = absurd of_body
step_head s n lines (Layer layer) stage of_body later = absurd of_body
step_head s n lines (Body said) stage of_body later = later (after_item s (Body said)) refl
step_head s n lines Join stage of_body later = later (after_item s Join) refl
step_head s n lines End stage of_body later = refl

-- a reading that begins in the body keeps the head
pub reading_head : (s : SessionView) (n : ℕ) (lines : List (List ℕ)) → s.stage ≡ at.InBody → (reading_from s n lines).head ≡ s.head
reading_head s n [] stage = refl
reading_head s n (line ∷ lines) stage = by (line_at s line) refl (λ next inside. reading_head next (n + 1) lines inside)
  where
    by : (said : Result Item Why) → line_at s line ≡ said → ((next : SessionView) → next.stage ≡ at.InBody → (reading_from next (n + 1) lines).head ≡ next.head)
        → (reading_after s n said (λ next. reading_from next (n + 1) lines)).head ≡ s.head
    by (Ok item) is later = step_head s n lines item stage (in_body s line item stage is) later
    by (Err fault) is later = refl

-- ---- where a session stands after a round

-- a round that is closed is the open one; the session is in its body, with no lines
pub stage_after : (s : SessionView) (line : List ℕ) (item : Item) (round : List BodyLine) → line_at s line ≡ Ok item → step_of s.round item ≡ Ready round
    → ((after_item s item).stage ≡ at.InBody) × ((after_item s item).head ≡ s.head) × ((after_item s item).round ≡ []) × (round ≡ s.round)
stage_after s line Skipped round is does = absurd (cc does)
stage_after s line Title round is does = absurd (cc does)
stage_after s line (Langs codes) round is does = absurd (cc does)
stage_after s line (Layer layer) round is does = absurd (cc does)
stage_after s line (Body said) round is does = absurd (cc does)
stage_after s line Join round is does = (refl, refl, refl, cc does)
stage_after s line End round is does = absurd (cc does)

-- so is the last one
pub last_after : (s : SessionView) (item : Item) (round : List BodyLine) → step_of s.round item ≡ Last round → ((after_item s item).head ≡ s.head) × (round ≡ s.round)
last_after s Skipped round does = absurd (cc does)
last_after s Title round does = absurd (cc does)
last_after s (Langs codes) round does = absurd (cc does)
last_after s (Layer layer) round does = absurd (cc does)
last_after s (Body said) round does = absurd (cc does)
last_after s Join round does = absurd (cc does)
last_after s End round does = (refl, cc does)

-- ---- the number of feeds

-- it never changes
pub feeds_after : (s : SessionView) (item : Item) → (after_item s item).feeds ≡ s.feeds
feeds_after s Skipped = refl
feeds_after s Title = refl
feeds_after s (Langs codes) = refl
feeds_after s (Layer layer) = refl
feeds_after s (Body said) = refl
feeds_after s Join = refl
feeds_after s End = refl
