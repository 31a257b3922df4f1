-- The lines of a round are those that are kept apart.
use Rattle.std.proofs.Common.{◌≡◌, ◌∙◌, ◌≤◌, ℕ, zero, suc, List, [], ◌∷◌, ◌++◌, length, drop, map, refl, sym, ap, subst, append-nil, arith}
use Rattle.std.specs.List.{flat_map}
use Rattle.std.proofs.lemmas.Grind.{flat_map-append}
use Rattle.std.proofs.lemmas.List.{map-append, length-append, length-drop}
use Rattle.geo_base.specs.declared.event.Event.{Event}
use Rattle.feature_reader.specs.FeatureView.{FeatureView}
use Rattle.session_text.specs.declared.body.BodyLine.{BodyLine}
use Rattle.session_text.specs.declared.body.BodyLine.TheVariants as body
use Rattle.session_text.specs.declared.body.LineKind.{LineKind}
use Rattle.session_text.specs.declared.body.LineKind.TheVariants as kind
use Rattle.session_text.specs.Carried.{kind_of, feature_in, text_in, events_in, IsCarried, lines_of}

kept : (lines : List BodyLine) → lines_of (map kind_of lines) (flat_map feature_in lines) (flat_map text_in lines) (flat_map events_in lines) ≡ lines
kept [] = refl
kept (body.Put layer f ∷ lines) = ap (λ ls. body.Put layer f ∷ ls) (kept lines)
kept (body.Drop layer id ∷ lines) = ap (λ ls. body.Drop layer id ∷ ls) (kept lines)
kept (body.Load feed layer ∷ lines) = ap (λ ls. body.Load feed layer ∷ ls) (kept lines)
kept (body.Limit n ∷ lines) = ap (λ ls. body.Limit n ∷ ls) (kept lines)
kept (body.Publish ∷ lines) = ap (λ ls. body.Publish ∷ ls) (kept lines)
kept (body.Ask lane text ∷ lines) = ap (λ ls. body.Ask lane text ∷ ls) (kept lines)
kept (body.Explain text ∷ lines) = ap (λ ls. body.Explain text ∷ ls) (kept lines)
kept (body.Replay events text ∷ lines) = ap (λ ls. body.Replay events text ∷ ls) (kept lines)

-- the lines that are kept so are these
pub lines_are : (lines : List BodyLine) (kinds : List LineKind) (features : List FeatureView) (texts : List (List ℕ)) (events : List (List Event)) → IsCarried lines kinds features texts events → lines_of kinds features texts events ≡ lines
lines_are lines kinds features texts events is = rw (is.kinds_are, is.features_are, is.texts_are, is.events_are) (kept lines)

-- one more
pub carried_push : (lines : List BodyLine) (kinds : List LineKind) (features : List FeatureView) (texts : List (List ℕ)) (events : List (List Event)) (line : BodyLine) → IsCarried lines kinds features texts events
    → IsCarried (lines ++ line ∷ []) (kinds ++ kind_of line ∷ []) (features ++ feature_in line) (texts ++ text_in line) (events ++ events_in line)
carried_push lines kinds features texts events line is = record {
  kinds_are = ap (λ ks. ks ++ kind_of line ∷ []) is.kinds_are ∙ sym (map-append kind_of lines (line ∷ []));
  features_are = ap (λ fs. fs ++ feature_in line) is.features_are ∙ one feature_in;
  texts_are = ap (λ ts. ts ++ text_in line) is.texts_are ∙ one text_in;
  events_are = ap (λ es. es ++ events_in line) is.events_are ∙ one events_in;
}
  where
    one : {X : Type 0} (f : BodyLine → List X) → flat_map f lines ++ f line ≡ flat_map f (lines ++ line ∷ [])
    one f = ap (λ xs. flat_map f lines ++ xs) (sym (append-nil (f line))) ∙ sym (flat_map-append f lines (line ∷ []))

-- none where there are no kinds
pub carried_none : (lines : List BodyLine) (features : List FeatureView) (texts : List (List ℕ)) (events : List (List Event)) → IsCarried lines [] features texts events → lines ≡ []
carried_none [] features texts events is = refl
carried_none (line ∷ lines) features texts events is = absurd (cc is.kinds_are)

-- how many features, texts and events a line of a kind carries
abbrev pub feature_count : LineKind → ℕ
feature_count (kind.Put layer) = 1
feature_count k = 0

abbrev pub text_count : LineKind → ℕ
text_count (kind.Ask lane) = 1
text_count kind.Explain = 1
text_count kind.Replay = 1
text_count k = 0

abbrev pub events_count : LineKind → ℕ
events_count kind.Replay = 1
events_count k = 0

counts : (line : BodyLine) → (length (feature_in line) ≡ feature_count (kind_of line)) × (length (text_in line) ≡ text_count (kind_of line)) × (length (events_in line) ≡ events_count (kind_of line))
counts (body.Put layer f) = (refl, refl, refl)
counts (body.Drop layer id) = (refl, refl, refl)
counts (body.Load feed layer) = (refl, refl, refl)
counts (body.Limit n) = (refl, refl, refl)
counts body.Publish = (refl, refl, refl)
counts (body.Ask lane text) = (refl, refl, refl)
counts (body.Explain text) = (refl, refl, refl)
counts (body.Replay events text) = (refl, refl, refl)

-- what is behind so many
behind : {X : Type 0} (n : ℕ) (xs rest ys : List X) → length xs ≡ n → ys ≡ xs ++ rest → drop n ys ≡ rest
behind zero [] rest ys long is = is
behind zero (x ∷ xs) rest ys long is = absurd (omega (arith, long))
behind (suc n) [] rest ys long is = absurd (omega (arith, long))
behind (suc n) (x ∷ xs) rest ys long is = ap (drop (suc n)) is ∙ behind n xs rest (xs ++ rest) (omega (arith, long)) refl

module _ (k : LineKind) (kinds : List LineKind) (features : List FeatureView) (texts : List (List ℕ)) (events : List (List Event)) where
  -- what is left behind the first line
  pub next_kept : (lines : List BodyLine) → IsCarried lines (k ∷ kinds) features texts events → (more : List BodyLine) × IsCarried more kinds (drop (feature_count k) features) (drop (text_count k) texts) (drop (events_count k) events)
  next_kept [] is = absurd (cc is.kinds_are)
  next_kept (line ∷ lines) is =
      let same : kind_of line ≡ k = cc is.kinds_are in
      let n = counts line in (
        lines,
        record {
          kinds_are = cc is.kinds_are;
          features_are = behind (feature_count k) (feature_in line) (flat_map feature_in lines) features (n.0 ∙ ap feature_count same) is.features_are;
          texts_are = behind (text_count k) (text_in line) (flat_map text_in lines) texts (n.1 ∙ ap text_count same) is.texts_are;
          events_are = behind (events_count k) (events_in line) (flat_map events_in lines) events (n.2 ∙ ap events_count same) is.events_are;
        },
      )

  -- what it carries is there
  pub next_there : (lines : List BodyLine) → IsCarried lines (k ∷ kinds) features texts events → (feature_count k ≤ length features) × (text_count k ≤ length texts) × (events_count k ≤ length events)
  next_there [] is = absurd (cc is.kinds_are)
  next_there (line ∷ lines) is =
      let same : kind_of line ≡ k = cc is.kinds_are in
      let n = counts line in (
        long (feature_count k) (feature_in line) (flat_map feature_in lines) features (n.0 ∙ ap feature_count same) is.features_are,
        long (text_count k) (text_in line) (flat_map text_in lines) texts (n.1 ∙ ap text_count same) is.texts_are,
        long (events_count k) (events_in line) (flat_map events_in lines) events (n.2 ∙ ap events_count same) is.events_are,
      )
    where
      long : {X : Type 0} (n : ℕ) (xs rest ys : List X) → length xs ≡ n → ys ≡ xs ++ rest → n ≤ length ys
      long n xs rest ys e is = omega (arith, e, ap length is, length-append xs rest)

-- one more, by what calls leave of each part
module _ (lines : List BodyLine) (kinds kinds_after : List LineKind) (features features_after : List FeatureView) (texts texts_after : List (List ℕ)) (events events_after : List (List Event)) (line : BodyLine) (is : IsCarried lines kinds features texts events)
    (more_kinds : kinds_after ≡ kinds ++ kind_of line ∷ []) (more_features : features_after ≡ features ++ feature_in line) (more_texts : texts_after ≡ texts ++ text_in line) (more_events : events_after ≡ events ++ events_in line) where
  pub push_kept : (all : List BodyLine) × IsCarried all kinds_after features_after texts_after events_after
  push_kept = (lines ++ line ∷ [], rw (more_kinds, more_features, more_texts, more_events) (carried_push lines kinds features texts events line is))

  pub push_view : (old : List BodyLine) → lines_of kinds features texts events ≡ old → lines_of kinds_after features_after texts_after events_after ≡ old ++ line ∷ []
  unfolding push_kept
  push_view old view = lines_are (lines ++ line ∷ []) kinds_after features_after texts_after events_after push_kept.1 ∙ ap (λ ls. ls ++ line ∷ []) (sym (lines_are lines kinds features texts events is) ∙ view)

-- the first line is of a kind, where the kinds are these
pub first_is : (lines : List BodyLine) (k first : LineKind) (all kinds : List LineKind) (features : List FeatureView) (texts : List (List ℕ)) (events : List (List Event)) → all ≡ first ∷ kinds → first ≡ k → IsCarried lines all features texts events → IsCarried lines (k ∷ kinds) features texts events
first_is lines k first all kinds features texts events split is = subst (λ ks. IsCarried lines ks features texts events) (split ∙ ap (λ f. f ∷ kinds) is)

-- what is left, by what calls leave of each part
pub next_as : (lines : List BodyLine) (k : LineKind) (kinds : List LineKind) (features left_features : List FeatureView) (texts left_texts : List (List ℕ)) (events left_events : List (List Event)) → IsCarried lines (k ∷ kinds) features texts events
    → left_features ≡ drop (feature_count k) features → left_texts ≡ drop (text_count k) texts → left_events ≡ drop (events_count k) events → (more : List BodyLine) × IsCarried more kinds left_features left_texts left_events
next_as lines k kinds features left_features texts left_texts events left_events is f t e = rw (f, t, e) (next_kept k kinds features texts events lines is)

-- what is there is taken out
pub taken_out : {X : Type 0} (xs left : List X) → 1 ≤ length xs → xs ≡ left → left ≡ drop 1 xs → ⊥
taken_out xs left some same rest = omega (arith, some, ap length same, ap length rest, length-drop 1 xs)
