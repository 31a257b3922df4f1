-- For private contracts alone: the lines of a round, whose features, texts and events are kept apart.
use Rattle.std.specs.Prelude.{◌≡◌, ℕ, List, [], ◌∷◌, map}
use Rattle.std.specs.List.{flat_map}
use Rattle.geo_base.specs.declared.event.Event.{Event}
use Rattle.feature_reader.specs.FeatureView.{FeatureView}
use Rattle.session_text.specs.declared.body.BodyLine.{BodyLine}
use Rattle.session_text.specs.declared.body.BodyLine.TheVariants as body
use Rattle.session_text.specs.declared.body.LineKind.{LineKind}
use Rattle.session_text.specs.declared.body.LineKind.TheVariants as kind

-- what a line says beside what it carries
abbrev pub kind_of : BodyLine → LineKind
kind_of (body.Put layer f) = kind.Put layer
kind_of (body.Drop layer id) = kind.Drop layer id
kind_of (body.Load feed layer) = kind.Load feed layer
kind_of (body.Limit n) = kind.Limit n
kind_of body.Publish = kind.Publish
kind_of (body.Ask lane text) = kind.Ask lane
kind_of (body.Explain text) = kind.Explain
kind_of (body.Replay events text) = kind.Replay

-- the feature, the text and the events that it carries, where it does
abbrev pub feature_in : BodyLine → List FeatureView
feature_in (body.Put layer f) = f ∷ []
feature_in line = []

abbrev pub text_in : BodyLine → List (List ℕ)
text_in (body.Ask lane text) = text ∷ []
text_in (body.Explain text) = text ∷ []
text_in (body.Replay events text) = text ∷ []
text_in line = []

abbrev pub events_in : BodyLine → List (List Event)
events_in (body.Replay events text) = events ∷ []
events_in line = []

-- these lines are kept so
pub record IsCarried (lines : List BodyLine) (kinds : List LineKind) (features : List FeatureView) (texts : List (List ℕ)) (events : List (List Event)) : Type 0 where
  pub kinds_are : kinds ≡ map kind_of lines
  pub features_are : features ≡ flat_map feature_in lines
  pub texts_are : texts ≡ flat_map text_in lines
  pub events_are : events ≡ flat_map events_in lines

-- the lines that are kept so; none behind one that lacks what it carries
abbrev pub lines_of : List LineKind → List FeatureView → List (List ℕ) → List (List Event) → List BodyLine
lines_of [] features texts events = []
lines_of (kind.Put layer ∷ kinds) [] texts events = []
lines_of (kind.Put layer ∷ kinds) (f ∷ features) texts events = body.Put layer f ∷ lines_of kinds features texts events
lines_of (kind.Drop layer id ∷ kinds) features texts events = body.Drop layer id ∷ lines_of kinds features texts events
lines_of (kind.Load feed layer ∷ kinds) features texts events = body.Load feed layer ∷ lines_of kinds features texts events
lines_of (kind.Limit n ∷ kinds) features texts events = body.Limit n ∷ lines_of kinds features texts events
lines_of (kind.Publish ∷ kinds) features texts events = body.Publish ∷ lines_of kinds features texts events
lines_of (kind.Ask lane ∷ kinds) features [] events = []
lines_of (kind.Ask lane ∷ kinds) features (text ∷ texts) events = body.Ask lane text ∷ lines_of kinds features texts events
lines_of (kind.Explain ∷ kinds) features [] events = []
lines_of (kind.Explain ∷ kinds) features (text ∷ texts) events = body.Explain text ∷ lines_of kinds features texts events
lines_of (kind.Replay ∷ kinds) features [] events = []
lines_of (kind.Replay ∷ kinds) features (text ∷ texts) [] = []
lines_of (kind.Replay ∷ kinds) features (text ∷ texts) (es ∷ events) = body.Replay es text ∷ lines_of kinds features texts events
