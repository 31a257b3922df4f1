-- What a run tells and does, from the calls that it makes.
use Rattle.std.proofs.Common.{◌≡◌, ◌<◌, ℕ, List, [], ◌++◌, length, Option, None, Some, Ok, Err, OnOk, OnErr, refl, sym, subst, map, append-nil, arith}
use Rattle.std.specs.Prelude.{Result}
use Rattle.std.specs.Io.KnownBytes.{Keeps, Appends}
use Rattle.std.proofs.lemmas.List.Elements.{All-nil}
use Rattle.feature_reader.specs.declared.load_report.LoadEnd.TheVariants.{End}
use Rattle.feature_feed.specs.Feed.{FeedView}
use Rattle.feature_feed.specs.Load.{Loads}
use Rattle.session_text.specs.declared.status.Status.{Status}
use Rattle.query_server.specs.Promise.{AreFed}
use Rattle.carmen_cli.specs.Program.{about_of, about_text, IsTold, IsAnsweredAs, IsRunAs, IsBegun}
use Rattle.carmen_cli.specs.declared.about.About.{About}

-- a text is begun, whether the sink takes all of it or not
pub begun : {A E : Type 0} (r : Result A E) (old new : Option (List ℕ)) (text : List ℕ) → OnOk r (Appends old new text) → OnErr r ((front : List ℕ) × (rest : List ℕ) × (text ≡ front ++ rest) × (0 < length rest) × Appends old new front)
    → IsBegun old new text
begun (Ok done) old new text all part = (text, all, ([], sym (append-nil text)))
begun (Err e) old new text all (front, rest, is, some, wrote) = (front, wrote, (rest, is))

pub keeps : (left : Option (List ℕ)) → Keeps left left
keeps None = tt
keeps (Some bytes) = refl

-- no feed gave anything
pub no_loads : Loads
no_loads feed = record { gave = []; end = End }

-- feeds that stay as they are, where no line names one
pub none_fed : (status : Status) (feeds : List FeedView) (loads : Loads) → AreFed status feeds feeds [] loads
none_fed status feeds loads = record {
  count = refl;
  later = λ k. omega arith;
  unnamed = λ k others. refl;
  named = All-nil _;
  whole = λ room written. All-nil _;
}

module _ {S K B : Type 0} (left : S → Option (List ℕ)) (reads : S → ℕ) (contents : K → Option (List ℕ)) (writes : K → ℕ) (shows : B → FeedView) where
  -- what a run does from a source, a sink and feeds to others
  abbrev Run : List (List ℕ) → S → S → K → K → List B → List B → Status → Type 0
  Run words s t k l fs gs status = IsRunAs words (left s) (left t) (contents k) (contents l) (map shows fs) (map shows gs) (reads s) (reads t) (writes k) (writes l) status

  -- it goes along what is the same
  along : (words : List (List ℕ)) (s t u : S) (k l m : K) (fs gs hs : List B) (status other : Status) → t ≡ u → l ≡ m → gs ≡ hs → status ≡ other → Run words s u k m fs hs other → Run words s t k l fs gs status
  along words s t u k l m fs gs hs status other source sink feeds same run =
      subst (λ (x : S). Run words s x k l fs gs status) (sym source) (subst (λ (y : K). Run words s u k y fs gs status) (sym sink)
      (subst (λ (bs : List B). Run words s u k m fs bs status) (sym feeds) (subst (λ (z : Status). Run words s u k m fs hs z) (sym same) run)))

  -- a run that tells of the program
  pub told_run : (words : List (List ℕ)) (about : About) (s t : S) (k l m : K) (fs gs : List B) (status other : Status) → t ≡ s → l ≡ m → gs ≡ fs → status ≡ other → Some about ≡ about_of words
      → IsTold (about_text about) (contents k) (contents m) (writes k) (writes m) other → Run words s t k l fs gs status
  told_run words about s t k l m fs gs status other source sink feeds same is told =
      along words s t s k l m fs gs fs status other source sink feeds same (rw (sym is, IsRunAs) (keeps (left s), refl, refl, told))

  -- a run that answers a session
  pub answered_run : (words : List (List ℕ)) (s t u : S) (k l m : K) (fs gs hs : List B) (status other : Status) → t ≡ u → l ≡ m → gs ≡ hs → status ≡ other → None ≡ about_of words
      → IsAnsweredAs words (left s) (left u) (contents k) (contents m) (map shows fs) (map shows hs) (reads s) (reads u) (writes k) (writes m) other → Run words s t k l fs gs status
  answered_run words s t u k l m fs gs hs status other source sink feeds same is answered = along words s t u k l m fs gs hs status other source sink feeds same (rw (sym is, IsRunAs) answered)
