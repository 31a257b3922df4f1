-- A line that loads a feed, once its numbers are read.
use Rattle.std.proofs.Common.{◌≡◌, ◌==◌, ◌<◌, ℕ, Bool, true, false, cond, List, length, refl, Ok, Err}
use Rattle.std.specs.List.{list_any}
use Rattle.std.proofs.lemmas.Bool.{lt-ltb}
use Rattle.session_text.specs.Session.{SessionView, two_numbers, load_line}
use Rattle.session_text.specs.declared.body.BodyLine.TheVariants.{Load}
use Rattle.session_text.specs.declared.item.Item.TheVariants.{Body}
use Rattle.session_text.specs.declared.why.Why.TheVariants as why

-- the layer and the feed are there: it depends on whether the feed was named
pub load_is : (session : SessionView) (text : List ℕ) (feed layer : ℕ) (b : Bool) → two_numbers text ≡ Ok (feed, layer) → layer < length session.head.layers → feed < session.feeds
    → list_any (λ f. f == feed) session.named ≡ b → load_line session text ≡ cond b (Err why.Feed) (Ok (Body (Load feed layer)))
load_is session text feed layer true is within there named = rw (is, lt-ltb _ _ within, lt-ltb _ _ there, named) refl
load_is session text feed layer false is within there named = rw (is, lt-ltb _ _ within, lt-ltb _ _ there, named) refl
