-- What a source tells from its beginning on.
use Rattle.std.proofs.Common.{◌≡◌, ℕ, true, List, Option, Some, None, refl}
use Rattle.std.specs.Prelude.{is_some}
use Rattle.feature_feed.specs.Steady.{steady_left}

here : (now : Option (List ℕ)) → is_some now ≡ true → (before : List ℕ) × (now ≡ Some before)
here None some = absurd (cc some)
here (Some before) some = (before, refl)

-- what is told after a read was told before
pub told_before : (first now next : Option (List ℕ)) → (is_some first ≡ true → is_some now ≡ true) → (bytes : List ℕ) → steady_left first next ≡ Some bytes → (before : List ℕ) × (steady_left first now ≡ Some before)
told_before None now next stays bytes is = absurd (cc is)
told_before (Some first) now next stays bytes is = here now (stays refl)
