-- Tokens that a map replaces.
use Rattle.std.proofs.Common.{◌≡◌, ℕ, List, [], ◌∷◌, refl, ap}
use Rattle.geo_text.specs.Tokens.{replaced}

-- where nothing has a replacement the tokens stay
pub replaced-none : (tokens : List (List ℕ)) → replaced [] tokens ≡ tokens
replaced-none [] = refl
replaced-none (token ∷ tokens) = ap (λ l. token ∷ l) (replaced-none tokens)
