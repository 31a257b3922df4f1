-- The parts of a text, and how relevant each is.
use Rattle.std.specs.Prelude.{ℕ, List, [], ◌∷◌, min, ◌==◌, map, filter}
use Rattle.std.specs.List.{slice_split}
use Rattle.geo_text.specs.Tokens.{Replacements, tokens_of, replaced, are_some_tokens}

-- the pieces of a text between its commas
abbrev pub pieces : List ℕ → List (List ℕ)
pieces text = slice_split (λ b. b == 44) text

-- the first part has relevance 100 and the later ones 80, each at most the cap
abbrev pub ranked : ℕ → List (List (List ℕ)) → List (List (List ℕ) × ℕ)
ranked cap [] = []
ranked cap (first ∷ more) = (first, min cap 100) ∷ map (λ tokens. (tokens, min cap 80)) more

-- the parts of a text, which are its pieces of 1 to 20 tokens, with their relevances
abbrev pub parts : Replacements → ℕ → List ℕ → List (List (List ℕ) × ℕ)
parts replacements cap text = ranked cap (filter are_some_tokens (map (λ piece. replaced replacements (tokens_of piece)) (pieces text)))
