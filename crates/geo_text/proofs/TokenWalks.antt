-- What takes the tokens of a walk over characters, step by step.
use Rattle.std.proofs.Common.{◌≡◌, ◌∙◌, ℕ, true, false, List, [], ◌∷◌, ◌++◌, refl, sym, ap, subst}
use Rattle.std.specs.Char.{encode_utf8}
use Rattle.std.proofs.lemmas.List.{append-nil, append_assoc, map-append}
use Rattle.std.specs.Prelude.{unwrap_or}
use Rattle.geo_text.specs.Normal.{is_combining, is_token_char}
use Rattle.geo_text.specs.Tokens.{Replacements, replacement, replaced}
use Rattle.geo_text.proofs.KeyTokens.{ended, tokens_from}

-- what had tokens before has those made so far besides now; with those that the token at hand and the characters that are
-- left make, they are those of all characters
abbrev pub Along : Replacements → (List (List ℕ) → Type 0) → (List (List ℕ) → Type 0) → List ℕ → List ℕ → List ℕ → Type 0
Along r before now token left key =
    (made : List (List ℕ)) × (made ++ replaced r (tokens_from token left) ≡ replaced r (tokens_from [] key)) × ((tokens : List (List ℕ)) → before tokens → now (tokens ++ made))

module _ (r : Replacements) (before : List (List ℕ) → Type 0) where
  pub along_start : (token key : List ℕ) → token ≡ [] → Along r before before token key key
  along_start token key none = ([], ap (λ t. replaced r (tokens_from t key)) none, λ tokens had. subst before (sym (append-nil tokens)) had)

  module _ (now : List (List ℕ) → Type 0) (token : List ℕ) (c : ℕ) (left key : List ℕ) (so_far : Along r before now token (c ∷ left) key) where
    -- a combining mark is passed over
    pub along_mark : is_combining c ≡ true → Along r before now token left key
    along_mark mark =
        let same : tokens_from token (c ∷ left) ≡ tokens_from token left = rw mark refl in
        (so_far.0, ap (λ t. so_far.0 ++ replaced r t) (sym same) ∙ so_far.1, so_far.2)

    -- a character of a token
    pub along_token : is_combining c ≡ false → is_token_char c ≡ true → Along r before now (token ++ encode_utf8 c) left key
    along_token mark inside =
        let same : tokens_from token (c ∷ left) ≡ tokens_from (token ++ encode_utf8 c) left = rw (mark, inside) refl in
        (so_far.0, ap (λ t. so_far.0 ++ replaced r t) (sym same) ∙ so_far.1, so_far.2)

    -- a character that ends the token
    pub along_end : (after : List (List ℕ) → Type 0) → is_combining c ≡ false → is_token_char c ≡ false → ((tokens : List (List ℕ)) → now tokens → after (tokens ++ replaced r (ended token))) → Along r before after [] left key
    along_end after mark outside given =
        let same : tokens_from token (c ∷ left) ≡ ended token ++ tokens_from [] left = rw (mark, outside) refl in
        let parts : replaced r (ended token) ++ replaced r (tokens_from [] left) ≡ replaced r (tokens_from token (c ∷ left)) =
        sym (map-append (λ t. unwrap_or (replacement r t) t) (ended token) (tokens_from [] left)) ∙ ap (replaced r) (sym same) in (
          so_far.0 ++ replaced r (ended token),
          append_assoc so_far.0 (replaced r (ended token)) (replaced r (tokens_from [] left)) ∙ ap (λ l. so_far.0 ++ l) parts ∙ so_far.1,
          λ tokens had. subst after (append_assoc tokens so_far.0 (replaced r (ended token))) (given (tokens ++ so_far.0) (so_far.2 tokens had)),
        )

  -- the last token ends with the characters
  pub along_last : (now after : List (List ℕ) → Type 0) (token key : List ℕ) → Along r before now token [] key → ((tokens : List (List ℕ)) → now tokens → after (tokens ++ replaced r (ended token)))
      → (tokens : List (List ℕ)) → before tokens → after (tokens ++ replaced r (tokens_from [] key))
  along_last now after token key so_far given tokens had =
      subst after (append_assoc tokens so_far.0 (replaced r (ended token)) ∙ ap (λ l. tokens ++ l) so_far.1) (given (tokens ++ so_far.0) (so_far.2 tokens had))
