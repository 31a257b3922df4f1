-- The tokens of a key, cut in one walk over its characters.
use Rattle.std.proofs.Common.{◌≡◌, ◌∙◌, ℕ, true, false, cond, not, List, [], ◌∷◌, ◌++◌, map, filter, refl, sym, ap, encode_utf8_all}
use Rattle.std.specs.Char.{encode_utf8}
use Rattle.std.specs.List.{slice_split, onto_first}
use Rattle.std.proofs.lemmas.List.{append-nil, append_assoc, map-append}
use Rattle.geo_text.specs.Normal.{is_combining, is_token_char}
use Rattle.geo_text.specs.Tokens.{runs}
use Rattle.geo_text.specs.Words.{is_not_empty}
use Rattle.geo_text.proofs.Joins.{encode_utf8_all-push, encode_some}

-- the token at hand, if it has a byte
abbrev pub ended : List ℕ → List (List ℕ)
ended token = filter is_not_empty (token ∷ [])

-- the tokens that the token at hand and the characters behind it make
abbrev pub tokens_from : List ℕ → List ℕ → List (List ℕ)
tokens_from token [] = ended token
tokens_from token (c ∷ cs) = cond (is_combining c) (tokens_from token cs) (cond (is_token_char c) (tokens_from (token ++ encode_utf8 c) cs) (ended token ++ tokens_from [] cs))

-- characters in front of the first part
abbrev in_front : List ℕ → List (List ℕ) → List (List ℕ)
in_front front [] = front ∷ []
in_front front (part ∷ parts) = (front ++ part) ∷ parts

-- one more character in front
one_more : (front : List ℕ) (c : ℕ) (parts : List (List ℕ)) → in_front front (onto_first c parts) ≡ in_front (front ++ c ∷ []) parts
one_more front c [] = refl
one_more front c (part ∷ parts) = ap (λ l. l ∷ parts) (sym (append_assoc front (c ∷ []) part))

-- nothing in front
none_more : (parts : List (List ℕ)) → filter is_not_empty parts ≡ filter is_not_empty (in_front [] parts)
none_more [] = refl
none_more (part ∷ parts) = refl

-- the token of the characters at hand
ended_is : (front : List ℕ) → map encode_utf8_all (filter is_not_empty (front ∷ [])) ≡ ended (encode_utf8_all front)
ended_is [] = refl
ended_is (c ∷ cs) = rw (encode_some c cs) refl

-- a part in front of others
filter_first : (part : List ℕ) (parts : List (List ℕ)) → filter is_not_empty (part ∷ parts) ≡ filter is_not_empty (part ∷ []) ++ filter is_not_empty parts
filter_first [] parts = refl
filter_first (c ∷ cs) parts = refl

-- the characters that are no combining diacritical marks
abbrev bare : List ℕ → List ℕ
bare cs = filter (λ c. not (is_combining c)) cs

-- the parts between the characters that stand in no token
abbrev parts_of : List ℕ → List (List ℕ)
parts_of cs = slice_split (λ c. not (is_token_char c)) cs

-- the tokens of the parts, with characters in front of the first
abbrev told : List ℕ → List (List ℕ) → List (List ℕ)
told front parts = map encode_utf8_all (filter is_not_empty (in_front front parts))

-- the tokens where a part is ended
cut_here : (front : List ℕ) (parts : List (List ℕ)) → told front ([] ∷ parts) ≡ ended (encode_utf8_all front) ++ told [] parts
cut_here front parts =
    ap (λ l. map encode_utf8_all (filter is_not_empty (l ∷ parts))) (append-nil front)
    ∙ ap (map encode_utf8_all) (filter_first front parts)
    ∙ map-append encode_utf8_all (filter is_not_empty (front ∷ [])) (filter is_not_empty parts)
    ∙ ap (λ l. l ++ map encode_utf8_all (filter is_not_empty parts)) (ended_is front)
    ∙ ap (λ l. ended (encode_utf8_all front) ++ map encode_utf8_all l) (none_more parts)

-- the walk gives the tokens
walk : (front cs : List ℕ) → told front (parts_of (bare cs)) ≡ tokens_from (encode_utf8_all front) cs
walk front [] = cut_here front [] ∙ append-nil _
walk front (c ∷ cs) = elim (is_combining c) as (λ b. told front (parts_of (cond (not b) (c ∷ bare cs) (bare cs))) ≡ cond b (tokens_from (encode_utf8_all front) cs) (cond (is_token_char c) (tokens_from (encode_utf8_all front ++ encode_utf8 c) cs) (ended (encode_utf8_all front) ++ tokens_from [] cs))) [
  | true ↦ walk front cs
  | false ↦ elim (is_token_char c) as (λ b. told front (cond (not b) ([] ∷ parts_of (bare cs)) (onto_first c (parts_of (bare cs)))) ≡ cond b (tokens_from (encode_utf8_all front ++ encode_utf8 c) cs) (ended (encode_utf8_all front) ++ tokens_from [] cs)) [
    | true ↦ ap (λ l. map encode_utf8_all (filter is_not_empty l)) (one_more front c (parts_of (bare cs))) ∙ (walk (front ++ c ∷ []) cs ∙ ap (λ t. tokens_from t cs) (encode_utf8_all-push front c))
    | false ↦ cut_here front (parts_of (bare cs)) ∙ ap (λ l. ended (encode_utf8_all front) ++ l) (walk [] cs)
  ]
]

-- the tokens of a key
pub tokens_of_key : (key : List ℕ) → map encode_utf8_all (runs is_token_char (bare key)) ≡ tokens_from [] key
tokens_of_key key = ap (map encode_utf8_all) (none_more (parts_of (bare key))) ∙ walk [] key
