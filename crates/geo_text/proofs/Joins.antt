-- A text that a loop puts together: what one more piece adds.
use Rattle.std.proofs.Common.{◌≡◌, ◌∙◌, ◌+◌, ◌<◌, ℕ, true, List, [], ◌∷◌, ◌++◌, length, length-append, take, drop, map, refl, sym, ap, arith, encode_utf8_all, slice_index_or, add-zero, Some}
use Rattle.std.specs.Prelude.{slice_get, min}
use Rattle.std.specs.Char.{encode_utf8, to_ascii_lowercase}
use Rattle.std.proofs.lemmas.List.{take_more, append_assoc, append-nil, length-drop, length-take, get_or-drop, map-append}
use Rattle.std.proofs.lemmas.Option.{get_or_from_slice_get}
use Rattle.std.proofs.lemmas.Str.{length-encode, len_utf8_bounds}
use Rattle.geo_text.specs.Tokens.{joined}
use Rattle.geo_text.specs.Words.{is_not_empty}

-- one more text, after a space
joined-push : (x : List ℕ) (xs : List (List ℕ)) (y : List ℕ) → joined (x ∷ xs ++ y ∷ []) ≡ joined (x ∷ xs) ++ 32 ∷ y
joined-push x [] y = refl
joined-push x (z ∷ xs) y = ap (λ l. x ++ 32 ∷ l) (joined-push z xs y) ∙ sym (append_assoc x (32 ∷ joined (z ∷ xs)) (32 ∷ y))

-- one more character
pub encode_utf8_all-push : (cs : List ℕ) (c : ℕ) → encode_utf8_all (cs ++ c ∷ []) ≡ encode_utf8_all cs ++ encode_utf8 c
encode_utf8_all-push [] c = append-nil (encode_utf8 c)
encode_utf8_all-push (d ∷ cs) c = ap (λ l. encode_utf8 d ++ l) (encode_utf8_all-push cs c) ∙ sym (append_assoc (encode_utf8 d) (encode_utf8_all cs) (encode_utf8 c))

-- a list with something in it
some : {X : Type 0} (xs : List X) → 0 < length xs → is_not_empty xs ≡ true
some [] h = absurd (omega (arith, h))
some (x ∷ xs) h = refl

-- a character has a byte
pub encode_some : (c : ℕ) (cs : List ℕ) → is_not_empty (encode_utf8_all (c ∷ cs)) ≡ true
encode_some c cs = some _ (omega (arith, length-append (encode_utf8 c) (encode_utf8_all cs), length-encode c, (len_utf8_bounds c).0))

-- one more text after some
joined-more : (xs : List (List ℕ)) (y : List ℕ) → 0 < length xs → joined (xs ++ y ∷ []) ≡ joined xs ++ 32 ∷ y
joined-more [] y h = absurd (omega (arith, h))
joined-more (x ∷ xs) y h = joined-push x xs y

-- one more token after some, with their count up to 21
pub joined_and_counted : (old text : List ℕ) (before count : ℕ) (tokens : List (List ℕ)) (token : List ℕ) → old ≡ joined tokens → before ≡ min (length tokens) 21 → 0 < before → text ≡ (old ++ 32 ∷ []) ++ token → count ≡ min (before + 1) 21
    → (text ≡ joined (tokens ++ token ∷ [])) × (count ≡ min (length (tokens ++ token ∷ [])) 21)
joined_and_counted old text before count tokens token had counted some is next =
    let more : 0 < length tokens = omega (arith, counted, some) in (
      is ∙ append_assoc old (32 ∷ []) token ∙ ap (λ t. t ++ 32 ∷ token) had ∙ sym (joined-more tokens token more),
      next ∙ omega (arith, counted, length-append tokens (token ∷ [])),
    )

-- the texts of a run joined, and the next
pub joined-run : (xs : List (List ℕ)) (from n : ℕ) (y : List ℕ) (d : List ℕ) → from + 1 + n < length xs → slice_index_or xs (from + 1 + n) d ≡ y → joined (take (n + 1 + 1) (drop from xs)) ≡ (joined (take (n + 1) (drop from xs)) ++ 32 ∷ []) ++ y
joined-run xs from n y d h is =
    let within : n + 1 < length (drop from xs) = omega (arith, h, length-drop from xs) in
    let place : from + (n + 1) ≡ from + 1 + n = omega arith in
    let some : 0 < length (take (n + 1) (drop from xs)) = omega (arith, within, length-take (n + 1) (drop from xs)) in
    ap joined (take_more (drop from xs) (n + 1) d within)
    ∙ joined-more (take (n + 1) (drop from xs)) (slice_index_or (drop from xs) (n + 1) d) some
    ∙ ap (λ z. joined (take (n + 1) (drop from xs)) ++ 32 ∷ z) (get_or-drop from xs (n + 1) d ∙ (ap (λ k. slice_index_or xs k d) place ∙ is))
    ∙ sym (append_assoc (joined (take (n + 1) (drop from xs))) (32 ∷ []) y)

-- a run of one text
pub joined-one : (xs : List (List ℕ)) (from : ℕ) (y : List ℕ) → slice_get xs from ≡ Some y → from < length xs → joined (take 1 (drop from xs)) ≡ y
joined-one xs from y is h =
    let within : 0 < length (drop from xs) = omega (arith, h, length-drop from xs) in
    ap joined (take_more (drop from xs) 0 y within) ∙ (get_or-drop from xs 0 y ∙ ap (λ k. slice_index_or xs k y) (add-zero from) ∙ get_or_from_slice_get xs from y y is)

-- the bytes of a front in lower case, and of one more character
pub lowered_more : (cs : List ℕ) (n d : ℕ) → n < length cs → encode_utf8_all (map to_ascii_lowercase (take (n + 1) cs)) ≡ encode_utf8_all (map to_ascii_lowercase (take n cs)) ++ encode_utf8 (to_ascii_lowercase (slice_index_or cs n d))
lowered_more cs n d h =
    ap (λ l. encode_utf8_all (map to_ascii_lowercase l)) (take_more cs n d h)
    ∙ ap encode_utf8_all (map-append to_ascii_lowercase (take n cs) (slice_index_or cs n d ∷ []))
    ∙ encode_utf8_all-push (map to_ascii_lowercase (take n cs)) (to_ascii_lowercase (slice_index_or cs n d))
