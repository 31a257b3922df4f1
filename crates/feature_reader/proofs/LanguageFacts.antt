-- Which bits the sets of languages of a feature's texts have.
use Rattle.std.proofs.Common.{◌≡◌, ◌≢◌, ◌∙◌, ◌+◌, ◌-◌, ◌*◌, ◌/◌, ◌%◌, ◌^◌, ◌<◌, ◌≤◌, ◌&&◌, ◌||◌, not, ℕ, zero, suc, Bool, true, false, List, [], ◌∷◌, Option, Some, None, length, bytes_eq, nat_lt, fold, get_or, refl, sym, ap, subst, arith}
use Rattle.std.specs.Prelude.{bit_and, position, slice_get}
use Rattle.std.specs.Int.{bit_at}
use Rattle.std.specs.List.{list_any, list_all, position_or_len}
use Rattle.std.proofs.lemmas.Nat.{div-add-mod', mod_below, pow_pos}
use Rattle.std.proofs.lemmas.Nat.Bits.{and_pow, bit_at_ones, bit_at_cat_low, bit_at_cat_high, bit_at-suc, bit_at_lowest}
use Rattle.std.proofs.lemmas.Bool.{and_parts, leb-true, lt-ltb, not-true}
use Rattle.std.proofs.lemmas.Bool.Decides.{nat_tests}
use Rattle.std.proofs.lemmas.List.Quantifiers.{position-Some}
use Rattle.std.proofs.lemmas.Option.{slice_get_within}
use Rattle.std.proofs.lemmas.Slice.Eq.{bytes_eq-Decides}
use Rattle.geo_base.specs.LangCode.{is_code}
use Rattle.geo_base.specs.LangSet.{has_bit}
use Rattle.geo_layer.specs.Langs.{all_differ, are_langs, bit_of}
use Rattle.geo_text.proofs.FirstPlace.{found}
use Rattle.feature_reader.specs.Languages.{all_languages, bits_of, other_languages}

-- ---- a number less a power of two that it has

-- the number in two parts, the upper of which loses one
parts : (q p b n : ℕ) → q * p + b ≡ n → q % 2 ≡ 1 → (a : ℕ) × (a % 2 ≡ 0) × ((suc a) / 2 ≡ a / 2) × (n ≡ suc a * p + b) × (n - p ≡ a * p + b)
parts zero p b n is odd = absurd (cc odd)
parts (suc a) p b n is odd =
    let one : suc a * p ≡ p + a * p = omega arith in
    (a, omega arith, omega arith, sym is, omega (arith, one, is))

module _ (n j : ℕ) (has : bit_at n j ≡ 1) where
  abbrev low : ℕ
  low = n % 2 ^ j

  small : low < 2 ^ j
  small = mod_below n (2 ^ j) (pow_pos j)

  halves : (a : ℕ) × (a % 2 ≡ 0) × ((suc a) / 2 ≡ a / 2) × (n ≡ suc a * 2 ^ j + low) × (n - 2 ^ j ≡ a * 2 ^ j + low)
  halves = parts (n / 2 ^ j) (2 ^ j) low n (div-add-mod' n (2 ^ j)) has

  -- it has that bit no longer
  pub less_same : bit_at (n - 2 ^ j) j ≡ 0
  less_same =
      let (a, even, half, before, after) = halves in
      let none : j - j ≡ 0 = omega arith in
      ap (λ m. bit_at m j) after ∙ bit_at_cat_high a j low j small (omega arith) ∙ ap (bit_at a) none ∙ bit_at_lowest a ∙ even

  -- a higher bit is as before
  above : (i t : ℕ) → j ≤ i → i - j ≡ suc t → bit_at (n - 2 ^ j) i ≡ bit_at n i
  above i t higher is =
      let (a, even, half, before, after) = halves in
      ap (λ m. bit_at m i) after ∙ bit_at_cat_high a j low i small higher ∙ ap (bit_at a) is ∙ bit_at-suc a t ∙ ap (λ m. bit_at m t) (sym half)
      ∙ sym (bit_at-suc (suc a) t) ∙ ap (bit_at (suc a)) (sym is) ∙ sym (bit_at_cat_high (suc a) j low i small higher) ∙ ap (λ m. bit_at m i) (sym before)

  -- a lower bit is as before
  below : (i : ℕ) → i < j → bit_at (n - 2 ^ j) i ≡ bit_at n i
  below i lower =
      let (a, even, half, before, after) = halves in
      ap (λ m. bit_at m i) after ∙ bit_at_cat_low a j low i lower ∙ sym (bit_at_cat_low (suc a) j low i lower) ∙ ap (λ m. bit_at m i) (sym before)

  -- each other bit is as before
  pub less_other : (i : ℕ) → i ≢ j → bit_at (n - 2 ^ j) i ≡ bit_at n i
  less_other i other = by (nat_lt i j) refl
    where
      by : (b : Bool) → nat_lt i j ≡ b → bit_at (n - 2 ^ j) i ≡ bit_at n i
      by true e = below i (grind (arith, nat_tests))
      by false e = above i (i - j - 1) (grind (arith, nat_tests)) (grind (arith, nat_tests))

-- ---- the set less a language

-- two codes at one place of the list are the same
same_code : (langs : List (List ℕ)) (c d : List ℕ) (k : ℕ) → position (bytes_eq c) langs ≡ Some k → position (bytes_eq d) langs ≡ Some k → c ≡ d
same_code langs c d k at_c at_d =
    let at : List ℕ = get_or langs k [] in
    (bytes_eq-Decides c at).0 (position-Some (bytes_eq c) langs k [] at_c).1 ∙ sym ((bytes_eq-Decides d at).0 (position-Some (bytes_eq d) langs k [] at_d).1)

-- the bit of a language that stands elsewhere or nowhere is as before
stays : (langs : List (List ℕ)) (c : List ℕ) (s k : ℕ) → ((j : ℕ) → position (bytes_eq c) langs ≡ Some j → bit_at s j ≡ 1) → (position (bytes_eq c) langs ≡ Some k → ⊥) → bit_at (s - bits_of langs c) k ≡ bit_at s k
stays langs c s k has other = by (position (bytes_eq c) langs) refl
  where
    by : (o : Option ℕ) → position (bytes_eq c) langs ≡ o → bit_at (s - bits_of langs c) k ≡ bit_at s k
    by None e =
        let all : s - 0 ≡ s = omega arith in
        rw e (ap (λ n. bit_at n k) all)
    by (Some j) e = rw e (less_other s j (has j e) k (λ same. other (e ∙ ap Some (sym same))))

-- the bit of the language itself isn't there any more
goes_off : (langs : List (List ℕ)) (c : List ℕ) (s k : ℕ) → bit_at s k ≡ 1 → position (bytes_eq c) langs ≡ Some k → bit_at (s - bits_of langs c) k ≡ 0
goes_off langs c s k has at = rw at (less_same s k has)

-- the set has the bit of each of these codes that is listed
abbrev pub HasAll : List (List ℕ) → ℕ → List (List ℕ) → Type 0
HasAll langs s codes = (c : List ℕ) (j : ℕ) → list_any (bytes_eq c) codes ≡ true → position (bytes_eq c) langs ≡ Some j → bit_at s j ≡ 1

-- a text is the same as itself
same_text : (c : List ℕ) → bytes_eq c c ≡ true
same_text c = (bytes_eq-Decides c c).1 refl

-- a text is one of those that it heads
head_is : (c : List ℕ) (codes : List (List ℕ)) → list_any (bytes_eq c) (c ∷ codes) ≡ true
head_is c codes = rw (same_text c) refl

-- a text that is one of the later ones is one of all
later_is : (d c : List ℕ) (codes : List (List ℕ)) → list_any (bytes_eq d) codes ≡ true → list_any (bytes_eq d) (c ∷ codes) ≡ true
later_is d c codes is = elim (bytes_eq d c) as (λ b. (b || list_any (bytes_eq d) codes) ≡ true) [ true ↦ refl | false ↦ is ]

-- the first of texts that differ isn't one of the later ones
first_differs : (c : List ℕ) (codes : List (List ℕ)) → all_differ (c ∷ codes) ≡ true → list_any (bytes_eq c) codes ≡ false
first_differs c codes differ = not-true (list_any (bytes_eq c) codes) (and_parts _ _ differ).0

-- after the first language is gone, the set has the others
has_rest : (langs : List (List ℕ)) (s : ℕ) (c : List ℕ) (codes : List (List ℕ)) → HasAll langs s (c ∷ codes) → all_differ (c ∷ codes) ≡ true → HasAll langs (s - bits_of langs c) codes
has_rest langs s c codes has differ d j is at =
    let elsewhere : position (bytes_eq c) langs ≡ Some j → ⊥ = λ here.
    let same : d ≡ c = same_code langs d c j at here in
    let both : true ≡ false = sym is ∙ ap (λ x. list_any (bytes_eq x) codes) same ∙ first_differs c codes differ in
    absurd (cc both)
    in
    stays langs c s j (λ i here. has c i (head_is c codes) here) elsewhere ∙ has d j (later_is d c codes is) at

-- ---- the set less some languages

-- a bit that belongs to none of them is as before
pub others_stay : (langs codes : List (List ℕ)) (s k : ℕ) → HasAll langs s codes → all_differ codes ≡ true → ((c : List ℕ) → list_any (bytes_eq c) codes ≡ true → position (bytes_eq c) langs ≡ Some k → ⊥) → bit_at (fold (λ set code. set - bits_of langs code) s codes) k ≡ bit_at s k
others_stay langs [] s k has differ other = refl
others_stay langs (c ∷ codes) s k has differ other =
    others_stay langs codes (s - bits_of langs c) k (has_rest langs s c codes has differ) (and_parts _ _ differ).1 (λ d is. other d (later_is d c codes is))
    ∙ stays langs c s k (λ i here. has c i (head_is c codes) here) (other c (head_is c codes))

-- the bit of one of them is gone
pub that_goes : (langs codes : List (List ℕ)) (s k : ℕ) (code : List ℕ) → HasAll langs s codes → all_differ codes ≡ true → position (bytes_eq code) langs ≡ Some k → list_any (bytes_eq code) codes ≡ true → bit_at (fold (λ set code. set - bits_of langs code) s codes) k ≡ 0
that_goes langs [] s k code has differ at is = absurd (cc is)
that_goes langs (c ∷ codes) s k code has differ at is = by (that_goes langs codes (s - bits_of langs c) k code (has_rest langs s c codes has differ) (and_parts _ _ differ).1 at) (bytes_eq code c) refl
  where
    by : (list_any (bytes_eq code) codes ≡ true → bit_at (fold (λ set code. set - bits_of langs code) (s - bits_of langs c) codes) k ≡ 0) → (b : Bool) → bytes_eq code c ≡ b → bit_at (fold (λ set code. set - bits_of langs code) s (c ∷ codes)) k ≡ 0
    by rest true e =
        let same : code ≡ c = (bytes_eq-Decides code c).0 e in
        let here : position (bytes_eq c) langs ≡ Some k = subst (λ x. position (bytes_eq x) langs ≡ Some k) same at in
        others_stay langs codes (s - bits_of langs c) k (has_rest langs s c codes has differ) (and_parts _ _ differ).1
        (λ d among there.
        let one : d ≡ c = same_code langs d c k there here in
        let both : true ≡ false = sym among ∙ ap (λ x. list_any (bytes_eq x) codes) one ∙ first_differs c codes differ in
        absurd (cc both))
        ∙ goes_off langs c s k (has c k (head_is c codes) here) here
    by rest false e = rest (sym (rw e refl) ∙ is)

-- ---- the list of languages

-- what stands at a place is one of them
at_place_is : (langs : List (List ℕ)) (k : ℕ) (code : List ℕ) → slice_get langs k ≡ Some code → list_any (bytes_eq code) langs ≡ true
at_place_is [] k code is = absurd (cc is)
at_place_is (x ∷ langs) zero code is =
    let same : x ≡ code = cc is in
    rw (same, same_text code) refl
at_place_is (x ∷ langs) (suc k) code is = later_is code x langs (at_place_is langs k code is)

-- the k-th of texts that differ is first found at place k
place : (langs : List (List ℕ)) (k : ℕ) (code : List ℕ) → all_differ langs ≡ true → slice_get langs k ≡ Some code → position_or_len (bytes_eq code) langs ≡ k
place [] k code differ is = absurd (cc is)
place (x ∷ langs) zero code differ is =
    let same : x ≡ code = cc is in
    rw (same, same_text code) refl
place (x ∷ langs) (suc k) code differ is = by (place langs k code (and_parts _ _ differ).1 is) (bytes_eq code x) refl
  where
    by : position_or_len (bytes_eq code) langs ≡ k → (b : Bool) → bytes_eq code x ≡ b → position_or_len (bytes_eq code) (x ∷ langs) ≡ suc k
    by further true e =
        let same : code ≡ x = (bytes_eq-Decides code x).0 e in
        let both : true ≡ false = sym (at_place_is langs k code is) ∙ ap (λ c. list_any (bytes_eq c) langs) same ∙ first_differs x langs differ in
        absurd (cc both)
    by further false e = rw (e, further) (omega arith)

-- languages all differ
differ_of : (langs : List (List ℕ)) → are_langs langs ≡ true → all_differ langs ≡ true
differ_of langs are =
    let more : (list_all is_code langs && all_differ langs) ≡ true = (and_parts _ _ are).1 in
    (and_parts _ _ more).1

-- and are at most 127
few_of : (langs : List (List ℕ)) → are_langs langs ≡ true → length langs ≤ 127
few_of langs are = leb-true (length langs) 127 (and_parts _ _ are).0

-- the k-th language stands at place k
pub place_is : (langs : List (List ℕ)) (k : ℕ) (code : List ℕ) → are_langs langs ≡ true → slice_get langs k ≡ Some code → position (bytes_eq code) langs ≡ Some k
place_is langs k code are is =
    let here : position_or_len (bytes_eq code) langs ≡ k = place langs k code (differ_of langs are) is in
    let within : nat_lt k (length langs) ≡ true = lt-ltb k (length langs) (slice_get_within langs k code is) in
    rw (here, within) refl

-- ---- bits of the sets

-- a number has a bit that is 1
has_one : (n k : ℕ) → bit_at n k ≡ 1 → has_bit n k ≡ true
has_one n k is =
    let mask : bit_and n (2 ^ k) ≡ 1 * 2 ^ k = and_pow n k ∙ ap (λ b. b * 2 ^ k) is in
    let some : 0 < 2 ^ k = pow_pos k in
    rw mask (grind (arith, nat_tests))

-- and none that is 0
has_none : (n k : ℕ) → bit_at n k ≡ 0 → has_bit n k ≡ false
has_none n k is =
    let none : 0 * 2 ^ k ≡ 0 = omega arith in
    let mask : bit_and n (2 ^ k) ≡ 0 = and_pow n k ∙ ap (λ b. b * 2 ^ k) is ∙ none in
    rw mask refl

-- all languages are the 128 lowest bits
all_have : (k : ℕ) → k < 128 → bit_at all_languages k ≡ 1
all_have k few = bit_at_ones 128 k few

-- so they have the bit of each code that is listed
all_have_all : (langs codes : List (List ℕ)) → are_langs langs ≡ true → HasAll langs all_languages codes
all_have_all langs codes are c j is at =
    let within : j < length langs = (position-Some (bytes_eq c) langs j [] at).0 in
    let few : length langs ≤ 127 = few_of langs are in
    all_have j (omega (arith, within, few))

-- the bit of a listed language
pub listed_bit : (langs codes : List (List ℕ)) (k : ℕ) (code : List ℕ) → are_langs langs ≡ true → all_differ codes ≡ true → slice_get langs k ≡ Some code → has_bit (other_languages langs codes) k ≡ not (list_any (bytes_eq code) codes)
listed_bit langs codes k code are differ is = by (list_any (bytes_eq code) codes) refl
  where
    here : position (bytes_eq code) langs ≡ Some k
    here = place_is langs k code are is

    all : HasAll langs all_languages codes
    all = all_have_all langs codes are

    few : k < 128
    few =
        let within : k < length langs = slice_get_within langs k code is in
        let short : length langs ≤ 127 = few_of langs are in
        omega (arith, within, short)

    by : (b : Bool) → list_any (bytes_eq code) codes ≡ b → has_bit (other_languages langs codes) k ≡ not b
    by true e = has_none (other_languages langs codes) k (that_goes langs codes all_languages k code all differ here e)
    by false e =
        let none : (d : List ℕ) → list_any (bytes_eq d) codes ≡ true → position (bytes_eq d) langs ≡ Some k → ⊥ = λ d among at.
        let same : d ≡ code = same_code langs d code k at here in
        let both : true ≡ false = sym among ∙ ap (λ x. list_any (bytes_eq x) codes) same ∙ e in
        absurd (cc both)
        in
        has_one (other_languages langs codes) k (others_stay langs codes all_languages k all differ none ∙ all_have k few)

-- each bit behind those of the listed languages
pub unlisted_bit : (langs codes : List (List ℕ)) (k : ℕ) → are_langs langs ≡ true → all_differ codes ≡ true → length langs ≤ k → k < 128 → has_bit (other_languages langs codes) k ≡ true
unlisted_bit langs codes k are differ behind few =
    let none : (d : List ℕ) → list_any (bytes_eq d) codes ≡ true → position (bytes_eq d) langs ≡ Some k → ⊥ = λ d among at.
    let within : k < length langs = (position-Some (bytes_eq d) langs k [] at).0 in
    absurd (omega (arith, within, behind))
    in
    has_one (other_languages langs codes) k (others_stay langs codes all_languages k (all_have_all langs codes are) differ none ∙ all_have k few)

-- the bit of all languages that aren't listed
pub last_bit : (langs codes : List (List ℕ)) → are_langs langs ≡ true → all_differ codes ≡ true → has_bit (other_languages langs codes) 127 ≡ true
last_bit langs codes are differ = unlisted_bit langs codes 127 are differ (few_of langs are) (omega arith)

-- the set of a listed language
pub listed_set : (langs : List (List ℕ)) (k : ℕ) (code : List ℕ) → are_langs langs ≡ true → slice_get langs k ≡ Some code → bits_of langs code ≡ 2 ^ k
listed_set langs k code are is = rw (place_is langs k code are is) refl

-- and the bit by which it is asked for
pub listed_place : (langs : List (List ℕ)) (k : ℕ) (code : List ℕ) → are_langs langs ≡ true → slice_get langs k ≡ Some code → bit_of langs code ≡ k
listed_place langs k code are is = rw (place_is langs k code are is) refl

-- a code that isn't listed stands at no place
no_place : (langs : List (List ℕ)) (code : List ℕ) → list_any (bytes_eq code) langs ≡ false → position (bytes_eq code) langs ≡ None
no_place langs code none = by (position (bytes_eq code) langs) refl
  where
    by : (o : Option ℕ) → position (bytes_eq code) langs ≡ o → o ≡ None
    by None e = refl
    by (Some k) e =
        let both : true ≡ false = sym (found (bytes_eq code) langs k e).0 ∙ none in
        absurd (cc both)

-- the set of a language that isn't listed
pub unlisted_set : (langs : List (List ℕ)) (code : List ℕ) → list_any (bytes_eq code) langs ≡ false → bits_of langs code ≡ 0
unlisted_set langs code none = rw (no_place langs code none) refl

-- and the bit by which it is asked for
pub unlisted_place : (langs : List (List ℕ)) (code : List ℕ) → list_any (bytes_eq code) langs ≡ false → bit_of langs code ≡ 127
unlisted_place langs code none = rw (no_place langs code none) refl
