-- Objects and arrays by their first token, and what a look-up finds after a put.
use Rattle.std.proofs.Common.{◌≡◌, ◌-◌, ◌<◌, ℕ, List, ◌∷◌, length, true, false, bytes_eq, Option, Some, None, option_map, true≢false, refl, sym, ap, ap₂, subst, ◌∙◌}
use Rattle.std.proofs.lemmas.Slice.Eq.{bytes_eq-Decides}
use Rattle.json.specs.Token.{Token}
use Rattle.json.specs.Json as json
use Rattle.json.specs.Json.{Parse, value, value_with, parse_map, members, items}
use Rattle.json.proofs.Grammar.{value_is, value-begin_object, value-begin_array}
use Rattle.std.specs.Prelude.{⊤}
use Rattle.serde_json.specs.Data.{Data, Num, Items, Members, put, array, object, number, no_members}
use Rattle.serde_json.specs.Find.{as_object, as_array, get_member}
use Rattle.serde_json.specs.Read.{of_json, of_items, of_members, number_of, converted}
use Rattle.serde_json.proofs.Views.{get_member-put, get_member-put_other}
use Rattle.feature_json.specs.Reading.{begins_object, begins_array}
use Rattle.feature_json.proofs.Turns.{converted-array, converted-object}

-- ---- names

-- texts that are equal by their bytes are one
pub same : (k q : List ℕ) → true ≡ bytes_eq k q → k ≡ q
same k q e = (bytes_eq-Decides k q).0 (sym e)

differ : (k q : List ℕ) → bytes_eq k q ≡ false → q ≡ k → ⊥
differ k q e is = absurd (true≢false (sym ((bytes_eq-Decides k q).1 (sym is)) ∙ e))

-- the member at the name that was put
pub at_name : (k q : List ℕ) (d : Data) (ms : Members) → k ≡ q → get_member q (put k d ms) ≡ Some d
at_name k q d ms is = ap (λ x. get_member x (put k d ms)) (sym is) ∙ get_member-put k d ms

-- the member at another name
pub at_other : (k q : List ℕ) (d : Data) (ms : Members) → bytes_eq k q ≡ false → get_member q (put k d ms) ≡ get_member q ms
at_other k q d ms e = get_member-put_other q k d ms (differ k q e)

-- ---- objects

-- the token is the brace
is_object : (t : Token) → true ≡ begins_object t → t ≡ Token.begin_object
is_object Token.begin_object e = refl
is_object Token.end_object e = absurd (true≢false e)
is_object Token.begin_array e = absurd (true≢false e)
is_object Token.end_array e = absurd (true≢false e)
is_object (Token.key s) e = absurd (true≢false e)
is_object (Token.string s) e = absurd (true≢false e)
is_object (Token.number s) e = absurd (true≢false e)
is_object (Token.boolean b) e = absurd (true≢false e)
is_object Token.null e = absurd (true≢false e)
is_object Token.bad e = absurd (true≢false e)

abbrev NoObject : Option (Data × List Token) → Type 0
NoObject None = ⊤
NoObject (Some p) = as_object p.0 ≡ None

no_object_in_array : (o : Option (Items × List Token)) → NoObject (parse_map array o)
no_object_in_array None = tt
no_object_in_array (Some p) = refl

no_object_in_number : (ts : List Token) (o : Option Num) → NoObject (option_map (λ b. (b, ts)) (option_map number o))
no_object_in_number ts None = tt
no_object_in_number ts (Some n) = refl

no_object_with : (a : Parse json.Items) (o : Parse json.Members) (t : Token) (ts : List Token) → false ≡ begins_object t → NoObject (converted of_json (value_with a o (t ∷ ts)))
no_object_with a o Token.begin_object ts e = absurd (true≢false (sym e))
no_object_with a o Token.end_object ts e = tt
no_object_with a o Token.begin_array ts e = subst NoObject (sym (converted-array (a ts))) (no_object_in_array (converted of_items (a ts)))
no_object_with a o Token.end_array ts e = tt
no_object_with a o (Token.key s) ts e = tt
no_object_with a o (Token.string s) ts e = refl
no_object_with a o (Token.number s) ts e = no_object_in_number ts (number_of s)
no_object_with a o (Token.boolean b) ts e = refl
no_object_with a o Token.null ts e = refl
no_object_with a o Token.bad ts e = tt

-- what begins with another token is no object
pub no_object : (depth : ℕ) (t : Token) (ts r : List Token) (d : Data) → false ≡ begins_object t → converted of_json (value depth (t ∷ ts)) ≡ Some (d, r) → as_object d ≡ None
no_object depth t ts r d e is = subst NoObject (sym (ap (converted of_json) (value_is depth (t ∷ ts))) ∙ is) (no_object_with _ _ t ts e)

-- what begins with a brace is an object of the members that follow
pub object_opened : (depth : ℕ) (t : Token) (ts : List Token) → true ≡ begins_object t → 0 < depth
    → converted of_json (value depth (t ∷ ts)) ≡ parse_map object (converted (λ ms. of_members ms no_members) (members (value (depth - 1)) (length ts) ts))
object_opened depth t ts opens some = ap (converted of_json) (ap (λ k. value depth (k ∷ ts)) (is_object t opens) ∙ value-begin_object depth ts some) ∙ converted-object (members (value (depth - 1)) (length ts) ts)

-- but where it nests too deep
pub object_too_deep : (depth : ℕ) (t : Token) (ts : List Token) → true ≡ begins_object t → depth ≡ 0 → converted of_json (value depth (t ∷ ts)) ≡ None
unfolding value
object_too_deep depth t ts opens none = ap (converted of_json) (ap₂ (λ n k. value n (k ∷ ts)) none (is_object t opens))

-- ---- arrays

-- the token is the bracket
is_array : (t : Token) → true ≡ begins_array t → t ≡ Token.begin_array
is_array Token.begin_object e = absurd (true≢false e)
is_array Token.end_object e = absurd (true≢false e)
is_array Token.begin_array e = refl
is_array Token.end_array e = absurd (true≢false e)
is_array (Token.key s) e = absurd (true≢false e)
is_array (Token.string s) e = absurd (true≢false e)
is_array (Token.number s) e = absurd (true≢false e)
is_array (Token.boolean b) e = absurd (true≢false e)
is_array Token.null e = absurd (true≢false e)
is_array Token.bad e = absurd (true≢false e)

abbrev NoArray : Option (Data × List Token) → Type 0
NoArray None = ⊤
NoArray (Some p) = as_array p.0 ≡ None

no_array_in_object : (o : Option (Members × List Token)) → NoArray (parse_map object o)
no_array_in_object None = tt
no_array_in_object (Some p) = refl

no_array_in_number : (ts : List Token) (o : Option Num) → NoArray (option_map (λ b. (b, ts)) (option_map number o))
no_array_in_number ts None = tt
no_array_in_number ts (Some n) = refl

no_array_with : (a : Parse json.Items) (o : Parse json.Members) (t : Token) (ts : List Token) → false ≡ begins_array t → NoArray (converted of_json (value_with a o (t ∷ ts)))
no_array_with a o Token.begin_array ts e = absurd (true≢false (sym e))
no_array_with a o Token.end_object ts e = tt
no_array_with a o Token.begin_object ts e = subst NoArray (sym (converted-object (o ts))) (no_array_in_object (converted (λ ms. of_members ms no_members) (o ts)))
no_array_with a o Token.end_array ts e = tt
no_array_with a o (Token.key s) ts e = tt
no_array_with a o (Token.string s) ts e = refl
no_array_with a o (Token.number s) ts e = no_array_in_number ts (number_of s)
no_array_with a o (Token.boolean b) ts e = refl
no_array_with a o Token.null ts e = refl
no_array_with a o Token.bad ts e = tt

-- what begins with another token is no array
pub no_array : (depth : ℕ) (t : Token) (ts r : List Token) (d : Data) → false ≡ begins_array t → converted of_json (value depth (t ∷ ts)) ≡ Some (d, r) → as_array d ≡ None
no_array depth t ts r d e is = subst NoArray (sym (ap (converted of_json) (value_is depth (t ∷ ts))) ∙ is) (no_array_with _ _ t ts e)

-- what begins with a bracket is an array of the items that follow
pub array_opened : (depth : ℕ) (t : Token) (ts : List Token) → true ≡ begins_array t → 0 < depth
    → converted of_json (value depth (t ∷ ts)) ≡ parse_map array (converted of_items (items (value (depth - 1)) (length ts) ts))
array_opened depth t ts opens some = ap (converted of_json) (ap (λ k. value depth (k ∷ ts)) (is_array t opens) ∙ value-begin_array depth ts some) ∙ converted-array (items (value (depth - 1)) (length ts) ts)

-- but where it nests too deep
pub array_too_deep : (depth : ℕ) (t : Token) (ts : List Token) → true ≡ begins_array t → depth ≡ 0 → converted of_json (value depth (t ∷ ts)) ≡ None
unfolding value
array_too_deep depth t ts opens none = ap (converted of_json) (ap₂ (λ n k. value n (k ∷ ts)) none (is_array t opens))
