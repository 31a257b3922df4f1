-- The names of a feature's texts in languages of their own rise by their bytes.
use Rattle.std.proofs.Common.{◌≡◌, ℕ, List, [], ◌∷◌, Bool, true, false, cond, Option, Some, None, Ordering, Less, Equal, Greater, nat_cmp, refl, subst}
use Rattle.std.specs.Prelude.{⊤, IfSome, codes, option_map, option_and_then}
use Rattle.std.specs.Cmp.Lexicographic.{slice_cmp}
use Rattle.std.specs.Ordering.{match_ordering}
use Rattle.std.specs.Str.{is_utf8}
use Rattle.json.specs.Lex.{tokens}
use Rattle.json.specs.Json as json
use Rattle.serde_json.specs.Data.{Data, null, boolean, number, string, array, object, Items, no_items, item, Members, no_members, member, put}
use Rattle.serde_json.specs.Find.{get_member, as_object}
use Rattle.serde_json.specs.Read.{number_of, of_json, of_items, of_members, max_depth, read}
use Rattle.geo_layer.specs.Json.{data_of}
use Rattle.feature_json.specs.Shape.{Shape, shape}
use Rattle.feature_json.specs.Own.{is_own_name, own_members}
use Rattle.feature_json.specs.Reading.{Above, Rising}
use Rattle.feature_json.specs.Said.{Said, SaidProperties, said, properties_said}
use Rattle.feature_json.proofs.Owned.{Rising-put}

-- ---- values in which each object has rising members

abbrev mutual
  Ordered : Data → Type 0
  Ordered null = ⊤
  Ordered (boolean b) = ⊤
  Ordered (number n) = ⊤
  Ordered (string s) = ⊤
  Ordered (array ds) = OrderedItems ds
  Ordered (object ms) = Rising ms × OrderedMembers ms

  OrderedItems : Items → Type 0
  OrderedItems no_items = ⊤
  OrderedItems (item d ds) = Ordered d × OrderedItems ds

  OrderedMembers : Members → Type 0
  OrderedMembers no_members = ⊤
  OrderedMembers (member k d ms) = Ordered d × OrderedMembers ms

-- an object's members
abbrev OrderedObject : Members → Type 0
OrderedObject ms = Rising ms × OrderedMembers ms

some_map : {A B : Type 0} (P : A → Type 0) (Q : B → Type 0) (h : A → B) → ((a : A) → P a → Q (h a)) → (o : Option A) → IfSome o P → IfSome (option_map h o) Q
some_map P Q h says None x = tt
some_map P Q h says (Some a) x = says a x

some_then : {A B : Type 0} (P : A → Type 0) (Q : B → Type 0) (h : A → Option B) → ((a : A) → P a → IfSome (h a) Q) → (o : Option A) → IfSome o P → IfSome (option_and_then h o) Q
some_then P Q h says None x = tt
some_then P Q h says (Some a) x = says a x

anything : {A : Type 0} (o : Option A) → IfSome o (λ _. ⊤)
anything None = tt
anything (Some a) = tt

of_some : {A B : Type 0} (Q : B → Type 0) (h : A → Option B) → ((a : A) → IfSome (h a) Q) → (o : Option A) → IfSome (option_and_then h o) Q
of_some Q h says None = tt
of_some Q h says (Some a) = says a

-- ---- values that were read

ordered_at : (o : Ordering) (a b c : Members) → OrderedMembers a → OrderedMembers b → OrderedMembers c → OrderedMembers (match_ordering o a b c)
ordered_at Less a b c p q r = p
ordered_at Equal a b c p q r = q
ordered_at Greater a b c p q r = r

ordered_put : (k : List ℕ) (d : Data) (ms : Members) → Ordered d → OrderedMembers ms → OrderedMembers (put k d ms)
ordered_put k d no_members p q = (p, tt)
ordered_put k d (member l e ms) p q = ordered_at _ (member k d (member l e ms)) (member l d ms) (member l e (put k d ms)) (p, q) (p, q.1) (q.0, ordered_put k d ms p q.1)

mutual
  ordered_json : (j : json.Json) → IfSome (of_json j) Ordered
  ordered_json json.null = tt
  ordered_json (json.boolean b) = tt
  ordered_json (json.number s) = some_map (λ _. ⊤) Ordered number (λ a x. tt) (number_of s) (anything (number_of s))
  ordered_json (json.string s) = tt
  ordered_json (json.array js) = some_map OrderedItems Ordered array (λ a x. x) _ (ordered_items js)
  ordered_json (json.object ms) = some_map OrderedObject Ordered object (λ a x. x) _ (ordered_members ms no_members (tt, tt))

  ordered_items : (js : json.Items) → IfSome (of_items js) OrderedItems
  ordered_items json.no_items = tt
  ordered_items (json.item j js) = some_then Ordered OrderedItems _ (λ d x. some_map OrderedItems OrderedItems (item d) (λ ds y. (x, y)) _ (ordered_items js)) _ (ordered_json j)

  ordered_members : (ms : json.Members) (found : Members) → OrderedObject found → IfSome (of_members ms found) OrderedObject
  ordered_members json.no_members found h = h
  ordered_members (json.member k j ms) found h = some_then Ordered OrderedObject _ (λ d x. ordered_members ms (put k d found) (Rising-put k d found h.0, ordered_put k d found x h.1)) _ (ordered_json j)

ordered_read : (text : List ℕ) → IfSome (read text) Ordered
ordered_read text = of_some Ordered of_json ordered_json (option_and_then (λ p. json.if_last p.0 p.1) (json.value max_depth (tokens text)))

ordered_where : (b : Bool) (o : Option Data) → IfSome o Ordered → IfSome (cond b o None) Ordered
ordered_where true o h = h
ordered_where false o h = tt

ordered_data : (bytes : List ℕ) → IfSome (data_of bytes) Ordered
ordered_data bytes = ordered_where (is_utf8 bytes) (read bytes) (ordered_read bytes)

-- ---- looking into them

ordered_object : (d : Data) → Ordered d → IfSome (as_object d) OrderedObject
ordered_object null h = tt
ordered_object (boolean b) h = tt
ordered_object (number n) h = tt
ordered_object (string s) h = tt
ordered_object (array ds) h = tt
ordered_object (object ms) h = h

found_at : (o : Ordering) (a b c : Option Data) → IfSome a Ordered → IfSome b Ordered → IfSome c Ordered → IfSome (match_ordering o a b c) Ordered
found_at Less a b c p q r = p
found_at Equal a b c p q r = q
found_at Greater a b c p q r = r

ordered_member : (k : List ℕ) (ms : Members) → OrderedMembers ms → IfSome (get_member k ms) Ordered
ordered_member k no_members h = tt
ordered_member k (member l e ms) h = found_at _ (get_member k ms) (Some e) (get_member k ms) (ordered_member k ms h.1) h.0 (ordered_member k ms h.1)

-- ---- the texts in languages of their own

-- the name comes before those of these texts
abbrev pub IsBefore : List ℕ → List (List ℕ × Shape) → Type 0
IsBefore name [] = ⊤
IsBefore name (m ∷ own) = (slice_cmp nat_cmp name m.0 ≡ Less) × IsBefore name own

-- all are named as texts in a language, and the names rise by their bytes
abbrev pub OwnRise : List (List ℕ × Shape) → Type 0
OwnRise [] = ⊤
OwnRise (m ∷ own) = (is_own_name m.0 ≡ true) × IsBefore m.0 own × OwnRise own

before_at : (b : Bool) (name l : List ℕ) (d : Data) (own : List (List ℕ × Shape)) → slice_cmp nat_cmp name l ≡ Less → IsBefore name own → IsBefore name (cond b ((l, shape d) ∷ own) own)
before_at true name l d own less h = (less, h)
before_at false name l d own less h = h

before_own : (name : List ℕ) (ms : Members) → Above name ms → IsBefore name (own_members ms)
before_own name no_members h = tt
before_own name (member l d ms) h = before_at (is_own_name l) name l d (own_members ms) h.0 (before_own name ms h.1)

rise_at : (b : Bool) (l : List ℕ) (d : Data) (own : List (List ℕ × Shape)) → is_own_name l ≡ b → IsBefore l own → OwnRise own → OwnRise (cond b ((l, shape d) ∷ own) own)
rise_at true l d own is before h = (is, before, h)
rise_at false l d own is before h = h

own_rise : (ms : Members) → Rising ms → OwnRise (own_members ms)
own_rise no_members h = tt
own_rise (member l d ms) h = rise_at (is_own_name l) l d (own_members ms) refl (before_own l ms h.0) (own_rise ms h.1)

-- ---- what bytes say

-- of the properties
abbrev PropertiesRise : SaidProperties → Type 0
PropertiesRise p = OwnRise p.values.own

-- of a feature
abbrev SaidRise : Said → Type 0
SaidRise s = IfSome s.properties PropertiesRise

said_members : (ms : Members) → OrderedObject ms → IfSome (option_map properties_said (option_and_then as_object (get_member (codes "properties") ms))) PropertiesRise
said_members ms h = some_map OrderedObject PropertiesRise properties_said (λ found x. own_rise found x.0) _ (some_then Ordered OrderedObject as_object ordered_object _ (ordered_member (codes "properties") ms h.1))

said_rise : (bytes : List ℕ) → IfSome (said bytes) SaidRise
said_rise bytes = some_map OrderedObject SaidRise _ said_members _ (some_then Ordered OrderedObject as_object ordered_object _ (ordered_data bytes))

-- the names of a feature's own texts rise
pub own_names_rise : (bytes : List ℕ) (s : Said) (p : SaidProperties) → said bytes ≡ Some s → s.properties ≡ Some p → OwnRise p.values.own
own_names_rise bytes s p is has = subst (λ o. IfSome o PropertiesRise) has (subst (λ o. IfSome o SaidRise) is (said_rise bytes))
