-- What bytes of JSON stand for, and looking into it.
use Rattle.std.specs.Prelude.{ℕ, ℤ, Bool, List, [], ◌∷◌, Option, Some, None, option_and_then, if◌then◌else◌, Result, Ok, Err}
use Rattle.std.specs.Str.{is_utf8}
use Rattle.serde_json.specs.Read.{read}
use Rattle.serde_json.specs.Data.{Data, null, boolean, number, string, array, object, Items, no_items, item}
use Rattle.serde_json.specs.Find.{get, as_number, as_integer, as_u64}

-- what the bytes stand for: nothing where they aren't UTF-8 or no JSON text
abbrev pub data_of : List ℕ → Option Data
data_of bytes = if is_utf8 bytes then read bytes else None

-- a value that is null counts as absent
abbrev pub present : Option Data → Option Data
present None = None
present (Some null) = None
present (Some (boolean b)) = Some (boolean b)
present (Some (number n)) = Some (number n)
present (Some (string s)) = Some (string s)
present (Some (array ds)) = Some (array ds)
present (Some (object ms)) = Some (object ms)

-- the member of this name, where there is one that isn't null
abbrev pub member : List ℕ → Data → Option Data
member name d = present (get name d)

-- a number that is a whole number
abbrev pub whole_of : Data → Option ℤ
whole_of d = option_and_then as_integer (as_number d)

-- a whole number from 0 on
abbrev pub natural_of : Data → Option ℕ
natural_of d = option_and_then as_u64 (as_number d)

-- the values of an array as a list
abbrev pub list_of : Items → List Data
list_of no_items = []
list_of (item d ds) = d ∷ list_of ds

-- each value that f gives, where it gives one for each
abbrev pub each_of : {A B : Type 0} → (A → Option B) → List A → Option (List B)
each_of f [] = Some []
each_of f (x ∷ xs) = option_and_then (λ y. option_and_then (λ ys. Some (y ∷ ys)) (each_of f xs)) (f x)

-- what comes after, where there was no fault before
infixl 10 ◌>>=◌
abbrev pub ◌>>=◌ : {A B E : Type 0} → Result A E → (A → Result B E) → Result B E
(Ok x) >>= f = f x
(Err e) >>= f = Err e

-- the fault, unless the test holds
abbrev pub wanted : {E : Type 0} → Bool → E → Result (Unit {0}) E
wanted test fault = if test then Ok tt else Err fault

-- a value that is there and of its form, or what stands for an absent one
abbrev pub optional : {B E : Type 0} → (Data → Option B) → B → E → Option Data → Result B E
optional form default fault None = Ok default
optional form default fault (Some d) = elim (form d) [ None ↦ Err fault | Some x ↦ Ok x ]
