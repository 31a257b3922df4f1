-- What is seen of a JSON value without looking inside arrays and objects.
use Rattle.std.specs.Prelude.{ℕ, ℤ, List, Bool, Option, Some, None}
use Rattle.serde_json.specs.Data as of
use Rattle.serde_json.specs.Data.{Num, Data}
use Rattle.serde_json.specs.Find.{as_integer, as_u64}
use Rattle.feature_json.specs.Numbers.{num_of}
use Rattle.feature_json.specs.declared.seen.Seen.{Seen}
use Rattle.feature_json.specs.declared.seen.Seen.TheVariants as seen

-- null, a boolean, a number or a string with its value, or that it is an array or an object
pub data Shape : Type 0 where
  null : Shape
  boolean : Bool → Shape
  number : Num → Shape
  string : List ℕ → Shape
  array : Shape
  object : Shape

-- what is seen of a value
abbrev pub shape : Data → Shape
shape of.null = null
shape (of.boolean b) = boolean b
shape (of.number n) = number n
shape (of.string s) = string s
shape (of.array ds) = array
shape (of.object ms) = object

-- what a `Seen` says
abbrev pub shape_of : Seen → Shape
shape_of seen.Null = null
shape_of (seen.Bool b) = boolean b
shape_of (seen.Number x) = number (num_of x)
shape_of (seen.Text s) = string s.now
shape_of seen.Array = array
shape_of seen.Object = object

-- a value that is null counts as absent
abbrev pub present : Option Shape → Option Shape
present None = None
present (Some null) = None
present (Some (boolean b)) = Some (boolean b)
present (Some (number n)) = Some (number n)
present (Some (string s)) = Some (string s)
present (Some array) = Some array
present (Some object) = Some object

-- the text of a string
abbrev pub text_of : Shape → Option (List ℕ)
text_of null = None
text_of (boolean b) = None
text_of (number n) = None
text_of (string s) = Some s
text_of array = None
text_of object = None

-- a number that is a whole number
abbrev pub whole_of : Shape → Option ℤ
whole_of null = None
whole_of (boolean b) = None
whole_of (number n) = as_integer n
whole_of (string s) = None
whole_of array = None
whole_of object = None

-- a whole number from 0 on
abbrev pub natural_of : Shape → Option ℕ
natural_of null = None
natural_of (boolean b) = None
natural_of (number n) = as_u64 n
natural_of (string s) = None
natural_of array = None
natural_of object = None
