-- The number that a `Number` holds.
use Rattle.serde_json.specs.Data.{Num, unsigned, negative, float}
use Rattle.feature_json.specs.declared.number.Number.{Number}
use Rattle.feature_json.specs.declared.number.Number.TheVariants.{Unsigned, Negative, Float}

-- the number as the reading of JSON has it
abbrev pub num_of : Number → Num
num_of (Unsigned n) = unsigned n
num_of (Negative z) = negative z
num_of (Float x) = float x
