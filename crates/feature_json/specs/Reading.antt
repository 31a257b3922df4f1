-- For private contracts alone: tokens that open something, and members that rise.
use Rattle.std.specs.Prelude.{◌≡◌, ℕ, List, Bool, true, false, Result, Err, ⊤}
use Rattle.std.specs.Ordering.{nat_cmp}
use Rattle.std.specs.declared.cmp.Ordering.TheVariants.{Less}
use Rattle.std.specs.Cmp.Lexicographic.{slice_cmp}
use Rattle.json.specs.Token.{Token}
use Rattle.serde_json.specs.Data.{Members, no_members, member}
use Rattle.feature_json.specs.declared.stop.Stop.{Stop}
use Rattle.feature_json.specs.declared.stop.Stop.TheVariants as stop

-- the text is no JSON, and memory was not at fault
abbrev pub IsInvalid : {T : Type 0} → Result T Stop → Type 0
IsInvalid result = result ≡ Err stop.Invalid

-- an object begins
abbrev pub begins_object : Token → Bool
begins_object Token.begin_object = true
begins_object Token.end_object = false
begins_object Token.begin_array = false
begins_object Token.end_array = false
begins_object (Token.key s) = false
begins_object (Token.string s) = false
begins_object (Token.number s) = false
begins_object (Token.boolean b) = false
begins_object Token.null = false
begins_object Token.bad = false

-- an array begins
abbrev pub begins_array : Token → Bool
begins_array Token.begin_object = false
begins_array Token.end_object = false
begins_array Token.begin_array = true
begins_array Token.end_array = false
begins_array (Token.key s) = false
begins_array (Token.string s) = false
begins_array (Token.number s) = false
begins_array (Token.boolean b) = false
begins_array Token.null = false
begins_array Token.bad = false

-- the name comes before those of the members
abbrev pub Above : List ℕ → Members → Type 0
Above name no_members = ⊤
Above name (member other d members) = (slice_cmp nat_cmp name other ≡ Less) × Above name members

-- the names of the members rise by their bytes
abbrev pub Rising : Members → Type 0
Rising no_members = ⊤
Rising (member name d members) = Above name members × Rising members
