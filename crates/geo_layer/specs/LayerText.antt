-- The layer that a JSON text stands for, or its first fault.
use Rattle.std.specs.Prelude.{ℕ, Bool, true, false, List, [], ◌∷◌, ◌&&◌, nat_lt, nat_le, length, codes, fold, map, if◌then◌else◌, Option, Some, None, option_and_then, option_map, Result, Ok, ok_or}
use Rattle.std.specs.Cmp.Lexicographic.{slice_cmp}
use Rattle.std.specs.Ordering.{match_ordering, nat_cmp}
use Rattle.serde_json.specs.Data.{Data, Members, no_members}
use Rattle.serde_json.specs.Data as json
use Rattle.serde_json.specs.Find.{as_str, as_array, as_object}
use Rattle.geo_text.specs.Numbers.{below}
use Rattle.geo_text.specs.Tokens.{Replacements, tokens_of}
use Rattle.geo_layer.specs.Json.{data_of, member, natural_of, list_of, each_of, ◌>>=◌, wanted, optional}
use Rattle.geo_layer.specs.Langs.{all_differ}
use Rattle.geo_layer.specs.Layer.{LayerView, is_name}
use Rattle.geo_layer.specs.declared.layer.LayerFault.{LayerFault}
use Rattle.geo_layer.specs.declared.layer.LayerFault.TheVariants as fault

-- a string that is a name
abbrev pub name_of : Data → Option (List ℕ)
name_of d = option_and_then (λ text. if is_name text then Some text else None) (as_str d)

-- an array of at most 64 names
abbrev pub stack_of : Data → Option (Option (List (List ℕ)))
stack_of d = option_and_then (λ items. if nat_le (length (list_of items)) 64 then option_map Some (each_of name_of (list_of items)) else None) (as_array d)

-- the token of a list of one token
abbrev pub the_one : List (List ℕ) → Option (List ℕ)
the_one (token ∷ []) = Some token
the_one tokens = None

-- the token of a text that has one token
abbrev pub one_token : List ℕ → Option (List ℕ)
one_token text = the_one (tokens_of text)

-- each member as a token and what it is replaced by
abbrev pub pairs_of : Members → Option Replacements
pairs_of no_members = Some []
pairs_of (json.member key d members) =
    option_and_then (λ from. option_and_then (λ to. option_and_then (λ more. Some ((from, to) ∷ more)) (pairs_of members)) (option_and_then one_token (as_str d))) (one_token key)

-- the pair at its place by the token
abbrev pub with_pair : List ℕ × List ℕ → Replacements → Replacements
with_pair p [] = p ∷ []
with_pair p (q ∷ qs) = match_ordering (slice_cmp nat_cmp p.0 q.0) (p ∷ q ∷ qs) (p ∷ qs) (q ∷ with_pair p qs)

-- the pairs rising by the token, where no two have the same
abbrev pub distinct_pairs : Replacements → Option Replacements
distinct_pairs pairs = if all_differ (map (λ p. p.0) pairs) then Some (fold (λ ps p. with_pair p ps) [] pairs) else None

-- an object of at most 4,096 members of one token each, the keys' tokens all different
abbrev pub replacements_of : Data → Option Replacements
replacements_of d = option_and_then (λ members. option_and_then (λ pairs. if nat_le (length pairs) 4096 then distinct_pairs pairs else None) (pairs_of members)) (as_object d)

-- a whole number from 1 to 1,000,000,000
abbrev pub scale_of : Data → Option ℕ
scale_of d = option_and_then (λ n. if nat_le 1 n && nat_le n 1000000000 then Some n else None) (natural_of d)

-- the zoom of the last layer, or 0 where there is none
abbrev pub last_zoom : List LayerView → ℕ
last_zoom layers = fold (λ z layer. layer.zoom) 0 layers

-- the layer that a value stands for after these layers, or its first fault: Json, Name, Zoom, Falling, Stack, Tokens, TooMany, ScoreMax
abbrev pub layer_of_data : List LayerView → Data → Result LayerView LayerFault
layer_of_data before d =
    ok_or (as_object d) fault.Json >>= λ members.
    ok_or (option_and_then name_of (member (codes "name") d)) fault.Name >>= λ name.
    ok_or (option_and_then (below 17) (option_and_then natural_of (member (codes "zoom") d))) fault.Zoom >>= λ zoom.
    wanted (nat_le (last_zoom before) zoom) fault.Falling >>= λ _.
    optional stack_of None fault.Stack (member (codes "stack") d) >>= λ stack.
    optional replacements_of [] fault.Tokens (member (codes "tokens") d) >>= λ tokens.
    wanted (nat_lt (length before) 16) fault.TooMany >>= λ _.
    optional scale_of 15 fault.ScoreMax (member (codes "scoremax") d) >>= λ scoremax.
    Ok (record { name = name; zoom = zoom; stack = stack; scoremax = scoremax; tokens = tokens })

-- the fault is found before any room is asked for
abbrev pub needs_no_room : LayerFault → Bool
needs_no_room fault.Json = true
needs_no_room fault.Name = true
needs_no_room fault.Zoom = true
needs_no_room fault.Falling = true
needs_no_room fault.Stack = false
needs_no_room fault.Tokens = false
needs_no_room fault.TooMany = false
needs_no_room fault.ScoreMax = false

-- the layer that bytes stand for after these layers, or its first fault
abbrev pub layer_of : List LayerView → List ℕ → Result LayerView LayerFault
layer_of before bytes = ok_or (data_of bytes) fault.Json >>= λ d. layer_of_data before d
