-- The members of a feature's properties whose names begin with `carmen:text_`; whether a code of a language follows is looked at by who asks for it.
use denote.Ref.{Bor}
use Rattle.std.specs.Prelude.{ℕ, List, [], ◌∷◌, Bool, nat_eq, codes, if◌then◌else◌}
use Rattle.std.specs.List.{starts_with}
use Rattle.std.specs.Ordering.{nat_cmp, match_ordering}
use Rattle.std.specs.Cmp.Lexicographic.{slice_cmp}
use Rattle.serde_json.specs.Data.{Members, no_members, member}
use Rattle.feature_json.specs.Shape.{Shape, shape, shape_of}
use Rattle.feature_json.specs.declared.seen.Seen.{Seen}

-- the name begins with `carmen:text_`
abbrev pub is_own_name : List ℕ → Bool
is_own_name name = starts_with nat_eq name (codes "carmen:text_")

-- the members with such names and what is seen of each, in the order of the members, which is that of their names' bytes
abbrev pub own_members : Members → List (List ℕ × Shape)
own_members no_members = []
own_members (member name d members) = if is_own_name name then (name, shape d) ∷ own_members members else own_members members

-- such a name and what is seen of its value, where they are lent
abbrev pub own_entry : Bor (List ℕ) × Seen → List ℕ × Shape
own_entry (name, seen) = (name.now, shape_of seen)

-- a member put at its place in that order, instead of one of the same name
abbrev pub put_own : List ℕ → Shape → List (List ℕ × Shape) → List (List ℕ × Shape)
put_own k s [] = (k, s) ∷ []
put_own k s (o ∷ os) = match_ordering (slice_cmp nat_cmp k o.0) ((k, s) ∷ o ∷ os) ((o.0, s) ∷ os) (o ∷ put_own k s os)
