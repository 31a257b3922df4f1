-- Queries that serve as examples.
use Rattle.std.specs.Prelude.{ℕ, Bool, true, List, [], ◌∷◌, codes, Option, None}
use Rattle.geo_base.specs.TileBox.{BoxView}
use Rattle.geo_query.specs.QueryView.{QueryView}

-- "new y", whose last run may or may not be the beginning of a phrase
abbrev pub new_y : Bool → QueryView
new_y auto = record { tokens = codes "new" ∷ codes "y" ∷ []; auto = auto; lang = None; bounds = None }

-- "usa" in a language and in a box
abbrev pub usa : Option (List ℕ) → Option BoxView → QueryView
usa lang bounds = record { tokens = codes "usa" ∷ []; auto = true; lang = lang; bounds = bounds }

-- a query of one token
abbrev pub one_token : List ℕ → QueryView
one_token token = record { tokens = token ∷ []; auto = true; lang = None; bounds = None }

-- the box of one tile in the middle of the world
abbrev pub middle : BoxView
middle = record { z = 7; x0 = 64; y0 = 64; x1 = 64; y1 = 64 }
