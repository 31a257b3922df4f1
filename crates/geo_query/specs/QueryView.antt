-- Queries as data, and what their type keeps.
use Rattle.std.specs.Prelude.{ℕ, ◌<◌, ◌≤◌, Bool, List, length, Option}
use Rattle.geo_base.specs.TileBox.{BoxView}

-- a query: its tokens, whether its last run may be the beginning of a phrase, the language that it asks for, and the box in which its links lie
pub record QueryView : Type 0 where
  pub tokens : List (List ℕ)
  pub auto : Bool
  pub lang : Option (List ℕ)
  pub bounds : Option BoxView

-- what the type of a query keeps
pub record IsQuery (q : QueryView) : Type 0 where
  pub some : 0 < length q.tokens
  pub few : length q.tokens ≤ 20
