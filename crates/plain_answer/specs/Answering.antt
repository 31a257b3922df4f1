-- The answer to a query over a head and a table of features, within a grid limit.
use Rattle.std.specs.Prelude.{ℕ, length, nat_lt, if◌then◌else◌, Result, Ok, Err}
use Rattle.geo_base.specs.Answer.{best}
use Rattle.geo_base.specs.declared.answer.Answer.{Answer}
use Rattle.geo_base.specs.declared.grids.Grids.{Grids}
use Rattle.geo_layer.specs.Layer.{compat}
use Rattle.geo_layer.specs.declared.head.Head.{Head}
use Rattle.geo_query.specs.QueryView.{QueryView}
use Rattle.feature_reader.specs.Table.{Table}
use Rattle.plain_answer.specs.Links.{links}
use Rattle.plain_answer.specs.Count.{count}

-- the answer: the grid count and the limit where the one exceeds the other; else the 40 best contexts of the query's links, one per target
abbrev pub answer_of : Head → Table → ℕ → QueryView → Result Answer Grids
answer_of head table limit q =
    if nat_lt limit (count head table q)
    then Err (record { total = count head table q; limit = limit })
    else Ok (record { tokens = length q.tokens; contexts = best (compat head.layers) (links head table q) })
