-- A worked job: `main street springfield`, with the layers place (0) and street (1), which are compatible.
use Rattle.std.specs.Prelude.{List, [], ◌∷◌, replicate}
use Rattle.geo_base.specs.declared.job.Piece.{Piece}
use Rattle.geo_base.specs.declared.job.Job.{Job}

-- the place `main`, the place `springfield` and the street `main street`
abbrev pub worked_pieces : List Piece
worked_pieces =
    record { layer = 0; from = 0; to = 1; first = 7; last = 8; top_value = 9600; top_score = 1 }
    ∷ record { layer = 0; from = 2; to = 3; first = 9; last = 10; top_value = 10000; top_score = 3 }
    ∷ record { layer = 1; from = 0; to = 2; first = 4; last = 5; top_value = 20000; top_score = 5 }
    ∷ []

abbrev pub worked_job : Job
worked_job = record { tokens = 3; stacks = 2 ∷ 1 ∷ replicate 14 0; pieces = worked_pieces }
