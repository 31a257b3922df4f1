-- Worked searches: jobs with the cells of their pieces, and what they find, written by hand.
use Rattle.std.specs.Prelude.{ℕ, List, [], ◌∷◌, map, replicate}
use Rattle.geo_base.specs.declared.link.Link.{Link}
use Rattle.geo_base.specs.declared.cells.Cell.{Cell}
use Rattle.geo_base.specs.declared.job.Job.{Job}
use Rattle.geo_base.specs.Lists.{numbers_from}
use Rattle.geo_base.specs.Examples.{tile, springfield}

-- one token, which a phrase of layer 1 and one of layer 2 match
abbrev pub two_pieces : ℕ → Job
two_pieces score = record {
  tokens = 1;
  stacks = replicate 16 65535;
  pieces = record { layer = 1; from = 0; to = 1; first = 0; last = 1; top_value = 10000; top_score = 0 }
      ∷ record { layer = 2; from = 0; to = 1; first = 0; last = 1; top_value = 10000; top_score = score } ∷ [];
}

abbrev pub place_cell : ℕ → ℕ → Cell
place_cell score id = record { id = id; tile = tile 6 1 1; value = 10000; score = score }

-- one place in layer 1, and 40 in layer 2 with a score of 5
abbrev pub scored_cells : List (List Cell)
scored_cells = (place_cell 0 1 ∷ []) ∷ map (place_cell 5) (numbers_from 1 40) ∷ []

abbrev pub scored_places : List (List Link)
scored_places = map (λ id. springfield 5 (tile 6 1 1) id ∷ []) (numbers_from 1 40)

-- the same without scores
abbrev pub even_cells : List (List Cell)
even_cells = (place_cell 0 1 ∷ []) ∷ map (place_cell 0) (numbers_from 2 40) ∷ []

abbrev pub even_places : List (List Link)
even_places = (record { layer = 1; from = 0; to = 1; id = 1; tile = tile 6 1 1; value = 10000; score = 0 } ∷ []) ∷ map (λ id. springfield 0 (tile 6 1 1) id ∷ []) (numbers_from 2 39)

-- three tokens, of which a layer each matches one
abbrev pub three_pieces : Job
three_pieces = record {
  tokens = 3;
  stacks = replicate 16 65535;
  pieces = record { layer = 0; from = 2; to = 3; first = 0; last = 1; top_value = 10000; top_score = 0 }
      ∷ record { layer = 1; from = 1; to = 2; first = 0; last = 1; top_value = 10000; top_score = 3 }
      ∷ record { layer = 2; from = 0; to = 1; first = 0; last = 1; top_value = 10000; top_score = 9 } ∷ [];
}

abbrev pub region_link : Link
region_link = record { layer = 0; from = 2; to = 3; id = 1; tile = tile 4 1 1; value = 10000; score = 0 }

abbrev pub town_link : ℕ → Link
town_link y = record { layer = 1; from = 1; to = 2; id = 2; tile = tile 6 5 y; value = 10000; score = 3 }

abbrev pub street_link : Link
street_link = record { layer = 2; from = 0; to = 1; id = 3; tile = tile 6 5 6; value = 10000; score = 9 }

-- a street on a tile of a region, and a town in the same row or in another
abbrev pub three_cells : ℕ → List (List Cell)
three_cells y = (record { id = 1; tile = tile 4 1 1; value = 10000; score = 0 } ∷ [])
    ∷ (record { id = 2; tile = tile 6 5 y; value = 10000; score = 3 } ∷ [])
    ∷ (record { id = 3; tile = tile 6 5 6; value = 10000; score = 9 } ∷ []) ∷ []

abbrev pub street_in_town : List (List Link)
street_in_town = (street_link ∷ town_link 6 ∷ region_link ∷ []) ∷ (town_link 6 ∷ region_link ∷ []) ∷ (region_link ∷ []) ∷ []

abbrev pub street_beside_town : List (List Link)
street_beside_town = (street_link ∷ region_link ∷ []) ∷ (town_link 7 ∷ region_link ∷ []) ∷ (region_link ∷ []) ∷ []
