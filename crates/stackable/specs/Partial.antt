-- The tree of partials: lists of piece numbers, from deep to shallow.
use Rattle.std.specs.Prelude.{◌≡◌, ℕ, Bool, true, zero, suc, ◌+◌, ◌*◌, ◌&&◌, ◌||◌, nat_le, nat_lt, nat_eq, List, [], ◌∷◌, ◌++◌, length, map, filter, flat_map, filter_map, sum_by, count_by, slice_index_or, Option, Some, None, Contains}
use Rattle.std.specs.List.{list_any, list_all, AllZip}
use Rattle.std.specs.Ordering.{nat_cmp, ordering_then}
use Rattle.std.specs.declared.cmp.Ordering.{Ordering}
use Rattle.geo_base.specs.declared.link.Link.{Link}
use Rattle.geo_base.specs.declared.cells.Cell.{Cell}
use Rattle.geo_base.specs.declared.job.Piece.{Piece}
use Rattle.geo_base.specs.declared.job.Job.{Job}
use Rattle.geo_base.specs.Link.{stacks}
use Rattle.geo_base.specs.Chain.{IsChain, chains}
use Rattle.geo_base.specs.Order.{context_cmp, same_target}
use Rattle.geo_base.specs.Best.{first_of, best_of}
use Rattle.geo_base.specs.Job.{job_compat, piece_links, IsJobContext}

-- a piece that stands for none
abbrev pub no_piece : Piece
no_piece = record { layer = 0; from = 0; to = 0; first = 0; last = 0; top_value = 0; top_score = 0 }

-- the k-th piece
abbrev pub piece_at : Job → ℕ → Piece
piece_at job k = slice_index_or job.pieces k no_piece

-- the links of the k-th piece
abbrev pub links_at : Job → List (List Cell) → ℕ → List Link
links_at job cells k = piece_links (piece_at job k) (slice_index_or cells k [])

-- the numbers below n
abbrev pub numbers_below : ℕ → List ℕ
numbers_below zero = []
numbers_below (suc n) = numbers_below n ++ n ∷ []

-- the numbers of the pieces
abbrev pub piece_numbers : Job → List ℕ
piece_numbers job = numbers_below (length job.pieces)

-- piece k may stand below piece j: its layer is smaller and compatible, and their runs share no token
abbrev pub piece_below : Job → ℕ → ℕ → Bool
piece_below job j k =
    let p = piece_at job j in
    let q = piece_at job k in
    nat_lt q.layer p.layer && (nat_le p.to q.from || nat_le q.to p.from) && job_compat job p.layer q.layer

-- a partial: pieces of falling, pairwise compatible layers and pairwise disjoint runs
abbrev pub IsPartial : Job → List ℕ → Type 0
IsPartial job partial = IsChain (piece_below job) 16 (piece_numbers job) partial

-- all partials
abbrev pub partials : Job → List (List ℕ)
partials job = chains (piece_below job) 16 (piece_numbers job)

-- the pieces that may stand below each piece of the partial
abbrev pub candidates : Job → List ℕ → List ℕ
candidates job partial = filter (λ k. list_all (λ j. piece_below job j k) partial) (piece_numbers job)

-- the partial with each candidate at its end
abbrev pub children : Job → List ℕ → List (List ℕ)
children job partial = map (λ k. partial ++ k ∷ []) (candidates job partial)

-- the token lies in the piece's run
abbrev pub has_token : Piece → ℕ → Bool
has_token p t = nat_le p.from t && nat_lt t p.to

-- how many tokens lie in the run of a candidate
abbrev pub open_tokens : Job → List ℕ → ℕ
open_tokens job partial = count_by (λ t. list_any (λ k. has_token (piece_at job k) t) (candidates job partial)) (numbers_below job.tokens)

-- the top score of the partial's first piece
abbrev pub root_score : Job → List ℕ → ℕ
root_score job [] = 0
root_score job (k ∷ rest) = (piece_at job k).top_score

-- what no key of a context under the partial exceeds: 16 times the sum of the pieces' top values and of 10000 for each open token, which is the most that a token adds to a value, plus the score of the first piece, as a key is 16 times the values plus the target's score
abbrev pub bound : Job → List ℕ → ℕ
bound job partial = 16 * (sum_by (λ k. (piece_at job k).top_value) partial + 10000 * open_tokens job partial) + root_score job partial

-- the order of pieces as roots: greater bound, then smaller number
abbrev pub root_cmp : Job → ℕ → ℕ → Ordering
root_cmp job j k = ordering_then (nat_cmp (bound job (k ∷ [])) (bound job (j ∷ []))) (nat_cmp j k)

-- the roots: each piece as a partial of its own, in order
abbrev pub roots : Job → List (List ℕ)
roots job = map (λ k. k ∷ []) (best_of (root_cmp job) nat_eq (length job.pieces) (piece_numbers job))

-- the context lies under the partial: from deep to shallow it begins with one link of each piece in turn
pub record IsUnder (job : Job) (cells : List (List Cell)) (partial : List ℕ) (c : List Link) : Type 0 where
  pub context : IsJobContext job cells c
  pub front : List Link
  pub rest : List Link
  pub parts : c ≡ front ++ rest
  pub begins : AllZip (λ k l. Contains (links_at job cells k) l) partial front

-- all lists with one member of each list in turn
abbrev pub choices : {X : Type 0} → List (List X) → List (List X)
choices [] = [] ∷ []
choices (xs ∷ rest) = flat_map (λ x. map (λ c. x ∷ c) (choices rest)) xs

-- each later link may stand below each earlier one
abbrev pub all_stack : Job → List Link → Bool
all_stack job [] = true
all_stack job (a ∷ rest) = list_all (stacks (job_compat job) a) rest && all_stack job rest

-- the contexts that begin with a link and have one link of each of these pieces in turn
abbrev pub contexts_from : Job → List (List Cell) → List ℕ → Link → List (List Link)
contexts_from job cells rest a = filter (all_stack job) (map (λ c. a ∷ c) (choices (map (links_at job cells) rest)))

-- the first of some contexts in their order
abbrev pub first_context : List (List Link) → Option (List Link)
first_context [] = None
first_context (c ∷ rest) = Some (first_of context_cmp same_target c rest)

-- for each target cell that has a context of exactly the partial's pieces, the first of these contexts
abbrev pub survivors : Job → List (List Cell) → List ℕ → List (List Link)
survivors job cells [] = []
survivors job cells (k ∷ rest) = filter_map (λ a. first_context (contexts_from job cells rest a)) (links_at job cells k)
