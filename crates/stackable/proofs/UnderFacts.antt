-- Contexts under a partial: each is of exactly its pieces, or under one of its children.
use Rattle.std.proofs.Common.{◌≡◌, ℕ, zero, suc, ◌<◌, true, ◌&&◌, ◌||◌, ◌⊎◌, inl, inr, ⊎_elim, List, [], ◌∷◌, ◌++◌, length, get_or, refl, sym, ◌∙◌, ap, subst, arith, append_assoc, append-nil}
use Rattle.std.specs.Prelude.{AllPairs, Contains, nat_lt, nat_le}
use Rattle.std.specs.List.{AllZip, list_all}
use Rattle.std.proofs.lemmas.Bool.{and_parts, and_from, cases_lt}
use Rattle.std.proofs.lemmas.List.Elements.{All-contains, Contains-append_cases, Contains-append_left, Contains-append_right}
use Rattle.geo_base.specs.declared.link.Link.{Link}
use Rattle.geo_base.specs.declared.cells.Cell.{Cell}
use Rattle.geo_base.specs.declared.job.Piece.{Piece}
use Rattle.geo_base.specs.declared.job.Job.{Job}
use Rattle.geo_base.specs.Link.{Compat, stacks, admits_below, are_disjoint}
use Rattle.geo_base.specs.Tile.{holds}
use Rattle.geo_base.specs.Job.{job_compat, piece_links, links_of}
use Rattle.stackable.specs.Partial.{no_piece, piece_at, links_at, numbers_below, piece_numbers, piece_below, candidates, IsUnder}
use Rattle.geo_base.proofs.PieceFacts.{IsLinkOf, link_takes}
use Rattle.geo_base.proofs.Members.{member_here, member_there, no_member, member_in_filter, before_later}

-- a link of the job is of some piece
pub piece_of_link : (pieces : List Piece) (cells : List (List Cell)) (l : Link) → Contains (links_of pieces cells) l → (k : ℕ) × (k < length pieces) × Contains (piece_links (get_or pieces k no_piece) (get_or cells k [])) l
piece_of_link [] cells l h = absurd (no_member l h)
piece_of_link (p ∷ pieces) [] l h = absurd (no_member l h)
piece_of_link (p ∷ pieces) (c ∷ cells) l h =
    ⊎_elim
    (λ here. (0, omega arith, here))
    (λ t. let r = piece_of_link pieces cells l t in (suc r.0, omega (arith, r.1), r.2))
    (Contains-append_cases (piece_links p c) (links_of pieces cells) l h)

-- a link of a piece is a link of the job
pub link_of_job : (Q : Piece → List Cell → Type 0) (pieces : List Piece) (cells : List (List Cell)) (k : ℕ) (l : Link) → AllZip Q pieces cells → Contains (piece_links (get_or pieces k no_piece) (get_or cells k [])) l → Contains (links_of pieces cells) l
link_of_job Q [] [] k l z h = absurd (no_member l h)
link_of_job Q [] (c ∷ cells) k l z h = absurd z
link_of_job Q (p ∷ pieces) [] k l z h = absurd z
link_of_job Q (p ∷ pieces) (c ∷ cells) zero l z h = Contains-append_left (piece_links p c) (links_of pieces cells) l h
link_of_job Q (p ∷ pieces) (c ∷ cells) (suc k) l z h = Contains-append_right (piece_links p c) (links_of pieces cells) l (link_of_job Q pieces cells k l z.1 h)

pub number_below : (n k : ℕ) → k < n → Contains (numbers_below n) k
number_below zero k h = absurd (omega (arith, h))
number_below (suc n) k h =
    ⊎_elim
    (λ less. Contains-append_left (numbers_below n) (n ∷ []) k (number_below n k less))
    (λ more. let e : n ≡ k = omega (arith, h, more) in Contains-append_right (numbers_below n) (n ∷ []) k (subst (λ z. Contains (n ∷ []) z) e (member_here n [])))
    (cases_lt k n)

pieces_stack : (compat : Compat) (p q : Piece) (a b : Link) → IsLinkOf p a → IsLinkOf q b → stacks compat a b ≡ true → (nat_lt q.layer p.layer && (nat_le p.to q.from || nat_le q.to p.from) && compat p.layer q.layer) ≡ true
pieces_stack compat p q a b of_p of_q h =
    let outer = and_parts (admits_below a b) (compat a.layer b.layer) h in
    let inner = and_parts (nat_lt b.layer a.layer && are_disjoint a b) (holds b.tile a.tile) outer.0 in
    let all : (nat_lt b.layer a.layer && (nat_le a.to b.from || nat_le b.to a.from) && compat a.layer b.layer) ≡ true = and_from (nat_lt b.layer a.layer && are_disjoint a b) (compat a.layer b.layer) inner.0 outer.1 in
    rw (← of_p.layer, ← of_p.from, ← of_p.to, ← of_q.layer, ← of_q.from, ← of_q.to) all

module _ (job : Job) (cells : List (List Cell)) where
  pub begins_push : (partial : List ℕ) (front : List Link) (k : ℕ) (l : Link) → AllZip (λ k l. Contains (links_at job cells k) l) partial front → Contains (links_at job cells k) l → AllZip (λ k l. Contains (links_at job cells k) l) (partial ++ k ∷ []) (front ++ l ∷ [])
  begins_push [] [] k l z h = (h, tt)
  begins_push [] (a ∷ front) k l z h = absurd z
  begins_push (j ∷ partial) [] k l z h = absurd z
  begins_push (j ∷ partial) (a ∷ front) k l z h = (z.0, begins_push partial front k l z.1 h)

  pub begins_length : (partial : List ℕ) (front : List Link) → AllZip (λ k l. Contains (links_at job cells k) l) partial front → length partial ≡ length front
  begins_length [] [] z = refl
  begins_length [] (a ∷ front) z = absurd z
  begins_length (j ∷ partial) [] z = absurd z
  begins_length (j ∷ partial) (a ∷ front) z = ap suc (begins_length partial front z.1)

  -- the piece of a link that may stand below each link of the front may stand below each piece
  pub below_each : (partial : List ℕ) (front : List Link) (k : ℕ) (l : Link) → AllZip (λ k l. Contains (links_at job cells k) l) partial front → Contains (links_at job cells k) l → ((a : Link) → Contains front a → stacks (job_compat job) a l ≡ true) → list_all (λ j. piece_below job j k) partial ≡ true
  below_each [] [] k l z h below = refl
  below_each [] (a ∷ front) k l z h below = absurd z
  below_each (j ∷ partial) [] k l z h below = absurd z
  below_each (j ∷ partial) (a ∷ front) k l z h below =
      and_from (piece_below job j k) (list_all (λ i. piece_below job i k) partial)
      (pieces_stack (job_compat job) (piece_at job j) (piece_at job k) a l (link_takes (piece_at job j) (get_or cells j []) a z.0) (link_takes (piece_at job k) (get_or cells k []) l h) (below a (member_here a front)))
      (below_each partial front k l z.1 h (λ b m. below b (member_there a b front m)))

  -- a context under a partial is of exactly its pieces, or under a child
  pub under_child : (partial : List ℕ) (c : List Link) (u : IsUnder job cells partial c) → (u.front ≡ c) ⊎ ((k : ℕ) × Contains (candidates job partial) k × IsUnder job cells (partial ++ k ∷ []) c)
  under_child partial c u = by_rest u.rest u.parts
    where
      by_rest : (rest : List Link) → c ≡ u.front ++ rest → (u.front ≡ c) ⊎ ((k : ℕ) × Contains (candidates job partial) k × IsUnder job cells (partial ++ k ∷ []) c)
      by_rest [] e = inl (sym (e ∙ append-nil u.front))
      by_rest (l ∷ more) e =
          let in_c : Contains c l = subst (λ xs. Contains xs l) (sym e) (Contains-append_right u.front (l ∷ more) l (member_here l more)) in
          let of_job : Contains (links_of job.pieces cells) l = All-contains (Contains (links_of job.pieces cells)) c l u.context.chosen in_c in
          let found = piece_of_link job.pieces cells l of_job in
          let k = found.0 in
          let pairs : AllPairs (λ a b. stacks (job_compat job) a b ≡ true) (u.front ++ l ∷ more) = subst (λ xs. AllPairs (λ a b. stacks (job_compat job) a b ≡ true) xs) e u.context.stacked in
          inr (
            k,
            member_in_filter (λ i. list_all (λ j. piece_below job j i) partial) (piece_numbers job) k (number_below (length job.pieces) k found.1)
                (below_each partial u.front k l u.begins found.2 (λ a m. before_later (λ x y. stacks (job_compat job) x y ≡ true) u.front more a l pairs m)),
            record {
              context = u.context;
              front = u.front ++ l ∷ [];
              rest = more;
              parts = e ∙ sym (append_assoc u.front (l ∷ []) more);
              begins = begins_push partial u.front k l u.begins found.2;
            },
          )
