-- The links of a job's pieces: where they lie, that they rise, and those of the pieces from one on.
use Rattle.std.proofs.Common.{◌≡◌, ◌∙◌, ◌+◌, ◌<◌, ◌≤◌, ℕ, zero, suc, List, [], ◌∷◌, ◌++◌, length, map, drop, get_or, All, refl, sym, ap, arith, append_assoc, append-nil}
use Rattle.std.specs.Prelude.{AllPairs, slice_index_or}
use Rattle.std.specs.declared.cmp.Ordering.TheVariants.{Less}
use Rattle.std.proofs.lemmas.List.Elements.{All-head, All-tail, All-append, All-map, All-weaker}
use Rattle.geo_base.specs.declared.link.Link.{Link}
use Rattle.geo_base.specs.declared.cells.Cell.{Cell}
use Rattle.geo_base.specs.declared.job.Piece.{Piece}
use Rattle.geo_base.specs.declared.job.Job.{Job}
use Rattle.geo_base.specs.declared.answer.Answer.{Answer}
use Rattle.geo_base.specs.Job.{cell_link, links_of, piece_cmp, IsPieceOf, IsJob}
use Rattle.geo_base.proofs.Members.{pairs_head, pairs_tail}
use Rattle.plain_answer.proofs.Differing.{none, all}
use Rattle.plain_answer.proofs.Rising.{one_before}

-- what holds of all links of a piece, for each piece, holds of all links
all_links : (P : Link → Type 0) (pieces : List Piece) (cells : List (List Cell)) → All (λ p. (c : Cell) → P (cell_link p c)) pieces → All P (links_of pieces cells)
all_links P [] cells each = none P
all_links P (p ∷ pieces) [] each = none P
all_links P (p ∷ pieces) (c ∷ cells) each =
    All-append P (map (cell_link p) c) (links_of pieces cells)
    (All-map P (cell_link p) c (all (λ x. P (cell_link p x)) c (All-head (λ r. (x : Cell) → P (cell_link r x)) p pieces each)))
    (all_links P pieces cells (All-tail (λ r. (x : Cell) → P (cell_link r x)) p pieces each))

-- they lie in layers 0 to 15
pub in_16 : (job : Job) (cells : List (List Cell)) → IsJob job → All (λ l. l.layer < 16) (links_of job.pieces cells)
in_16 job cells is = all_links (λ l. l.layer < 16) job.pieces cells (All-weaker (IsPieceOf job.tokens) (λ p. (c : Cell) → p.layer < 16) (λ p of c. of.layer) job.pieces is.pieces)

-- a piece that comes before another isn't in a later layer
layers_rise : (p q : Piece) → piece_cmp p q ≡ Less → p.layer ≤ q.layer
layers_rise p q before = grind (arith, before)

rise : (pieces : List Piece) (cells : List (List Cell)) → AllPairs (λ p q. p.layer ≤ q.layer) pieces → AllPairs (λ a b. a.layer ≤ b.layer) (links_of pieces cells)
rise [] cells rising = λ i j d less within. absurd (omega (arith, within))
rise (p ∷ pieces) [] rising = λ i j d less within. absurd (omega (arith, within))
rise (p ∷ pieces) (c ∷ cells) rising =
    one_before (λ (l : Link). l.layer) p.layer (map (cell_link p) c) (links_of pieces cells)
    (All-map (λ (l : Link). l.layer ≡ p.layer) (cell_link p) c (all (λ x. p.layer ≡ p.layer) c (λ x. refl)))
    (all_links (λ l. p.layer ≤ l.layer) pieces cells (All-weaker (λ q. p.layer ≤ q.layer) (λ q. (x : Cell) → p.layer ≤ q.layer) (λ q least x. least) pieces (pairs_head (λ a b. a.layer ≤ b.layer) p pieces rising)))
    (rise pieces cells (pairs_tail (λ a b. a.layer ≤ b.layer) p pieces rising))

-- they rise by layer
pub links_rise : (job : Job) (cells : List (List Cell)) → IsJob job → AllPairs (λ a b. a.layer ≤ b.layer) (links_of job.pieces cells)
links_rise job cells is = rise job.pieces cells (λ i j d less within. layers_rise (get_or job.pieces i d) (get_or job.pieces j d) (is.rising i j d less within))

-- ---- the links of the pieces from one on

no_cells : (pieces : List Piece) → links_of pieces [] ≡ []
no_cells [] = refl
no_cells (p ∷ pieces) = refl

-- are those of that piece, and then those of the pieces behind it
one_piece : (pieces : List Piece) (cells : List (List Cell)) (k : ℕ) (d : Piece) → k < length pieces
    → links_of (drop k pieces) (drop k cells) ≡ map (cell_link (get_or pieces k d)) (slice_index_or cells k []) ++ links_of (drop (suc k) pieces) (drop (suc k) cells)
one_piece [] cells k d within = absurd (omega (arith, within))
one_piece (q ∷ pieces) [] zero d within = sym (no_cells pieces)
one_piece (q ∷ pieces) (c ∷ cells) zero d within = refl
one_piece (q ∷ pieces) [] (suc k) d within = no_cells (drop k pieces) ∙ sym (no_cells (drop (suc k) pieces))
one_piece (q ∷ pieces) (c ∷ cells) (suc k) d within = one_piece pieces cells k d (omega (arith, within))

-- so what was made before and those are, with those of one piece made, what was made and the others
pub one_made : (listed pieces : List Piece) (cells : List (List Cell)) (all made new : List Link) (k : ℕ) (d : Piece) (c : List Cell)
    → listed ≡ pieces → made ++ links_of (drop k pieces) (drop k cells) ≡ all → k < length pieces → c ≡ slice_index_or cells k [] → new ≡ made ++ map (cell_link (slice_index_or listed k d)) c
    → new ++ links_of (drop (k + 1) pieces) (drop (k + 1) cells) ≡ all
one_made listed pieces cells all made new k d c same so_far within are grown =
    let p = get_or pieces k d in
    let later = links_of (drop (suc k) pieces) (drop (suc k) cells) in
    let next : k + 1 ≡ suc k = omega arith in
    ap (λ n. new ++ links_of (drop n pieces) (drop n cells)) next
    ∙ (ap (λ l. l ++ later) (grown ∙ (ap (λ (ps : List Piece). made ++ map (cell_link (get_or ps k d)) c) same ∙ ap (λ x. made ++ map (cell_link p) x) are))
    ∙ (append_assoc made (map (cell_link p) (slice_index_or cells k [])) later
    ∙ (ap (λ l. made ++ l) (sym (one_piece pieces cells k d within))
    ∙ so_far)))

-- and behind the last piece nothing is left
pub all_made : (pieces : List Piece) (cells : List (List Cell)) (all made : List Link) (k : ℕ) → made ++ links_of (drop k pieces) (drop k cells) ≡ all → length pieces ≤ k → made ≡ all
all_made pieces cells all made k so_far done =
    sym (append-nil made) ∙ (ap (λ ps. made ++ links_of ps (drop k cells)) (sym (drop_all pieces k done)) ∙ so_far)
  where
    drop_all : (ps : List Piece) (n : ℕ) → length ps ≤ n → drop n ps ≡ []
    drop_all [] zero done = refl
    drop_all [] (suc n) done = refl
    drop_all (p ∷ ps) zero done = absurd (omega (arith, done))
    drop_all (p ∷ ps) (suc n) done = drop_all ps n (omega (arith, done))

-- an answer of these parts
pub answer_of_parts : (a : Answer) (tokens : ℕ) (contexts : List (List Link)) → a.tokens ≡ tokens → a.contexts ≡ contexts → a ≡ record { tokens = tokens; contexts = contexts }
answer_of_parts a tokens contexts one two =
    ap (λ n. record { tokens = n; contexts = a.contexts }) one ∙ ap (λ cs. record { tokens = tokens; contexts = cs }) two
