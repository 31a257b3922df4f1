-- A job has few pieces.
use Rattle.std.proofs.Common.{◌≡◌, ℕ, ◌+◌, ◌*◌, ◌<◌, ◌≤◌, ⊎_elim, ◌⊎◌, inl, inr, List, [], ◌∷◌, length, get_or, All, refl, sym, arith, Ordering, Less, Equal, Greater, nat_cmp}
use Rattle.std.specs.Prelude.{AllPairs}
use Rattle.std.specs.Ordering.{ordering_then}
use Rattle.std.proofs.lemmas.Cmp.{ranked}
use Rattle.std.proofs.lemmas.List.Elements.{All-head, All-tail}
use Rattle.geo_base.specs.declared.job.Piece.{Piece}
use Rattle.geo_base.specs.declared.job.Job.{Job}
use Rattle.geo_base.specs.Job.{IsJob, IsPieceOf, piece_cmp}
use Rattle.geo_base.proofs.Members.{pairs_head, pairs_tail}

first_part : (o q : Ordering) → ordering_then o q ≡ Less → (o ≡ Less) ⊎ ((o ≡ Equal) × (q ≡ Less))
first_part Less q e = inl refl
first_part Equal q e = inr (refl, e)
first_part Greater q e = absurd (cc e)

rises : (p q : Piece) → p.from ≤ 20 → p.to ≤ 20 → q.from ≤ 20 → q.to ≤ 20 → piece_cmp p q ≡ Less → 441 * p.layer + 21 * p.from + p.to < 441 * q.layer + 21 * q.from + q.to
rises p q a b d c e =
    ⊎_elim
    (λ less. let h : p.layer < q.layer = ranked p.layer q.layer Less (sym less) in omega (arith, h, a, b))
    (λ t. let layers : p.layer ≡ q.layer = ranked p.layer q.layer Equal (sym t.0) in
    ⊎_elim
    (λ less. let h : p.from < q.from = ranked p.from q.from Less (sym less) in omega (arith, h, layers, b))
    (λ u. let froms : p.from ≡ q.from = ranked p.from q.from Equal (sym u.0) in
    ⊎_elim
    (λ less. let h : p.to < q.to = ranked p.to q.to Less (sym less) in omega (arith, h, layers, froms))
    (λ v. let bad : Equal ≡ Less = v.1 in absurd (cc bad))
    (first_part (nat_cmp p.to q.to) Equal u.1))
    (first_part (nat_cmp p.from q.from) (ordering_then (nat_cmp p.to q.to) Equal) t.1))
    (first_part (nat_cmp p.layer q.layer) (ordering_then (nat_cmp p.from q.from) (ordering_then (nat_cmp p.to q.to) Equal)) e)

short_list : (f : Piece → ℕ) (xs : List Piece) (low high : ℕ) → low ≤ high → AllPairs (λ p q. f p < f q) xs → All (λ p. low ≤ f p) xs → All (λ p. f p < high) xs → length xs + low ≤ high
short_list f [] low high fits pairs least most = omega (arith, fits)
short_list f (x ∷ xs) low high fits pairs least most =
    let here : f x < high = All-head (λ p. f p < high) x xs most in
    let bottom : low ≤ f x = All-head (λ p. low ≤ f p) x xs least in
    let rest : length xs + (f x + 1) ≤ high = short_list f xs (f x + 1) high (omega (arith, here)) (pairs_tail (λ p q. f p < f q) x xs pairs)
    (λ k d l. let above : f x < f (get_or xs k d) = pairs_head (λ p q. f p < f q) x xs pairs k d l in omega (arith, above)) (All-tail (λ p. f p < high) x xs most) in
    omega (arith, rest, bottom)

-- the pieces of a job differ in layer or run
pub few_pieces : (job : Job) → IsJob job → length job.pieces ≤ 7056
few_pieces job is =
    let all : All (IsPieceOf job.tokens) job.pieces = is.pieces in
    let short : length job.pieces + 0 ≤ 7056 =
    short_list (λ p. 441 * p.layer + 21 * p.from + p.to) job.pieces 0 7056 (omega arith)
    (λ i j d l m.
    let p = all i d (omega (arith, l, m)) in
    let q = all j d m in
    rises (get_or job.pieces i d) (get_or job.pieces j d) (omega (arith, p.some, p.within, is.tokens)) (omega (arith, p.within, is.tokens)) (omega (arith, q.some, q.within, is.tokens)) (omega (arith, q.within, is.tokens)) (is.rising i j d l m))
    (λ k d l. omega arith)
    (λ k d l. let p = all k d l in omega (arith, p.layer, p.some, p.within, is.tokens)) in
    omega (arith, short)
