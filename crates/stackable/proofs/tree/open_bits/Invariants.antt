use Rattle.std.proofs.Common.{ℕ, ◌≡◌, ◌<◌, ◌^◌}
use Rattle.std.specs.Prelude.{◌&&◌}
use Rattle.std.specs.List.{list_any, list_all}
use Rattle.stackable.specs.Partial.{piece_at, piece_below, has_token, numbers_below}
use Rattle.stackable.specs.Room.{has_bit}
use Rattle.stackable.proofs.tree.open_bits.Given as goal

abbrev pub invariant-loop-q : goal.invariant-loop-q
invariant-loop-q l =
    ((t : ℕ) → has_bit l.tokens t ≡ list_any (λ k. list_all (λ j. piece_below l.job j k) l.p && has_token (piece_at l.job k) t) (numbers_below l.q-index))
    × (l.tokens < 2 ^ l.job.tokens)
