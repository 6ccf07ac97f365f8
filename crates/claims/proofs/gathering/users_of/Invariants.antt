-- The users among the labels so far.
use Rattle.std.{specs.List.range_with_len, proofs.Common.◌≡◌}
use Rattle.claims.specs.{Rows.extents_of, Strongest.users_of}
use Rattle.claims.proofs.gathering.users_of.Given as goal

abbrev pub invariant-loop-number : goal.invariant-loop-number
invariant-loop-number l = l.users ≡ users_of (extents_of l.rows) (range_with_len 0 l.number) l.fn.object
