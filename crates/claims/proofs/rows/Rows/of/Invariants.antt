-- The labels so far have their rows.
use Rattle.std.proofs.Common.{ℕ, ◌≡◌, Some, slice_get, vec_len}
use Rattle.{reach.specs.Extents.limits_of, claims.specs.{declared.rows.Row.Row, Rows.IsRow}}
use Rattle.claims.proofs.rows.Rows.of.Given as goal

abbrev pub invariant-loop-number : goal.invariant-loop-number
invariant-loop-number l =
    (vec_len l.rows ≡ l.number)
    × ((a : ℕ) (row : Row) → slice_get l.rows.items a ≡ Some row → IsRow (limits_of l.reach) a row)
