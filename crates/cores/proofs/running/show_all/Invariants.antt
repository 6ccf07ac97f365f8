use Rattle.std.proofs.Common.{ℕ, ◌<◌, ◌≡◌, ◌≤◌, length, slice_index_or}
use Rattle.cores.specs.Seats.{Known, Looks}
use Rattle.cores.proofs.running.show_all.Given as goal

-- the seats before this one have seen the whole history, and the others are as they were
abbrev pub invariant-loop-number : goal.invariant-loop-number
invariant-loop-number g l = record {
  same : l.desk ≡ l.fn.desk;
  count : length l.seats ≡ length l.fn.seats;
  done : (i : ℕ) (d : Known) → i < l.number
      → Looks (slice_index_or l.fn.seats i d) (slice_index_or l.seats i d) × ((slice_index_or l.seats i d).seen ≡ l.fn.desk);
  left : (i : ℕ) (d : Known) → l.number ≤ i → slice_index_or l.seats i d ≡ slice_index_or l.fn.seats i d;
}
