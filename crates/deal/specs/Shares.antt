-- Shares of a list that is dealt to workers: contiguous, in order, and of lengths that differ by at most one (confine's own).
use Rattle.std.specs.Prelude.{ℕ, ◌%◌, ◌*◌, ◌+◌, ◌/◌, List, length, min, slice_range}

-- where the share of a worker begins; the first shares have one item more if the items can't be shared evenly
abbrev pub start_of : ℕ → ℕ → ℕ → ℕ
start_of items workers worker = worker * (items / workers) + min worker (items % workers)

-- the items of a worker
unfoldable pub share_of : {T : Type 0} → List T → ℕ → ℕ → List T
share_of items workers worker =
    slice_range items (start_of (length items) workers worker) (start_of (length items) workers (worker + 1))
