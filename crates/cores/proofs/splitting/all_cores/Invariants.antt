use Rattle.std.{specs.Prelude.slice_get, proofs.Common.{ℕ, ◌+◌, ◌-◌, ◌≡◌, ◌≤◌, Some, length, vec_capacity, vec_len}}
use Rattle.base.specs.declared.core_number.TheConstants.CoreNo as CoreNo
use Rattle.cores.proofs.splitting.all_cores.Given as goal

-- the cores below this one stand in the list
abbrev pub invariant-loop-number : goal.invariant-loop-number
invariant-loop-number l = record {
  count : length l.cores.items ≡ l.number;
  each : (number core : ℕ) → slice_get l.cores.items number ≡ Some core → core ≡ number;
  room : vec_len l.cores + (CoreNo.COUNT - l.number) ≤ vec_capacity l.cores;
}
