use Rattle.std.proofs.Common.{ℕ, ◌*◌, ◌+◌, ◌^◌, ◌≡◌, ◌≤◌}
use Rattle.machine.specs.Memory.{all_taken}
use Rattle.untyped.proofs.room.roomy.Given as goal

-- those that are left come to the same end as all, and each takes less than twice its size
abbrev pub invariant-loop : goal.invariant-loop
invariant-loop l =
    ((left : ℕ) → l.counter + left ≡ l.fn.count
    → (all_taken left l.fn.size (record l.fn.memory { watermark = l.mark })).watermark
    ≡ (all_taken l.fn.count l.fn.size l.fn.memory).watermark)
    × (l.mark ≤ 2 ^ 48 + l.counter * 2 ^ 48)
