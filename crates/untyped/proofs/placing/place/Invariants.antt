use Rattle.std.proofs.Common.{ℕ, ◌*◌, ◌++◌, ◌+◌, ◌^◌, ◌≡◌, ◌≤◌, length, take}
use Rattle.{machine.specs.Memory.{all_taken, new_size}, untyped.specs.Batch.new_objects}
use Rattle.untyped.proofs.placing.place.Given as goal

-- with those that are left these are all, at the end of all, and each takes less than twice its size
abbrev pub invariant-loop-object : goal.invariant-loop-object
invariant-loop-object l =
    ((left : ℕ) → l.object-index + left ≡ length l.fn.objects
    → take l.object-index l.objects ++ new_objects left l.kind l.bits (record l.fn.memory { watermark = l.mark })
    ≡ new_objects (length l.fn.objects) l.kind l.bits l.fn.memory)
    × ((left : ℕ) → l.object-index + left ≡ length l.fn.objects
    → (all_taken left (new_size l.kind l.bits) (record l.fn.memory { watermark = l.mark })).watermark
    ≡ (all_taken (length l.fn.objects) (new_size l.kind l.bits) l.fn.memory).watermark)
    × (l.mark ≤ 2 ^ 48 + l.object-index * 2 ^ 48)
