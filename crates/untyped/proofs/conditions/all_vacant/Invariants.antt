use Rattle.std.proofs.Common.{ℕ, ◌+◌, ◌≡◌}
use Rattle.machine.specs.Step.Retype.{all_vacant, window}
use Rattle.untyped.proofs.conditions.all_vacant.Given as goal

-- the slots before this one are empty, so the rest decide
abbrev pub invariant-loop-index : goal.invariant-loop-index
invariant-loop-index l =
    (left : ℕ) → l.index + left ≡ l.fn.offset + l.fn.count
    → all_vacant l.fn.state (window l.fn.node l.index left) ≡ all_vacant l.fn.state (window l.fn.node l.fn.offset l.fn.count)
