use Rattle.std.proofs.Common.{ℕ, ◌<◌, ◌≡◌, Option, get_or}
use Rattle.machine.specs.declared.cap.Cap.{Cap}
use Rattle.runs.proofs.comparing.same_slots.Given as goal

abbrev pub invariant-loop-index : goal.invariant-loop-index
invariant-loop-index l = (k : ℕ) (d : Option Cap) → k < l.index → get_or l.is k d ≡ get_or l.was k d
