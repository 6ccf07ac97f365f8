use Rattle.std.proofs.Common.{ℕ, ◌<◌, ◌≡◌, get_or}
use Rattle.evtext.proofs.line.is.Given as goal

-- the bytes so far are the same
abbrev pub invariant-loop-index : goal.invariant-loop-index
invariant-loop-index l = (k : ℕ) → k < l.index → get_or l.word k 0 ≡ get_or l.wanted k 0
