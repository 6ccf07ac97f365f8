use Rattle.std.proofs.Common.{ℕ, ◌*◌, ◌<◌, ◌≡◌, false}
use Rattle.base.specs.Labels.{is_in}
use Rattle.base.proofs.labels.Labels.first.Given as goal

-- no label of the parts so far is in the set
abbrev pub invariant-loop-index : goal.invariant-loop-index
invariant-loop-index l = (label : ℕ) → label < 64 * l.index → is_in l.fn.self label ≡ false
