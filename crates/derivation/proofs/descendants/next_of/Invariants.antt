-- No slot of a lower index is a descendant behind the last.
use Rattle.std.specs.Prelude.{◌<◌, ◌≡◌}
use Rattle.{base.specs.declared.ids.SlotRef.SlotRef, machine.specs.WellFormed.Descends, derivation.specs.Descendants.IsBehind}
use Rattle.derivation.proofs.descendants.next_of.Given as goal

abbrev pub invariant-loop-index : goal.invariant-loop-index
invariant-loop-index l =
    (q : SlotRef) → q.holder ≡ l.fn.holder → q.index < l.index → Descends l.fn.state q l.fn.above → ¬ (IsBehind l.fn.last q)
