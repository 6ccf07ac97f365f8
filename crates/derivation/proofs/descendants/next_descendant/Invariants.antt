-- No slot of a lower holder is a descendant behind the last.
use Rattle.std.specs.Prelude.{◌<◌}
use Rattle.{base.specs.declared.ids.SlotRef.SlotRef, machine.specs.WellFormed.Descends, derivation.specs.Descendants.IsBehind}
use Rattle.derivation.proofs.descendants.next_descendant.Given as goal

abbrev pub invariant-loop-holder : goal.invariant-loop-holder
invariant-loop-holder l = (q : SlotRef) → q.holder.0 < l.holder → Descends l.fn.state q l.fn.above → ¬ (IsBehind l.fn.last q)
