-- The tree, once all children are given up, is the one that it would be if all had been at first. Each turn leaves one less.
use Rattle.std.{specs.{FinMap.keys, Prelude.{None, Some}}, proofs.Common.◌≡◌}
use Rattle.{base.specs.declared.ids.SlotRef.SlotRef, machine.specs.Machine.parent_of}
use Rattle.derivation.{specs.Removing.parent_past, proofs.Children.children_among}
use Rattle.derivation.proofs.removing.release.Given as goal

abbrev pub invariant-loop-child : goal.invariant-loop-child
invariant-loop-child l = record {
  rest : l.state ≡ record l.fn.state { parents = l.state.parents };
  same : (q : SlotRef) → parent_past l.state l.slot None q ≡ parent_past l.fn.state l.slot None q;
  had : (q parent : SlotRef) → parent_of l.state q ≡ Some parent → parent_of l.fn.state q ≡ Some parent;
}

abbrev pub decreases-loop-child : goal.decreases-loop-child
decreases-loop-child l = children_among l.state l.slot (keys l.fn.state.parents)
