use Rattle.{std.proofs.Common.{ap, arith}, objects.specs.declared.counts.Counts.Counts}
use Rattle.objects.proofs.state.State.slot_count.Goals as goal

pub returns-clause-value : goal.returns-clause-value
returns-clause-value c = rw (← c.self.view_is) (ap (λ (counts : Counts). counts.slots) c.self.invariant.counted.exact)

pub returns-clause-bounded : goal.returns-clause-bounded
returns-clause-bounded c =
    let few = c.self.invariant.counted.few.slots in
    let bounded = c.self.invariant.consistent.bounded in
    omega (arith, few, bounded)
