use Rattle.{std.proofs.Common.arith, objects.proofs.CapBounds.caps_bounded}
use Rattle.objects.proofs.state.State.cap_count.Goals as goal

pub returns-clause-value : goal.returns-clause-value
returns-clause-value c = rw (c.caps.ensures, ← c.self.view_is) (c.self.invariant.tallied c.args.id)

pub returns-clause-bounded : goal.returns-clause-bounded
returns-clause-bounded c =
    let caps = c.caps.ensures in
    let tallied = c.self.invariant.tallied c.args.id in
    let bounded = caps_bounded c.self.inside c.self.invariant.consistent c.args.id in
    omega (arith, caps, tallied, bounded)
