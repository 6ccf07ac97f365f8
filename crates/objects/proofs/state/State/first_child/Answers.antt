use Rattle.objects.proofs.TreeState.{child_found, child_missing}
use Rattle.objects.proofs.state.State.first_child.Goals as goal

pub returns-clause-some : goal.returns-clause-some
returns-clause-some c =
    rw (c.first_child.ensures, ← c.self.view_is) (child_found c.self.inside c.self.invariant.consistent c.args.slot)

pub returns-clause-none : goal.returns-clause-none
returns-clause-none c =
    rw (c.first_child.ensures, ← c.self.view_is) (child_missing c.self.inside c.self.invariant.consistent c.args.slot)
