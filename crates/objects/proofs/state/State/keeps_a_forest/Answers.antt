use Rattle.objects.proofs.TreeState.{is_acyclic, is_ranked, pair_above, pair_below}
use Rattle.objects.proofs.state.State.keeps_a_forest.Goals as goal

pub returns-clause-below : goal.returns-clause-below
returns-clause-below c = rw (← c.self.view_is) (pair_below c.self.inside c.self.invariant.consistent)

pub returns-clause-above : goal.returns-clause-above
returns-clause-above c = rw (← c.self.view_is) (pair_above c.self.inside c.self.invariant.consistent)

pub returns-clause-paired : goal.returns-clause-paired
returns-clause-paired c = rw (← c.self.view_is) c.self.invariant.paired

pub returns-clause-ranked : goal.returns-clause-ranked
returns-clause-ranked c = rw (← c.self.view_is) (is_ranked c.self.inside c.self.invariant.consistent)

pub returns-clause-acyclic : goal.returns-clause-acyclic
returns-clause-acyclic c = rw (← c.self.view_is) (is_acyclic c.self.inside c.self.invariant.consistent)
