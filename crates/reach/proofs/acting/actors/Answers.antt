use Rattle.{policy.specs.Policy.allows, reach.proofs.WhoActs.both_actors}
use Rattle.reach.proofs.acting.actors.Goals as goal

pub returns : goal.returns
returns c = λ rise.
    both_actors c.args.table.now (allows c.args.policy.now) c.labels_that_act.result c.with_threads.result c.intersection.result
    c.intersection.ensures (c.labels_that_act.ensures rise) c.with_threads.ensures
