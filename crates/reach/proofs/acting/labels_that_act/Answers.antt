use Rattle.{policy.specs.Policy.allows, reach.proofs.WhoActs.found_actors}
use Rattle.reach.proofs.acting.labels_that_act.Goals as goal

pub returns : goal.returns
returns c = λ rise a.
    let t = c.args.table.now in
    let allowed = allows c.args.policy.now in
    let found =
    found_actors t allowed c.starting-starting.result c.targets.result c.union.result c.union.ensures c.starting-starting.ensures
    c.targets.ensures a in
    let law = c.labels_act_from_boot_or_by_control.ensures t allowed a rise in
    (λ is. law.1 (found.0 is), λ acts. found.1 (law.0 acts))
