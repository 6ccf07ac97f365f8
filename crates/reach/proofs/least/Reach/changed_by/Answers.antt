use Rattle.std.proofs.{Common.{◌∙◌, sym}, lemmas.Bool.false≢true}
use Rattle.{base.specs.Labels.is_in, reach.proofs.LeastReach.actors_told}
use Rattle.reach.proofs.least.Reach.changed_by.Goals as goal

pub returns-clause-changed : goal.returns-clause-changed
returns-clause-changed c = rw (c.policy.ensures.policy, c.actors.ensures.actors) at c.change_labels.ensures

pub returns-clause-kept : goal.returns-clause-kept
returns-clause-kept c l out =
    let reach = c.args.self.now in
    let is = c.bounds_runs.ensures.reach in
    c.runs_keep_labels_apart.ensures.takes reach.table reach.policy (is_in reach.actors) c.args.actor l is.lawful is.least
    (actors_told reach is) (λ may. false≢true (sym out ∙ (returns-clause-changed c l).1 may))
