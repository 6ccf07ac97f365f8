-- The labels that may act are found from the policy, which is closed as it is accepted.
use Rattle.std.proofs.{Common.{◌∙◌, sym}, lemmas.Bool.false≢true}
use Rattle.policy.{specs.Policy.allows, proofs.{Sharpness.closed_rises, Unbroken.closed_if}}
use Rattle.verdict.{specs.declared.denial.Denial.Denial as denial, proofs.OthersRefused.others_refused}
use Rattle.verdict.proofs.accepted.Accepted.acting.Goals as goal

pub returns-clause-acting : goal.returns-clause-acting
returns-clause-acting c a =
    let allowed = allows c.args.self.now.policy in
    let closed = closed_if allowed (λ broken. c.policy.ensures.accepted.verdict (denial.Policy broken)) in
    let found = rw (c.table.ensures.table, c.policy.ensures.policy) at c.labels_that_act.ensures in
    found (closed_rises allowed closed) a

pub returns-clause-refused : goal.returns-clause-refused
returns-clause-refused c =
    others_refused c.args.self.now.table (allows c.args.self.now.policy) c.labels_that_act.result (returns-clause-acting c)
    c.policy.ensures.accepted.safe.acting

pub returns-clause-kept : goal.returns-clause-kept
returns-clause-kept c a l out =
    c.changes_are_of_labels_that_act.ensures.never c.args.self.now.table (allows c.args.self.now.policy) a l
    c.policy.ensures.accepted.safe.acting (λ acts. false≢true (sym out ∙ (returns-clause-acting c a).1 acts))
