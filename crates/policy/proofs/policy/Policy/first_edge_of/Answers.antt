use Rattle.policy.{specs.{Policy.allows, Walks.Leads}, proofs.Leading.first_of_label}
use Rattle.policy.proofs.policy.Policy.first_edge_of.Goals as goal

pub returns-in_err-kind : goal.returns-in_err-kind
returns-in_err-kind c =
    rw c.from_residual.ensures
    (first_of_label (Leads (allows c.args.self.now) c.args.step.now c.args.from c.args.goals) c.args.start _ (λ kind labels told. told.1) c.first_cell.result _ c.first_cell.ensures c.in_err-kind.was)

pub returns : goal.returns
returns c =
    first_of_label (Leads (allows c.args.self.now) c.args.step.now c.args.from c.args.goals) c.args.start _ (λ kind labels told. told.1) c.first_cell.result _ c.first_cell.ensures c.in_ok-kind.was
