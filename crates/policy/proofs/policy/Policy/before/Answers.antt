use Rattle.std.proofs.Common.{◌↔◌, ◌≡◌, subst, sym, true}
use Rattle.{base.specs.declared.edge.Edge.Edge, policy.{specs.{Policy.allows, Walks.Leads}, proofs.Walking.before_is}}
use Rattle.policy.proofs.policy.Policy.before.Goals as goal

pub returns : goal.returns
returns c from =
    let test = allows c.args.self.now in
    let step = c.args.step.now in
    subst (λ b. (b ≡ true) ↔ ((edge : Edge) × Leads test step from c.args.goals edge)) (sym (c.union.ensures from))
    (before_is test step c.args.goals from _ _ (c.sources.ensures from) (c.targets.ensures from))
