use Rattle.{std.proofs.Common.subst, verdict.specs.System.{IsAcceptedSystem, System}}
use Rattle.verdict.proofs.accepted.Accepted.policy.Goals as goal

pub returns-clause-accepted : goal.returns-clause-accepted
returns-clause-accepted c = subst (λ (system : System). IsAcceptedSystem system) c.self.view_is c.self.invariant
