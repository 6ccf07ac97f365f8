use Rattle.integrity.proofs.NoBudget.{no_context, no_schedcontrol}
use Rattle.integrity.proofs.laws.a_budget_needs_authority.Goals as goal

pub returns-clause-schedcontrol : goal.returns-clause-schedcontrol
returns-clause-schedcontrol c = no_schedcontrol

pub returns-clause-context : goal.returns-clause-context
returns-clause-context c = no_context
