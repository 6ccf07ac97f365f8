use Rattle.policy.proofs.Changing.{change_grows, change_is_full}
use Rattle.policy.proofs.acting.what_may_be_changed_is_within_full_authority.Goals as goal

pub returns-clause-full : goal.returns-clause-full
returns-clause-full c = change_is_full

pub returns-clause-grows : goal.returns-clause-grows
returns-clause-grows c = change_grows

pub returns-clause-acts : goal.returns-clause-acts
returns-clause-acts c = λ test acts a l may. may.actor
