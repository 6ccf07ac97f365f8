use Rattle.std.proofs.Common.{◌∙◌, sym}
use Rattle.policy.proofs.Changing.{sends_at_most, shrink_grows, shrink_is_cut}
use Rattle.policy.proofs.acting.what_may_shrink_may_be_cut.Goals as goal
use mathlib.Core.Bool.{false≢true}

pub returns-clause-cut : goal.returns-clause-cut
returns-clause-cut c = shrink_is_cut

pub returns-clause-grows : goal.returns-clause-grows
returns-clause-grows c = shrink_grows

pub returns-clause-acts : goal.returns-clause-acts
returns-clause-acts c = λ test acts a l may. may.actor

pub returns-clause-replies : goal.returns-clause-replies
returns-clause-replies c = λ test acts a control context reply l may. sends_at_most test acts a l control context reply may

pub returns-clause-nobody : goal.returns-clause-nobody
returns-clause-nobody c = λ test acts a control context reply send l may.
    let to = sends_at_most test acts a l control context reply may in
    false≢true (sym (send to.endpoint) ∙ to.sends)
