use Rattle.machine.proofs.AuthorityLemmas.{cnode_alike, endpoint_badge, gives_fewer, gives_no_structure, gives_some, notification_badge}
use Rattle.machine.proofs.authority_laws.rights_alone_decide_kinds.Goals as goal

pub returns-clause-fewer : goal.returns-clause-fewer
returns-clause-fewer c = gives_fewer

pub returns-clause-badges : goal.returns-clause-badges
returns-clause-badges c = λ end badge k. (endpoint_badge end badge k, notification_badge end badge k)

pub returns-clause-guards : goal.returns-clause-guards
returns-clause-guards c = cnode_alike

pub returns-clause-some : goal.returns-clause-some
returns-clause-some c = gives_some

pub returns-clause-no_structure : goal.returns-clause-no_structure
returns-clause-no_structure c = gives_no_structure
