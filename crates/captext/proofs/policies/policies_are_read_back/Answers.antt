use Rattle.captext.proofs.{NameLaws.label_iff, PolicyLaws.{policy_iff, policy_once}}
use Rattle.captext.proofs.policies.policies_are_read_back.Goals as goal

pub returns : goal.returns
returns c = record { label = λ t name label lawful. label_iff t name label lawful.draft; named = policy_iff; once = policy_once }
