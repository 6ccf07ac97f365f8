use Rattle.machine.proofs.AuthorityLemmas.{authority_grows}
use Rattle.machine.proofs.authority_laws.authority_grows_with_capabilities.Goals as goal

pub returns : goal.returns
returns c = authority_grows
