use Rattle.cores.proofs.Safe.{seen_is_safe}
use Rattle.cores.proofs.safety.seen_histories_are_safe.Goals as goal

pub returns : goal.returns
returns c = seen_is_safe
