use Rattle.diff.proofs.Unchanged.{unchanged}
use Rattle.diff.proofs.within.no_system_differs_from_itself.Goals as goal

pub returns : goal.returns
returns c = record { none = unchanged }
