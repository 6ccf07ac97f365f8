use Rattle.integrity.proofs.RemovalShrinks.{same_or_shrinks}
use Rattle.integrity.proofs.removing.what_a_removal_changes_shrinks.Goals as goal

pub returns : goal.returns
returns c = same_or_shrinks
