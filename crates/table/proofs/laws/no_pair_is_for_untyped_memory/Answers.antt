use Rattle.table.proofs.NoUntyped.{no_pair_untyped}
use Rattle.table.proofs.laws.no_pair_is_for_untyped_memory.Goals as goal

pub returns : goal.returns
returns c = no_pair_untyped
