use Rattle.{std.proofs.Common.rules, cores.proofs.Keeps.sees}
use Rattle.cores.proofs.word.see.Goals as goal

pub load-requires : goal.load-requires
load-requires c = (search rules, search rules, sees _ _ _ _ _)
