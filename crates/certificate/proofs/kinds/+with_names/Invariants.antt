use Rattle.std.proofs.Common.{length}
use Rattle.certificate.proofs.kinds.+with_names.Given as goal

-- fewer bytes are left after each name
abbrev pub decreases-with_names : goal.decreases-with_names
decreases-with_names l = length l.names.now
