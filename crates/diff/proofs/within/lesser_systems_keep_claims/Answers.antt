use Rattle.diff.proofs.WithinClaims.{unbroken}
use Rattle.diff.proofs.within.lesser_systems_keep_claims.Goals as goal

pub returns : goal.returns
returns c = unbroken
