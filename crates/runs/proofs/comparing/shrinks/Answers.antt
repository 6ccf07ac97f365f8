use Rattle.runs.proofs.Seen.{shrinks_by_sights, sights_by_shrinking}
use Rattle.runs.proofs.comparing.shrinks.Goals as goal

pub returns : goal.returns
returns c m next id g h = (
  λ yes. shrinks_by_sights m next id c.args.was.now c.args.is.now g h (c.have_less.ensures.0 yes),
  λ less. c.have_less.ensures.1 (sights_by_shrinking m next id c.args.was.now c.args.is.now g h less),
)
