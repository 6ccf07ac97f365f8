-- S6 to S8 don't depend on the keepers.
use Rattle.base.specs.Labels.{is_in}
use Rattle.sharp.proofs.broken.Rule.broken_at.Goals as goal

pub returns-in-S6 : goal.returns-in-S6
returns-in-S6 c = rw c.in-S6.is (c.context_lacks.ensures (is_in c.args.keeping))

pub returns-in-S7 : goal.returns-in-S7
returns-in-S7 c = rw c.in-S7.is (c.reply_lacks.ensures (is_in c.args.keeping))

pub returns-in-S8 : goal.returns-in-S8
returns-in-S8 c = rw c.in-S8.is (c.lent_lacks.ensures (is_in c.args.keeping))
