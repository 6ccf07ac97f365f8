use Rattle.std.proofs.Common.{refl}
use Rattle.commands.proofs.end.unread_message.Goals as goal

-- the longest lines, which a search doesn't compute

pub returns-in-Certificate : goal.returns-in-Certificate
returns-in-Certificate c = rw c.in-Certificate.is refl

pub returns-in-Description : goal.returns-in-Description
returns-in-Description c = rw c.in-Description.is refl
