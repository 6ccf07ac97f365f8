use Rattle.std.proofs.Common.{refl}
use Rattle.objects.proofs.store.Store.attach.Goals as goal

pub returns : goal.returns
returns c = rw (c.set_first.ensures, c.set_standing_under.ensures, c.set_leader.ensures, c.first_child-head.ensures) refl
