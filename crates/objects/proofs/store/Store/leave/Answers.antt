use Rattle.std.proofs.Common.{refl}
use Rattle.objects.proofs.store.Store.leave.Goals as goal

pub returns : goal.returns
returns c =
    rw (c.set_standing_under.ensures, c.set_leader.ensures, c.set_follower.ensures, c.set_first.ensures, c.heads.ensures) refl
