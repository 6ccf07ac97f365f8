use Rattle.objects.proofs.TreeState.{filled_slots}
use Rattle.objects.proofs.state.State.caps_are_in_slots.Goals as goal

pub returns : goal.returns
returns c =
    λ slot held filled.
    rw (← c.self.view_is) (filled_slots c.self.inside c.self.invariant.consistent slot held (rw c.self.view_is filled))
