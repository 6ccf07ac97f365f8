use Rattle.objects.proofs.CapBounds.{caps_for_objects}
use Rattle.objects.proofs.state.State.caps_are_for_objects.Goals as goal

pub returns : goal.returns
returns c =
    λ slot held filled.
    rw (← c.self.view_is) (caps_for_objects c.self.inside c.self.invariant slot held (rw c.self.view_is filled))
