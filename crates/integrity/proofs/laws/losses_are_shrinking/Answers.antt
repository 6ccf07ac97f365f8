-- Each loss, by itself, is a shrinking.
use Rattle.{std.proofs.Common.{inl, inr, refl}, machine.specs.declared.object.Object.Object as o}
use Rattle.integrity.specs.Shrinks.{Lessens.{freed, released, unbound}, Stops.{aborted, goes_on, halted}}
use Rattle.integrity.proofs.Losses.{blocked, capability_left, lessened, member_left}
use Rattle.integrity.proofs.laws.losses_are_shrinking.Goals as goal

pub returns-clause-vanished : goal.returns-clause-vanished
returns-clause-vanished c = λ m next id gone. inl gone

pub returns-clause-capability : goal.returns-clause-capability
returns-clause-capability c = capability_left

pub returns-clause-member : goal.returns-clause-member
returns-clause-member c = member_left

pub returns-clause-freed : goal.returns-clause-freed
returns-clause-freed c = λ m id reply threads was waited.
    lessened m id (o.Reply reply) _ threads was waited (freed reply _ refl refl refl refl)

pub returns-clause-aborted : goal.returns-clause-aborted
returns-clause-aborted c = λ m id thread threads was waited awake active.
    lessened m id (o.Tcb thread) _ threads was waited
    (released thread _ refl refl refl (aborted (blocked thread.state awake active) refl refl) (inl refl))

pub returns-clause-halted : goal.returns-clause-halted
returns-clause-halted c = λ m id thread threads was waited awake active.
    lessened m id (o.Tcb thread) _ threads was waited
    (released thread _ refl refl refl (halted (blocked thread.state awake active) refl refl) (inl refl))

pub returns-clause-context : goal.returns-clause-context
returns-clause-context c = λ m id thread threads was waited.
    lessened m id (o.Tcb thread) _ threads was waited (released thread _ refl refl refl (goes_on refl refl) (inr refl))

pub returns-clause-thread : goal.returns-clause-thread
returns-clause-thread c = λ m id context threads was waited.
    lessened m id (o.Context context) _ threads was waited (unbound context _ refl refl refl refl refl)
