-- Ends of events in code are steps: the event was made, or refused by a condition or for want of memory.
use Rattle.std.{specs.Prelude.IsOk, proofs.Common.{◌≡◌, Bool, Err, Ok, Result, refl, subst, sym}}
use Rattle.base.specs.{declared.refusal.Cause.Cause, Refusals.refusal_of}
use Rattle.machine.specs.declared.call.{Event.Event, Made.Made, Outcome.TheVariants.Refused, Unmade.{Unmade, Unmade as unmade}}
use Rattle.machine.specs.{Machine.Machine, Makes.MakesWithMemory, Outcomes.unmade_refusal, Step.{Step, made_by, takes_memory, Step.lacks}}
use Rattle.steps.proofs.Steps.{refused_steps}

pub refused_by_row :
    (m next : Machine) (event : Event) (cause : Cause) → (made_by m event ≡ Err cause) × (next ≡ m)
    → Step m event (Refused (refusal_of cause)) next
refused_by_row m next event cause refused =
    subst (λ (after : Machine). Step m event (Refused (refusal_of cause)) after) (sym refused.1)
    (refused_steps m event cause refused.0)

could_be : (defined : Result (Made × Machine) Cause) → IsOk defined → (made : Made × Machine) × (defined ≡ Ok made)
could_be (Ok made) is = (made, refl)
could_be (Err cause) is = absurd (cc is)

pub unmade_is :
    (m next : Machine) (event : Event) (why : Unmade) → takes_memory event.call ≡ Bool.true
    → MakesWithMemory m next (Err why) (made_by m event) → Step m event (Refused (unmade_refusal why)) next
unmade_is m next event (unmade.Refused cause) takes refused = refused_by_row m next event cause refused
unmade_is m next event unmade.OutOfMemory takes lacking =
    let could = could_be (made_by m event) lacking.0 in
    lacks (record { takes = takes; made = could.0; could = could.1; refused = refl; same = lacking.1 })
