-- Runs of a fixed system: each leaves it as it is, by induction over its events, and each call is refused that needs a capability for a
-- CNode or for a thread.
use Rattle.std.proofs.Common.{[], ◌∙◌, ◌∷◌, ◌≡◌, ◌⊎◌, Err, List, Ok, Result, ap, inl, inr, refl, subst, sym}
use Rattle.base.specs.declared.refusal.Cause.{Cause}
use Rattle.machine.specs.{declared.call.{Event.Event, Made.Made, Outcome.Outcome}, Boot.IsBoot, Layout.Layout, Machine.Machine}
use Rattle.machine.specs.{Outcomes.IsRefused, Run.Run, Step.{Step, Step.{ends, lacks}, made_by, settled, step_of}, WellFormed.IsWellFormed}
use Rattle.{steps.proofs.Calls.{EventDone, event_done, run_formed, step_done, step_formed}, table.proofs.AtBoot.boot_kind}
use Rattle.noninterference.{specs.Fixed.{IsFixed, NeedsNodeOrThread, StaysFixed}, proofs.CallsStay.{call_stays, none_done}}
use Rattle.noninterference.proofs.{Finds.IsFixedAt, Staying.{fixed_stays, stays_along, stays_itself}}

-- the boot state of a fixed system
pub boot_fixed : (t : Layout) (boot : Machine) → IsFixed t → IsBoot t boot → IsFixedAt boot
boot_fixed t boot fixed booted = record {
  none =
      λ slot held filled node.
      fixed slot held (sym (booted.caps slot) ∙ filled) (sym (boot_kind t boot booted slot.holder) ∙ node);
}

step_stays :
    (m next : Machine) (event : Event) (outcome : Outcome) → IsWellFormed m → IsFixedAt m → Step m event outcome next
    → StaysFixed m next
step_stays m next event outcome formed fixed step = by_case (step_done m event outcome next formed step) where
  by_case : EventDone m event next ⊎ (next ≡ m) → StaysFixed m next
  by_case (inl done) = call_stays m next event.thread fixed event.call done.done
  by_case (inr same) = subst (λ (n : Machine). StaysFixed m n) (sym same) (stays_itself m)

pub run_stays :
    (first : Machine) (events : List Event) (outcomes : List Outcome) (last : Machine) → IsWellFormed first → IsFixedAt first
    → Run first events outcomes last → StaysFixed first last
run_stays first [] [] last formed fixed ran = subst (λ (n : Machine). StaysFixed first n) ran (stays_itself first)
run_stays first [] (outcome ∷ outcomes) last formed fixed ran = absurd ran
run_stays first (event ∷ events) [] last formed fixed ran = absurd ran
run_stays first (event ∷ events) (outcome ∷ outcomes) last formed fixed ran =
    let stays = step_stays first ran.0 event outcome formed fixed ran.1 in
    stays_along first ran.0 last stays
    (run_stays ran.0 events outcomes last (step_formed first event outcome ran.0 formed ran.1) (fixed_stays first ran.0 fixed stays) ran.2)

-- a step is refused, or its event was made
refused_or_made :
    (m next : Machine) (event : Event) (outcome : Outcome) → IsWellFormed m → Step m event outcome next
    → IsRefused outcome ⊎ EventDone m event next
unfolding step_of
refused_or_made m next event outcome formed (lacks without) = inl (subst IsRefused (sym without.refused) tt)
refused_or_made m next event outcome formed (ends e) = by_made (made_by m event) refl e where
  by_made :
      (r : Result (Made × Machine) Cause) → made_by m event ≡ r → settled m r ≡ (outcome, next)
      → IsRefused outcome ⊎ EventDone m event next
  by_made (Ok (made, after)) is same =
      inr (event_done m event made next formed (is ∙ ap (λ (n : Machine). Ok (made, n)) (ap (λ p. p.1) same)))
  by_made (Err cause) is same = inl (subst IsRefused (ap (λ p. p.0) same) tt)

pub step_refused :
    (m next : Machine) (event : Event) (outcome : Outcome) → IsWellFormed m → IsFixedAt m → NeedsNodeOrThread event.call
    → Step m event outcome next → IsRefused outcome
step_refused m next event outcome formed fixed needs step = by_case (refused_or_made m next event outcome formed step) where
  by_case : IsRefused outcome ⊎ EventDone m event next → IsRefused outcome
  by_case (inl refused) = refused
  by_case (inr done) = absurd (none_done m next event.thread fixed event.call needs done.done)

-- from the boot state on
pub run_refuses :
    (boot m next : Machine) (events : List Event) (outcomes : List Outcome) (event : Event) (outcome : Outcome) → IsWellFormed boot
    → IsFixedAt boot → Run boot events outcomes m → NeedsNodeOrThread event.call → Step m event outcome next → IsRefused outcome
run_refuses boot m next events outcomes event outcome formed fixed ran =
    step_refused m next event outcome (run_formed boot events outcomes m formed ran)
    (fixed_stays boot m fixed (run_stays boot events outcomes m formed fixed ran))
