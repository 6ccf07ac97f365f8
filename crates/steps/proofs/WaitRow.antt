-- The effect of a wait that isn't refused: it took the word of the notification that it found; if there was none, the caller waits.
use Rattle.std.{specs.Prelude.{None, Ok, Option, Some}, proofs.Common.{ℕ, ◌∙◌, ◌≡◌, ◌⊎◌, ap, inl, inr, sym}}
use Rattle.base.specs.declared.ids.ObjId.{ObjId}
use Rattle.machine.specs.{declared.{call.Made.Made, object.Object.Object as o, thread.RunState.RunState as state}, Capabilities.can_read}
use Rattle.machine.specs.{Machine.{Machine, object_of, with_object}, Releasing.with_blocked, Step.Signal.pending_in}
use Rattle.machine.specs.{Step.Wait.{taken_or_awaited, wait_of}, WellFormed.IsWellFormed}
use Rattle.steps.proofs.{Conditions.same_ok, NotificationRow.{IsOpen, opens, with_pending_there}}

pub record WaitDone (m : Machine) (caller : ObjId) (address : ℕ) (next : Machine) : Type 0 where
  pub open_to : IsOpen m caller address (λ end. can_read end.rights)
  pub changes :
      (next ≡ with_object m open_to.id (o.Notification (record open_to.notification { pending = None })))
      ⊎ (next ≡ with_blocked m caller open_to.id (state.Waiting open_to.id))

pub wait_done :
    (m : Machine) (caller : ObjId) (address : ℕ) (made : Made) (next : Machine) → IsWellFormed m
    → wait_of m caller address ≡ Ok (made, next) → WaitDone m caller address next
unfolding wait_of
wait_done m caller address made next formed e =
    let row = opens m caller address (λ end. can_read end.rights)
    (λ found. Ok (taken_or_awaited m caller found.0 (pending_in (object_of m found.0)))) (made, next) formed e in
    record { open_to = row.0; changes = by_word row.0 (row.0.notification.pending) (ap pending_in row.0.there) (same_ok row.1) }
  where
    by_word :
        (open_to : IsOpen m caller address (λ end. can_read end.rights)) (word : Option ℕ)
        → pending_in (object_of m open_to.id) ≡ word
        → taken_or_awaited m caller open_to.id (pending_in (object_of m open_to.id)) ≡ (made, next)
        → (next ≡ with_object m open_to.id (o.Notification (record open_to.notification { pending = None })))
        ⊎ (next ≡ with_blocked m caller open_to.id (state.Waiting open_to.id))
    by_word open_to (Some word) pending does =
        inl
        (sym (ap (λ p. p.1) (sym (ap (taken_or_awaited m caller open_to.id) pending) ∙ does))
        ∙ with_pending_there m open_to.id open_to.notification None open_to.there)
    by_word open_to None pending does =
        inr (sym (ap (λ p. p.1) (sym (ap (taken_or_awaited m caller open_to.id) pending) ∙ does)))
