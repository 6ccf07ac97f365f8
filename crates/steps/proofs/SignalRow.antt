-- The effect of a signal that isn't refused: the first thread that waits got the badge and is ready; if nobody waits, the badge was added
-- to the word.
use Rattle.std.{specs.{Int.RustNames.bit_or, Prelude.{Contains, None, Ok, Option, Some, unwrap_or}}, proofs.Common.{[], ℕ, ◌∙◌, ◌∷◌, ◌≡◌}}
use Rattle.std.proofs.Common.{◌⊎◌, List, ap, inl, inr, refl, subst, sym}
use Rattle.base.specs.declared.ids.ObjId.{ObjId}
use Rattle.machine.specs.declared.{call.{Answer.Answer as answer, Made.{Made, TheVariants.Done}}, object.Notification.Notification}
use Rattle.machine.specs.{declared.{object.Object.Object as o, thread.{RunState.RunState, Tcb.Tcb}}, Capabilities.can_write}
use Rattle.machine.specs.{Changes.{first_waiting, with_tcb, without_waiting}, Machine.{Machine, object_of, queue_of, with_object}}
use Rattle.machine.specs.{Releasing.{unblocked, with_released}, Step.Signal.{pending_in, signal_of, signalled, woken}, WellFormed.IsThread}
use Rattle.machine.{specs.WellFormed.IsWellFormed, proofs.{Leaving.{first_leaves, objects_unqueued, released_there}, Queues.first_in}}
use Rattle.machine.proofs.Queues.{once_first}
use Rattle.machine.specs.declared.thread.Inbox.TheVariants as inbox
use Rattle.machine.specs.declared.thread.RunState.TheVariants as state
use Rattle.steps.proofs.{Conditions.same_ok, NotificationRow.{IsOpen, opens, waits_for, with_pending_there}}

-- a ready thread with a word in its inbox
abbrev pub roused : ℕ → Tcb → Tcb
roused word tcb = record tcb { state = state.Ready; inbox = inbox.Word word }

-- the first thread that waits at a notification leaves its queue, and gets the badge
pub record Wakes (m : Machine) (id : ObjId) (badge : ℕ) (next : Machine) : Type 0 where
  pub first : ObjId
  pub thread : Tcb
  pub there : IsThread m first thread
  pub waits : thread.state ≡ state.Waiting id
  pub changes : next ≡ with_released m first (roused badge)

-- a notification whose word has a badge added
abbrev pub marked : Notification → ℕ → Notification
marked notification badge = record notification { pending = Some (bit_or badge (unwrap_or notification.pending 0)) }

pub record SignalDone (m : Machine) (caller : ObjId) (address : ℕ) (next : Machine) : Type 0 where
  pub open_to : IsOpen m caller address (λ end. can_write end.rights)
  pub changes :
      Wakes m open_to.id open_to.end.badge next
      ⊎ (next ≡ with_object m open_to.id (o.Notification (marked open_to.notification open_to.end.badge)))

woken_there :
    (m : Machine) (id : ObjId) (old : Tcb) (word : ℕ) → object_of m id ≡ Some (o.Tcb old)
    → woken m id word ≡ with_tcb m id (roused word old)
unfolding woken
woken_there m id old word there = rw there refl

signalled_first :
    (m : Machine) (id first : ObjId) (others : List ObjId) (thread : Tcb) (badge : ℕ) → queue_of m id ≡ Some (first ∷ others)
    → ¬ (Contains others first) → IsThread m first thread → thread.state ≡ state.Waiting id
    → signalled m id badge ≡ with_released m first (roused badge)
unfolding signalled first_waiting
signalled_first m id first others thread badge waited once there waits =
    rw waited
    (ap (λ (n : Machine). woken n first badge) (sym (first_leaves m id first others waited once))
    ∙ woken_there (without_waiting m id first) first thread badge (objects_unqueued m id first first ∙ there)
    ∙ sym (ap (λ (run : RunState). with_tcb (unblocked m first run) first (roused badge thread)) waits)
    ∙ sym (released_there m first thread (roused badge) there))

signalled_alone :
    (m : Machine) (id : ObjId) (notification : Notification) (badge : ℕ) → first_waiting m id ≡ None
    → object_of m id ≡ Some (o.Notification notification)
    → signalled m id badge ≡ with_object m id (o.Notification (marked notification badge))
unfolding signalled
signalled_alone m id notification badge nobody there =
    rw nobody
    (with_pending_there m id notification _ there ∙ ap (λ object. with_object m id (o.Notification (record notification {
      pending =
          Some (bit_or badge (unwrap_or (pending_in object) 0));
    }))) there)

-- the notification after a signal
signalled_done :
    (m : Machine) (id : ObjId) (notification : Notification) (badge : ℕ) → IsWellFormed m
    → object_of m id ≡ Some (o.Notification notification)
    → Wakes m id badge (signalled m id badge)
    ⊎ (signalled m id badge ≡ with_object m id (o.Notification (marked notification badge)))
unfolding first_waiting
signalled_done m id notification badge formed there = by_queue (queue_of m id) refl where
  by_queue :
      (queue : Option (List ObjId)) → queue_of m id ≡ queue
      → Wakes m id badge (signalled m id badge)
      ⊎ (signalled m id badge ≡ with_object m id (o.Notification (marked notification badge)))
  by_queue None e = inr (signalled_alone m id notification badge (rw e refl) there)
  by_queue (Some []) e = inr (signalled_alone m id notification badge (rw e refl) there)
  by_queue (Some (first ∷ others)) e =
      let w = waits_for m id notification there formed.links (first ∷ others) first e (first_in first others) in
      let once = once_first first others (formed.links.once id (first ∷ others) e) first in
      inl (record {
        first = first;
        thread = w.0;
        there = w.1;
        waits = w.2;
        changes = signalled_first m id first others w.0 badge e (λ within. once within refl) w.1 w.2;
      })

pub signal_done :
    (m : Machine) (caller : ObjId) (address : ℕ) (made : Made) (next : Machine) → IsWellFormed m
    → signal_of m caller address ≡ Ok (made, next) → SignalDone m caller address next
unfolding signal_of
signal_done m caller address made next formed e =
    let row = opens m caller address (λ end. can_write end.rights)
    (λ found. Ok (Done answer.Nothing, signalled m found.0 found.1.badge)) (made, next) formed e in
    let open_to = row.0 in
    record {
      open_to = open_to;
      changes =
          subst (λ (after : Machine). Wakes m open_to.id open_to.end.badge after
          ⊎ (after ≡ with_object m open_to.id (o.Notification (marked open_to.notification open_to.end.badge))))
          (ap (λ p. p.1) (same_ok row.1))
          (signalled_done m open_to.id open_to.notification open_to.end.badge formed open_to.there);
    }
