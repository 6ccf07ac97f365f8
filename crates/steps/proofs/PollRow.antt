-- The effect of a poll that isn't refused: it answered and took the word of the notification that it found.
use Rattle.std.{specs.Prelude.{None, Ok, unwrap_or}, proofs.Common.{ℕ, ◌∙◌, ◌≡◌, ap, sym}}
use Rattle.base.specs.declared.ids.ObjId.{ObjId}
use Rattle.machine.specs.declared.{call.{Answer.Answer as answer, Made.{Made, TheVariants.Done}}, object.Object.Object as o}
use Rattle.machine.specs.{Capabilities.can_read, Changes.with_pending, Machine.{Machine, object_of, with_object}, Step.Poll.poll_of}
use Rattle.machine.specs.{Step.Signal.pending_in, WellFormed.IsWellFormed}
use Rattle.steps.proofs.{Conditions.same_ok, NotificationRow.{IsOpen, opens, with_pending_there}}

pub record PollDone (m : Machine) (caller : ObjId) (address : ℕ) (next : Machine) : Type 0 where
  pub open_to : IsOpen m caller address (λ end. can_read end.rights)
  pub changes : next ≡ with_object m open_to.id (o.Notification (record open_to.notification { pending = None }))

pub poll_done :
    (m : Machine) (caller : ObjId) (address : ℕ) (made : Made) (next : Machine) → IsWellFormed m
    → poll_of m caller address ≡ Ok (made, next) → PollDone m caller address next
unfolding poll_of
poll_done m caller address made next formed e =
    let row = opens m caller address (λ end. can_read end.rights)
    (λ found. Ok (Done (answer.Word (unwrap_or (pending_in (object_of m found.0)) 0)), with_pending m found.0 None))
    (made, next) formed e in
    let open_to = row.0 in
    record {
      open_to = open_to;
      changes =
          sym (ap (λ p. p.1) (same_ok row.1)) ∙ with_pending_there m open_to.id open_to.notification None open_to.there;
    }
