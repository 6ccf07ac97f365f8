-- The run of the system of a giver and a taker: the taker receives at the endpoint, and waits; the giver sends the frame's capability, and
-- the taker's CNode then holds a copy that is derived from it.
use Rattle.std.proofs.Common.{[], ℕ, ◌∷◌, ◌≡◌, List, None, Ok, Some, false, refl, true}
use Rattle.base.specs.declared.ids.{ObjId.ObjId, SlotRef.SlotRef}
use Rattle.machine.specs.declared.call.{Answer.TheVariants.Nothing, Call.TheVariants.{Receive, Send}, Event.Event, Made.TheVariants.Blocked}
use Rattle.machine.specs.declared.{call.{Made.TheVariants.Done, Outcome.{Outcome, Outcome as outcome}}, cap.Cap.Cap, object.Object.Object}
use Rattle.machine.specs.declared.{object.ObjectKind.ObjectKind as kind, slot_address.{Ends.Ends, SlotAddress.SlotAddress}}
use Rattle.machine.specs.declared.thread.{Inbox.Inbox as inbox, Message.Message, Receiving.Receiving, RunState.RunState as state}
use Rattle.machine.specs.{declared.thread.Sending.Sending, Boot.IsBoot, Changes.{first_waiting, with_tcb, with_waiting, without_waiting}}
use Rattle.machine.specs.{Machine.{Machine, cap_of, object_of}, Releasing.{with_blocked, with_given, with_released}, Run.Run, Step.step_of}
use Rattle.machine.specs.Step.{Deliver.{arrival_of, delivered, first_at, sending_by}, Find.{find, find_cap}, Receive.receive_of}
use Rattle.machine.{specs.{Step.{Send.send_of, Step.ends, Target.target_of}, Tree.{copied, with_copy}}, proofs.LookUps.queue_of-with_object}
use Rattle.verdict.proofs.BootChanges.{Change, becomes, cap_after, cap_now, changing, derives, fills, object_after, object_now}
use Rattle.verdict.proofs.{BootChanges.{queue_now, waits, with_changes}, GrantSystem.{frame_cap, give_cap, give_end, granting}}
use Rattle.verdict.proofs.{GrantSystem.{take_cap, taker}, SmallSystem.{finding, id, reading, slot, stepping}}

-- the empty slot of the taker's CNode
abbrev to : SlotAddress
to = record { root = 1; index = 2; depth = 64 }

abbrev words : List ℕ
words = 0 ∷ 0 ∷ 0 ∷ 0 ∷ []

unfoldable receiving : Event
receiving = record { core = 0; thread = id 3; call = Receive 0 None (Some to) }

unfoldable sending : Event
sending = record { core = 0; thread = id 2; call = Send 0 words (Some 1) }

pub events : List Event
events = receiving ∷ sending ∷ []

pub outcomes : List Outcome
outcomes = outcome.Blocked ∷ outcome.Done Nothing ∷ []

-- what the taker waits for, and what the giver sends
abbrev awaited : Receiving
awaited = record { endpoint = id 6; reply = None; slot = Some to }

abbrev sent : Sending
sent = sending_by (id 6) give_end false words (Some 1)

abbrev waiting : Object
waiting = taker (Some (id 5)) (state.Receiving awaited) inbox.Empty

abbrev pub copy : Cap
copy = copied frame_cap frame_cap.detail

abbrev route : Ends
route = record { target = slot 1 2; source = slot 0 1; held = frame_cap }

abbrev message : Message
message = record { badge = 0; words = words; capability = true }

abbrev answered : Object
answered = taker (Some (id 5)) state.Ready (inbox.Message message)

-- the changes, one after the other

-- the taker waits
abbrev queued : List Change
queued = waits 6 (id 3 ∷ []) ∷ becomes 3 waiting ∷ []

-- the giver's capability arrives
abbrev arrived : List Change
arrived = derives (slot 1 2) (slot 0 1) ∷ fills (slot 1 2) copy ∷ queued

abbrev emptied : List Change
emptied = waits 6 [] ∷ arrived

-- and the taker has the message
abbrev pub given : List Change
given = becomes 3 answered ∷ emptied

module _ (m : Machine) (boot : IsBoot granting m) where
  finds_end : find kind.Endpoint m (id 3) 0 ≡ Ok (slot 1 0, take_cap)
  unfolding finding granting reading
  finds_end = rw (boot.objects (id 3), boot.caps (slot 3 0), boot.objects (id 1), boot.caps (slot 1 0)) refl

  no_sender : first_at m (id 6) ≡ None
  unfolding first_at first_waiting granting reading
  no_sender = rw (boot.queues (id 6)) refl

  joins : with_blocked m (id 3) (id 6) (state.Receiving awaited) ≡ with_changes m queued
  unfolding granting reading with_blocked with_changes with_tcb with_waiting
  joins =
      rw (boot.objects (id 3), boot.objects (id 3), queue_of-with_object m (id 3) waiting (id 6), boot.queues (id 6)) refl

  receives : receive_of m (id 3) 0 None (Some to) ≡ Ok (Blocked, with_changes m queued)
  unfolding receive_of
  receives = rw (finds_end, no_sender, joins) refl

  received : step_of m receiving ≡ (outcome.Blocked, with_changes m queued)
  unfolding granting reading receiving stepping
  received = rw (boot.objects (id 3), boot.objects (id 5), receives) refl

  -- what there is after changes

  now : (changes : List Change) (q : ObjId) → object_of (with_changes m changes) q ≡ object_after granting changes q
  now changes q = object_now granting m boot changes q

  cap : (q : SlotRef) → cap_of (with_changes m queued) q ≡ cap_after granting queued q
  cap q = cap_now granting m boot queued q

  finds_own : find kind.Endpoint (with_changes m queued) (id 2) 0 ≡ Ok (slot 0 0, give_cap)
  unfolding changing finding granting reading
  finds_own = rw (now queued (id 2), cap (slot 2 0), now queued (id 0), cap (slot 0 0)) refl

  receiver_first : first_at (with_changes m queued) (id 6) ≡ Some (id 3, state.Receiving awaited)
  unfolding changing first_at first_waiting
  receiver_first = rw (queue_now granting m boot queued (id 6), now queued (id 3)) refl

  source : find_cap (with_changes m queued) (id 2) 1 ≡ Ok (slot 0 1, frame_cap)
  unfolding changing finding granting reading
  source = rw (now queued (id 2), cap (slot 2 0), now queued (id 0), cap (slot 0 1)) refl

  target : target_of (with_changes m queued) (id 3) to ≡ Ok (slot 1 2)
  unfolding changing finding granting reading target_of
  target =
      rw (now queued (id 3), cap (slot 3 0), now queued (id 1), cap (slot 1 1), cap (slot 1 1), now queued (id 1)) refl

  arrives : arrival_of (with_changes m queued) (id 2) sent (id 3) (Some to) ≡ Ok route
  unfolding arrival_of changing granting reading
  arrives = rw (source, target, cap (slot 1 2)) refl

  copies : with_copy (with_changes m queued) (slot 1 2) (slot 0 1) frame_cap frame_cap.detail ≡ with_changes m arrived
  unfolding with_changes with_copy
  copies = refl

  wakes : with_given (with_changes m arrived) (id 3) message ≡ with_changes m given
  unfolding changing with_changes with_released with_tcb without_waiting
  wakes = rw (now arrived (id 3), queue_now granting m boot arrived (id 6), now emptied (id 3)) refl

  delivers : delivered (with_changes m queued) (id 2) sent (id 3) awaited ≡ with_changes m given
  unfolding delivered
  delivers = rw (arrives, copies, wakes) refl

  sends : send_of (with_changes m queued) (id 2) 0 words (Some 1) ≡ Ok (Done Nothing, with_changes m given)
  unfolding send_of
  sends = rw (finds_own, receiver_first, delivers) refl

  made : step_of (with_changes m queued) sending ≡ (outcome.Done Nothing, with_changes m given)
  unfolding changing granting reading sending stepping
  made = rw (now queued (id 2), now queued (id 4), sends) refl

  pub runs : Run m events outcomes (with_changes m given)
  unfolding events outcomes
  runs = (with_changes m queued, ends received, (with_changes m given, ends made, refl))
