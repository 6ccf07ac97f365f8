-- The run of the system of a receiver and a caller: first the receiver receives with its reply, and waits.
use Rattle.std.proofs.Common.{[], ◌∷◌, ◌≡◌, List, None, Ok, Option, Some, refl}
use Rattle.base.specs.declared.ids.ObjId.{ObjId}
use Rattle.machine.specs.declared.call.{Call.TheVariants.Receive, Event.Event, Made.TheVariants.Blocked, Outcome.Outcome as outcome}
use Rattle.machine.specs.declared.{object.Object.Object as o, thread.{Inbox.Inbox as inbox, Receiving.Receiving}}
use Rattle.machine.specs.{declared.thread.{RunState.RunState as state, Tcb.Tcb}, Boot.IsBoot, Changes.{first_waiting, with_reply, with_tcb}}
use Rattle.machine.specs.{Changes.with_waiting, Machine.Machine, Releasing.{with_blocked, with_holder_halted, with_holding}, Step.step_of}
use Rattle.machine.{specs.Step.{Deliver.first_at, Find.find, Receive.receive_of}, proofs.LookUps.queue_of-with_object}
use Rattle.machine.specs.declared.object.ObjectKind.TheVariants as kind
use Rattle.machine.specs.declared.object.ReplyState.TheVariants as reply
use Rattle.verdict.proofs.{BootChanges.{Change, becomes, changing, object_now, waits, with_changes}, ReplySystem.{answers, end_cap}}
use Rattle.verdict.proofs.{ReplySystem.{receiver, reply_cap, serving}, SmallSystem.{finding, id, reading, slot, stepping}}

-- what the receiver waits for
abbrev pub awaited : Receiving
awaited = record { endpoint = id 3; reply = Some (id 4); slot = None }

abbrev pub waiting : Option ObjId → Tcb
waiting runs_on = receiver (state.Receiving awaited) inbox.Empty runs_on

unfoldable pub receiving : Event
receiving = record { core = 0; thread = id 1; call = Receive 0 (Some 1) None }

abbrev queued : List Change
queued = waits 3 (id 1 ∷ []) ∷ becomes 1 (o.Tcb (waiting (Some (id 2)))) ∷ []

-- the receiver waits, and the reply with it
abbrev pub received : List Change
received = becomes 4 (answers (reply.Waiting (id 1))) ∷ queued

module _ (m : Machine) (boot : IsBoot serving m) where
  finds : find kind.Endpoint m (id 1) 0 ≡ Ok (slot 0 0, end_cap)
  unfolding finding reading serving
  finds = rw (boot.objects (id 1), boot.caps (slot 1 0), boot.objects (id 0), boot.caps (slot 0 0)) refl

  finds_reply : find kind.Reply m (id 1) 1 ≡ Ok (slot 0 1, reply_cap)
  unfolding finding reading serving
  finds_reply = rw (boot.objects (id 1), boot.caps (slot 1 0), boot.objects (id 0), boot.caps (slot 0 1)) refl

  nothing_ends : with_holder_halted m (id 4) ≡ m
  unfolding reading serving with_holder_halted
  nothing_ends = rw (boot.objects (id 4)) refl

  no_sender : first_at m (id 3) ≡ None
  unfolding first_at first_waiting reading serving
  no_sender = rw (boot.queues (id 3)) refl

  joins : with_blocked m (id 1) (id 3) (state.Receiving awaited) ≡ with_changes m queued
  unfolding reading serving with_blocked with_changes with_tcb with_waiting
  joins =
      rw (
        boot.objects (id 1),
        boot.objects (id 1),
        queue_of-with_object m (id 1) (o.Tcb (waiting (Some (id 2)))) (id 3),
        boot.queues (id 3),
      ) refl

  holds : with_holding (with_changes m queued) (id 4) (reply.Waiting (id 1)) ≡ with_changes m received
  unfolding changing reading serving with_changes with_holding with_reply
  holds = rw (object_now serving m boot queued (id 4), object_now serving m boot queued (id 4)) refl

  receives : receive_of m (id 1) 0 (Some 1) None ≡ Ok (Blocked, with_changes m received)
  unfolding receive_of
  receives = rw (finds, finds_reply, nothing_ends, no_sender, joins, holds) refl

  pub receive_made : step_of m receiving ≡ (outcome.Blocked, with_changes m received)
  unfolding reading receiving serving stepping
  receive_made = rw (boot.objects (id 1), boot.objects (id 2), receives) refl
