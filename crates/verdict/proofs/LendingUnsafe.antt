-- A system that breaks P8 alone and isn't safe: a receiver waits with a reply; the caller unbinds the receiver's context, and calls; and
-- the receiver runs on the context of the caller.
use Rattle.std.proofs.Common.{[], ℕ, ◌==◌, ◌||◌, ◌∷◌, ◌≡◌, List, None, Ok, Option, Some, false, lit≤, refl, true}
use Rattle.base.specs.declared.{ids.{ObjId.ObjId, SlotRef.SlotRef}, kind.Kind.TheVariants.{Context, Control, Runs}}
use Rattle.machine.specs.declared.call.{Answer.TheVariants.Nothing, Call.TheVariants.{Call, Unbind}, Event.Event}
use Rattle.machine.specs.declared.{call.{Made.TheVariants.{Blocked, Done}, Outcome.Outcome as outcome}, object.Object.Object as o}
use Rattle.machine.specs.declared.thread.{Calling.Calling, Inbox.Inbox as inbox, RunState.RunState as state, Sending.Sending, Tcb.Tcb}
use Rattle.machine.specs.{Authority.{HasAuthority, HasAuthority.by_link}, Boot.IsBoot}
use Rattle.machine.specs.{Changes.{first_waiting, with_reply, with_tcb, without_waiting}, Machine.{Machine, cap_of, object_of}}
use Rattle.machine.specs.{Releasing.{with_called, with_halted, with_holding, with_released}, Step.Bind.{unbind_of, with_handed}}
use Rattle.machine.specs.Step.{Deliver.{arrival_of, delivered, first_at, sending_by}, Find.find, Send.endpoint_call_of, Step.ends, step_of}
use Rattle.{steps.proofs.ContextsFormed.{bound_is, unbound_is}, policy.specs.{Domain.EdgeTest, Needed.lent_runs}}
use Rattle.verdict.{specs.Counterexamples.UnsafeWithout, proofs.BootChanges.{Change, becomes, cap_after, cap_now}}
use Rattle.verdict.proofs.BootChanges.{changing, label_now, object_after, object_now, queue_now, waits, with_changes}
use Rattle.verdict.proofs.{FewLabels.among, ReplyRun.{awaited, receive_made, received, receiving, waiting}}
use Rattle.verdict.proofs.ReplySystem.{answers, caller, context, context_cap, end, end_cap, receiver, serving}
use Rattle.verdict.proofs.{SmallSystem.{finding, id, reading, slot, stepping}, UnsafeBy.{LeadsOutside, tests, unsafe_by_tests}}
use Rattle.machine.specs.declared.object.ObjectKind.TheVariants as kind
use Rattle.machine.specs.declared.object.ReplyState.TheVariants as reply

-- The policy, of the labels 0 and 1, obeys every rule but P8: each label has every edge to 0, and to 1 every edge but control and context,
-- and 1 alone runs on 1.
abbrev joins : EdgeTest
joins a Control b = b == 0
joins a Context b = b == 0
joins a Runs b = b == 0 || a == 1
joins a k b = true

abbrev words : List ℕ
words = 0 ∷ 0 ∷ 0 ∷ 0 ∷ []

unfoldable unbinding : Event
unbinding = record { core = 0; thread = id 5; call = Unbind 2 }

unfoldable calling : Event
calling = record { core = 0; thread = id 5; call = Call 0 words None }

abbrev sent : Sending
sent = sending_by (id 3) end true words None

-- the receiver has the message of the call
abbrev woken : Option ObjId → Tcb
woken runs_on = receiver state.Ready (inbox.Message (record { badge = 0; words = words; capability = false })) runs_on

-- what is recorded of the call
abbrev loan : Calling
loan = record { reply = id 4; lent = Some (record { context = id 6; borrower = id 1 }) }

-- the changes, one after the other

-- the receiver has no context
abbrev unbound : List Change
unbound = becomes 2 (o.Context (context 0x4000 None)) ∷ becomes 1 (o.Tcb (waiting None)) ∷ received

-- the receiver gets the message, and is in no queue and held by no reply
abbrev freed : List Change
freed = becomes 4 (answers reply.Free) ∷ waits 3 [] ∷ unbound

abbrev told : List Change
told = becomes 1 (o.Tcb (woken None)) ∷ freed

-- the caller can't run, and waits for the answer
abbrev halted : List Change
halted = becomes 5 (o.Tcb (caller state.Inactive (Some (id 6)))) ∷ told

abbrev marked : List Change
marked = becomes 5 (o.Tcb (caller (state.Called loan) (Some (id 6)))) ∷ halted

abbrev called : List Change
called = becomes 4 (answers (reply.Called (id 5))) ∷ marked

-- its context goes over
abbrev idle : List Change
idle = becomes 6 (o.Context (context 0x4100 None)) ∷ becomes 5 (o.Tcb (caller (state.Called loan) None)) ∷ called

abbrev lent : List Change
lent = becomes 6 (o.Context (context 0x4100 (Some (id 1)))) ∷ becomes 1 (o.Tcb (woken (Some (id 6)))) ∷ idle

module _ (m : Machine) (boot : IsBoot serving m) where
  -- what there is after changes

  now : (changes : List Change) (q : ObjId) → object_of (with_changes m changes) q ≡ object_after serving changes q
  now changes q = object_now serving m boot changes q

  cap : (changes : List Change) (q : SlotRef) → cap_of (with_changes m changes) q ≡ cap_after serving changes q
  cap changes q = cap_now serving m boot changes q

  finds_context : find kind.Context (with_changes m received) (id 5) 2 ≡ Ok (slot 0 2, context_cap)
  unfolding changing finding reading serving
  finds_context =
      rw (now received (id 5), cap received (slot 5 0), now received (id 0), cap received (slot 0 2)) refl

  unbinds : unbind_of (with_changes m received) (id 5) 2 ≡ Ok (Done Nothing, with_changes m unbound)
  unfolding changing reading serving unbind_of with_changes
  unbinds =
      rw (
        finds_context,
        now received (id 2),
        unbound_is (with_changes m received) (id 2) (id 1) (context 0x4000 (Some (id 1))) (waiting (Some (id 2)))
            (now received (id 2)) (now received (id 1)) refl,
      ) refl

  unbind_made : step_of (with_changes m received) unbinding ≡ (outcome.Done Nothing, with_changes m unbound)
  unfolding changing reading serving stepping unbinding
  unbind_made = rw (now received (id 5), now received (id 6), unbinds) refl

  finds : find kind.Endpoint (with_changes m unbound) (id 5) 0 ≡ Ok (slot 0 0, end_cap)
  unfolding changing finding reading serving
  finds = rw (now unbound (id 5), cap unbound (slot 5 0), now unbound (id 0), cap unbound (slot 0 0)) refl

  first : first_at (with_changes m unbound) (id 3) ≡ Some (id 1, state.Receiving awaited)
  unfolding changing first_at first_waiting
  first = rw (queue_now serving m boot unbound (id 3), now unbound (id 1)) refl

  frees : with_holding (with_changes m (waits 3 [] ∷ unbound)) (id 4) reply.Free ≡ with_changes m freed
  unfolding changing with_changes with_holding with_reply
  frees = rw (now (waits 3 [] ∷ unbound) (id 4), now (waits 3 [] ∷ unbound) (id 4)) refl

  delivers : delivered (with_changes m unbound) (id 5) sent (id 1) awaited ≡ with_changes m told
  unfolding arrival_of changing delivered with_changes with_released with_tcb without_waiting
  delivers = rw (now unbound (id 1), queue_now serving m boot unbound (id 3), frees, now freed (id 1)) refl

  halts : with_halted (with_changes m told) (id 5) ≡ with_changes m halted
  unfolding changing reading serving with_changes with_released with_tcb
  halts = rw (now told (id 5), now told (id 5)) refl

  calls : with_called (with_changes m halted) (id 5) loan ≡ with_changes m called
  unfolding changing with_called with_changes with_holding with_reply with_tcb
  calls = rw (now halted (id 5), now halted (id 5), now marked (id 4), now marked (id 4)) refl

  hands : with_handed (with_changes m called) (id 5) (id 1) ≡ with_changes m lent
  unfolding changing reading serving with_changes with_handed
  hands =
      rw (
        now called (id 5),
        unbound_is (with_changes m called) (id 6) (id 5) (context 0x4100 (Some (id 5))) (caller (state.Called loan) (Some (id 6)))
            (now called (id 6)) (now called (id 5)) refl,
        bound_is (with_changes m idle) (id 6) (id 1) (context 0x4100 None) (woken None) (now idle (id 6)) (now idle (id 1)),
      ) refl

  lends : endpoint_call_of (with_changes m unbound) (id 5) 0 words None ≡ Ok (Blocked, with_changes m lent)
  unfolding changing endpoint_call_of reading serving
  lends = rw (finds, first, delivers, now told (id 5), now told (id 1), halts, calls, hands) refl

  call_made : step_of (with_changes m unbound) calling ≡ (outcome.Blocked, with_changes m lent)
  unfolding calling changing reading serving stepping
  call_made = rw (now unbound (id 5), now unbound (id 6), lends) refl

  -- the receiver runs on the caller's context
  outside : HasAuthority serving (with_changes m lent) 0 Runs 1
  unfolding changing reading serving
  outside =
      by_link (id 1) (id 6) (o.Tcb (woken (Some (id 6)))) (now lent (id 1)) refl
      (label_now serving m boot lent 1 (o.Tcb (receiver state.Ready inbox.Empty (Some (id 2)))) (o.Tcb (woken (Some (id 6)))) refl refl refl)
      (label_now serving m boot lent 6 (o.Context (context 0x4100 (Some (id 5)))) (o.Context (context 0x4100 (Some (id 1)))) refl refl refl)

leads : (m : Machine) → IsBoot serving m → LeadsOutside serving (among 2 joins) m
unfolding among
leads m boot = record {
  events = receiving ∷ unbinding ∷ calling ∷ [];
  outcomes = outcome.Blocked ∷ outcome.Done Nothing ∷ outcome.Blocked ∷ [];
  next = with_changes m lent;
  run = (
    with_changes m received,
    ends (receive_made m boot),
    (with_changes m unbound, ends (unbind_made m boot), (with_changes m lent, ends (call_made m boot), refl)),
  );
  from = 0;
  kind = Runs;
  to = 1;
  has = outside m boot;
  missing = refl;
}

pub unsafe_without_lending : UnsafeWithout lent_runs
unfolding serving tests
unsafe_without_lending = unsafe_by_tests lent_runs serving 2 joins (lit≤ tt) refl refl leads
