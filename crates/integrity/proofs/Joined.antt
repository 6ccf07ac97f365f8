-- The ends of capabilities, pairs and links: those of capabilities and pairs are there, and the numbers of those of links were given
-- out, in a well-formed machine, and after a change of a content without links.
use Rattle.std.proofs.{Common.{◌<◌, ◌∙◌, ◌≡◌, Some, ap, arith, false, inl, inr, refl, sym, true}, lemmas.Bool.{and_parts, false≢true}}
use Rattle.std.proofs.lemmas.Option.{same_Some}
use Rattle.base.specs.declared.{ids.{ObjId.ObjId, SlotRef.SlotRef}, kind.Kind.{Kind, Kind as authority}}
use Rattle.machine.specs.declared.{cap.Cap.Cap, object.{Object.{Object, Object as o}, Reply.Reply, ReplyState.ReplyState}}
use Rattle.machine.specs.declared.object.ReplyState.TheVariants as reply
use Rattle.machine.specs.{declared.thread.{RunState.RunState, Tcb.Tcb}, Authority.{holds_thread, context_lent, links, state_links}}
use Rattle.machine.specs.declared.thread.RunState.TheVariants as state
use Rattle.machine.specs.{Machine.{Machine, cap_of, object_of, parent_of, with_object}, WellFormed.{IsReceivingWith, IsThread}}
use Rattle.machine.{specs.WellFormed.{IsWellFormed, WaitsAt}, proofs.{Ids.{at_itself, at_other, one_or_two}, LookUps.cap_of-with_object}}
use Rattle.machine.proofs.{LookUps.{number_of-with_object, object_of-with_object, one_id, parent_of-with_object}, RunsLinks.named_so}
use Rattle.machine.proofs.RunsLinks.{runs_by}

abbrev pub IsThere : Machine → ObjId → Type 0
IsThere m id = (object : Object) × (object_of m id ≡ Some object)

-- the holders of filled slots and of pairs are there, and the ends of links were
pub record IsJoined (m : Machine) : Type 0 where
  pub filled : (slot : SlotRef) (cap : Cap) → cap_of m slot ≡ Some cap → IsThere m slot.holder
  pub child : (slot parent : SlotRef) → parent_of m slot ≡ Some parent → IsThere m slot.holder
  pub parent : (slot parent : SlotRef) → parent_of m slot ≡ Some parent → IsThere m parent.holder
  pub ends :
      (id end : ObjId) (object : Object) (k : Kind) → object_of m id ≡ Some object → links object k end ≡ true → end.0 < m.next

module _
    (m : Machine) (formed : IsWellFormed m)
    (lent :
    (id context : ObjId) (thread : Tcb) → object_of m id ≡ Some (o.Tcb thread) → context_lent thread.state ≡ Some context
    → context.0 < m.next) where
  waited_at : (thread end : ObjId) (tcb : Tcb) → IsThread m thread tcb → WaitsAt tcb.state end → IsThere m end
  waited_at thread end tcb is waits =
      let queue = formed.links.waiting thread end tcb is waits in
      formed.parts.queue_of_object end queue.0 queue.1

  -- what a run state links to
  state_end :
      (thread end : ObjId) (tcb : Tcb) (run : RunState) (k : Kind) → IsThread m thread tcb
      → ((id : ObjId) → WaitsAt run id → WaitsAt tcb.state id)
      → ((id : ObjId) → IsReceivingWith run id → IsReceivingWith tcb.state id)
      → state_links run k end ≡ true → IsThere m end
  state_end thread end tcb (state.Sending sending) authority.Send is waits names e =
      waited_at thread end tcb is (waits end (one_id sending.endpoint end e))
  state_end thread end tcb (state.Sending sending) authority.Grant is waits names e =
      waited_at thread end tcb is (waits end (one_id sending.endpoint end (and_parts _ _ e).1))
  state_end thread end tcb (state.Sending sending) authority.Call is waits names e =
      waited_at thread end tcb is (waits end (one_id sending.endpoint end (and_parts _ _ e).1))
  state_end thread end tcb (state.Receiving receiving) authority.Receive is waits names e =
      waited_at thread end tcb is (waits end (one_id receiving.endpoint end e))
  state_end thread end tcb (state.Receiving receiving) authority.Reply is waits names e =
      let there = formed.links.receiver_reply thread end tcb is (names end (named_so receiving.reply end e)) in
      (o.Reply (record { address = there.0; state = reply.Waiting thread }), there.1)
  state_end thread end tcb (state.Waiting notification) authority.Await is waits names e =
      waited_at thread end tcb is (waits end (one_id notification end e))
  state_end thread end tcb _ _ is waits names e = absurd (false≢true e)

  -- the thread that a reply holds
  held_end :
      (id end : ObjId) (answers : Reply) (held : ReplyState) → answers.state ≡ held → object_of m id ≡ Some (o.Reply answers)
      → holds_thread held end ≡ true → IsThere m end
  held_end id end answers reply.Free is at e = absurd (false≢true e)
  held_end id end answers (reply.Waiting thread) is at e =
      let same = one_id thread end e in
      let w = formed.links.waiting_reply id thread answers.address (at ∙ (λ i. Some (o.Reply (record { address = answers.address; state = is i })))) in
      (o.Tcb w.0, ap (object_of m) (sym same) ∙ w.1)
  held_end id end answers (reply.Called thread) is at e =
      let same = one_id thread end e in
      let w = formed.links.reply_called id thread answers.address (at ∙ (λ i. Some (o.Reply (record { address = answers.address; state = is i })))) in
      (o.Tcb w.0, ap (object_of m) (sym same) ∙ w.1)

  below : (id : ObjId) → IsThere m id → id.0 < m.next
  below id there = formed.numbers.below_next id there.0 there.1

  link_end :
      (id end : ObjId) (object : Object) (k : Kind) → object_of m id ≡ Some object → links object k end ≡ true → end.0 < m.next
  link_end id end (o.Tcb tcb) authority.Runs at e = elim (runs_by tcb end e) [
    | inl bound ↦ let there = formed.links.thread_context id end tcb at bound in below end (o.Context there.0, there.1)
    | inr lends ↦ lent id end tcb at lends
  ]
  link_end id end (o.Tcb tcb) k at e = below end (state_end id end tcb tcb.state k at (λ i h. h) (λ i h. h) e)
  link_end id end (o.Reply answers) authority.Holds at e = below end (held_end id end answers answers.state refl at e)
  link_end id end _ _ at e = absurd (false≢true e)

  slot_there : (slot : SlotRef) (cap : Cap) → cap_of m slot ≡ Some cap → IsThere m slot.holder
  slot_there slot cap at = let holder = formed.slots.holder slot cap at in (holder.0, holder.1)

  pub joined_of : IsJoined m
  joined_of = record {
    filled = slot_there;
    child = λ slot parent at. let below = formed.slots.child_filled slot parent at in slot_there slot below.0 below.1;
    parent = λ slot parent at. let above = formed.slots.parent_filled slot parent at in slot_there parent above.0 above.1;
    ends = link_end;
  }

-- a content without links replaces another
pub joined_set :
    (m : Machine) (id : ObjId) (old new : Object) → object_of m id ≡ Some old → ((k : Kind) (end : ObjId) → links new k end ≡ false)
    → IsJoined m → IsJoined (with_object m id new)
joined_set m id old new was alone joined = record {
  filled = λ slot cap at. stays slot.holder (joined.filled slot cap (sym (cap_of-with_object m id new slot) ∙ at));
  child = λ slot parent at. stays slot.holder (joined.child slot parent (sym (parent_of-with_object m id new slot) ∙ at));
  parent = λ slot parent at. stays parent.holder (joined.parent slot parent (sym (parent_of-with_object m id new slot) ∙ at));
  ends = λ q end object k at e. elim (one_or_two q id) [
    | inl same ↦
        let is : object ≡ new =
        same_Some object new (sym at ∙ ap (object_of (with_object m id new)) same ∙ object_of-with_object m id new id ∙ at_itself id (Some new) (object_of m id)) in
        absurd (false≢true (sym (alone k end) ∙ ap (λ (x : Object). links x k end) (sym is) ∙ e))
    | inr apart ↦
        let number = number_of-with_object m id new in
        let below =
        joined.ends q end object k (sym (object_of-with_object m id new q ∙ at_other q id (Some new) (object_of m q) apart) ∙ at) e in
        omega (arith, number, below)
  ];
} where
  stays : (q : ObjId) → IsThere m q → IsThere (with_object m id new) q
  stays q there = elim (one_or_two q id) [
    | inl same ↦ (new, ap (object_of (with_object m id new)) same ∙ object_of-with_object m id new id ∙ at_itself id (Some new) (object_of m id))
    | inr apart ↦ (there.0, object_of-with_object m id new q ∙ at_other q id (Some new) (object_of m q) apart ∙ there.1)
  ]
