-- Changes that leave capabilities, the derivation tree and the next number as they are, and each object there, of its kind and where it is.
use Rattle.std.{specs.Prelude.{None, Option, Some, option_map}, proofs.Common.{ℕ, ◌∙◌, ◌≡◌, List, ap, refl, subst, sym}}
use Rattle.{std.proofs.lemmas.Option.{none-some, same_Some}, base.specs.declared.ids.{ObjId.ObjId, SlotRef.SlotRef}}
use Rattle.machine.specs.declared.object.{Context.Context, Object.{Object, Object as o}, Reply.Reply, ReplyState.ReplyState, Share.Share}
use Rattle.machine.specs.declared.thread.{Calling.Calling, RunState.{RunState, RunState as state}, Tcb.Tcb}
use Rattle.machine.specs.Changes.{with_context, with_reply, with_tcb, with_waiting, with_word, with_words, without_waiting}
use Rattle.machine.specs.{Finalising.halted, Machine.{Machine, cap_of, object_of, parent_of, queue_of, with_object, with_queue, words_of}}
use Rattle.machine.specs.{Objects.{address_of, kind_of_object}, Releasing.{unblocked, with_blocked, with_called, with_halted}}
use Rattle.machine.specs.Releasing.{with_holder_halted, with_holding, with_idle_context, with_named, with_released, with_unbound}
use Rattle.machine.specs.{Step.{Bind.{context_under, with_bound, with_handed}, Configure.with_share, Fetch.emptied}, WellFormed.kind_of}
use Rattle.machine.proofs.LookUps.{cap_of-with_object, number_of-with_object, object_of-with_object, parent_of-with_object}
use Rattle.steps.proofs.{Outlines.shown_kept, SetObject.other_after}
use Rattle.noninterference.{specs.Fixed.{IsStill, StaysFixed}, proofs.Finds.IsFixedAt}
use Rattle.machine.specs.declared.object.ReplyState.TheVariants as reply

-- nothing is there where an object of the same kind is not
none_alike :
    (one other : Option Object) → option_map kind_of_object one ≡ option_map kind_of_object other → other ≡ None → one ≡ None
none_alike None other e none = refl
none_alike (Some object) other e none = absurd (none-some (kind_of_object object) (sym (e ∙ ap (option_map kind_of_object) none)))

pub stays_by :
    (m next : Machine) → ((slot : SlotRef) → cap_of next slot ≡ cap_of m slot) → ((slot : SlotRef) → parent_of next slot ≡ parent_of m slot)
    → ((id : ObjId) → kind_of next id ≡ kind_of m id)
    → ((id : ObjId) → option_map address_of (object_of next id) ≡ option_map address_of (object_of m id))
    → ((id : ObjId) (object : Object) → object_of m id ≡ Some object → IsStill object → object_of next id ≡ Some object)
    → next.next ≡ m.next → StaysFixed m next
stays_by m next caps parents kinds addresses contents number = record {
  caps = caps;
  parents = parents;
  present = λ id. (
    none_alike (object_of m id) (object_of next id) (sym (kinds id)),
    none_alike (object_of next id) (object_of m id) (kinds id),
  );
  kinds = kinds;
  addresses = addresses;
  contents = contents;
  next = number;
}

pub stays_itself : (m : Machine) → StaysFixed m m
stays_itself m = stays_by m m (λ slot. refl) (λ slot. refl) (λ id. refl) (λ id. refl) (λ id object is still. is) refl

pub stays_along : (m mid next : Machine) → StaysFixed m mid → StaysFixed mid next → StaysFixed m next
stays_along m mid next one two =
    stays_by m next (λ slot. two.caps slot ∙ one.caps slot) (λ slot. two.parents slot ∙ one.parents slot)
    (λ id. two.kinds id ∙ one.kinds id) (λ id. two.addresses id ∙ one.addresses id)
    (λ id object is still. two.contents id object (one.contents id object is still) still) (two.next ∙ one.next)

-- a machine that stays so is of a fixed system if the first is
pub fixed_stays : (m next : Machine) → IsFixedAt m → StaysFixed m next → IsFixedAt next
fixed_stays m next fixed stays =
    record { none = λ slot held filled node. fixed.none slot held (sym (stays.caps slot) ∙ filled) (sym (stays.kinds slot.holder) ∙ node) }

-- a thread, a notification, a reply or a context gets another content, of its kind and where it is
pub object_stays :
    (m : Machine) (id : ObjId) (old new : Object) → object_of m id ≡ Some old → ¬ (IsStill old) → kind_of_object new ≡ kind_of_object old
    → address_of new ≡ address_of old → StaysFixed m (with_object m id new)
object_stays m id old new was moves kind address =
    stays_by m (with_object m id new) (cap_of-with_object m id new) (parent_of-with_object m id new)
    (λ q. ap (option_map kind_of_object) (object_of-with_object m id new q) ∙ shown_kept kind_of_object (object_of m) id old new was kind q)
    (λ q. ap (option_map address_of) (object_of-with_object m id new q) ∙ shown_kept address_of (object_of m) id old new was address q)
    (λ q object is still.
    other_after m (with_object m id new) id new (object_of-with_object m id new) old was q object
    (λ same. moves (subst IsStill same still)) is)
    (number_of-with_object m id new)

queue_stays : (m : Machine) (id : ObjId) (threads : List ObjId) → StaysFixed m (with_queue m id threads)
unfolding with_queue object_of cap_of parent_of
queue_stays m id threads =
    stays_by m (with_queue m id threads) (λ slot. refl) (λ slot. refl) (λ q. refl) (λ q. refl) (λ q object is still. is) refl

words_stay : (m : Machine) (id : ObjId) (words : List ℕ) → StaysFixed m (with_words m id words)
unfolding with_words object_of cap_of parent_of
words_stay m id words =
    stays_by m (with_words m id words) (λ slot. refl) (λ slot. refl) (λ q. refl) (λ q. refl) (λ q object is still. is) refl

pub word_stays : (m : Machine) (id : ObjId) (index word : ℕ) → StaysFixed m (with_word m id index word)
unfolding with_word
word_stays m id index word = by_words (words_of m id) refl where
  by_words : (words : Option (List ℕ)) → words_of m id ≡ words → StaysFixed m (with_word m id index word)
  by_words (Some words) e = rw e (words_stay m id _)
  by_words None e = rw e (stays_itself m)

-- who waits

waiting_stays : (m : Machine) (id thread : ObjId) → StaysFixed m (with_waiting m id thread)
unfolding with_waiting
waiting_stays m id thread = by_queue (queue_of m id) refl where
  by_queue : (queue : Option (List ObjId)) → queue_of m id ≡ queue → StaysFixed m (with_waiting m id thread)
  by_queue (Some threads) e = rw e (queue_stays m id _)
  by_queue None e = rw e (stays_itself m)

leaving_stays : (m : Machine) (id thread : ObjId) → StaysFixed m (without_waiting m id thread)
unfolding without_waiting
leaving_stays m id thread = by_queue (queue_of m id) refl where
  by_queue : (queue : Option (List ObjId)) → queue_of m id ≡ queue → StaysFixed m (without_waiting m id thread)
  by_queue (Some threads) e = rw e (queue_stays m id _)
  by_queue None e = rw e (stays_itself m)

-- a thread, a reply and a context, where they are

-- the address of an object that is there
abbrev address_at : Machine → ObjId → Option ℕ
address_at m id = option_map address_of (object_of m id)

same_address :
    (m : Machine) (id : ObjId) (old : Object) (address : ℕ) → address_at m id ≡ Some address → object_of m id ≡ Some old
    → address ≡ address_of old
same_address m id old address at e = same_Some address (address_of old) (sym at ∙ ap (option_map address_of) e)

tcb_stays : (m : Machine) (id : ObjId) (thread : Tcb) → address_at m id ≡ Some thread.address → StaysFixed m (with_tcb m id thread)
unfolding with_tcb
tcb_stays m id thread at = by_content (object_of m id) refl where
  by_content : (object : Option Object) → object_of m id ≡ object → StaysFixed m (with_tcb m id thread)
  by_content (Some (o.Tcb old)) e =
      rw e
      (object_stays m id (o.Tcb old) (o.Tcb thread) e (λ still. still) refl (same_address m id (o.Tcb old) thread.address at e))
  by_content None e = rw e (stays_itself m)
  by_content (Some _) e = rw e (stays_itself m)

reply_stays : (m : Machine) (id : ObjId) (holding : Reply) → address_at m id ≡ Some holding.address → StaysFixed m (with_reply m id holding)
unfolding with_reply
reply_stays m id holding at = by_content (object_of m id) refl where
  by_content : (object : Option Object) → object_of m id ≡ object → StaysFixed m (with_reply m id holding)
  by_content (Some (o.Reply old)) e =
      rw e
      (object_stays m id (o.Reply old) (o.Reply holding) e (λ still. still) refl (same_address m id (o.Reply old) holding.address at e))
  by_content None e = rw e (stays_itself m)
  by_content (Some _) e = rw e (stays_itself m)

context_stays :
    (m : Machine) (id : ObjId) (context : Context) → address_at m id ≡ Some context.address → StaysFixed m (with_context m id context)
unfolding with_context
context_stays m id context at = by_content (object_of m id) refl where
  by_content : (object : Option Object) → object_of m id ≡ object → StaysFixed m (with_context m id context)
  by_content (Some (o.Context old)) e =
      rw e
      (object_stays m id (o.Context old) (o.Context context) e (λ still. still) refl
      (same_address m id (o.Context old) context.address at e))
  by_content None e = rw e (stays_itself m)
  by_content (Some _) e = rw e (stays_itself m)

holding_stays : (m : Machine) (id : ObjId) (holds : ReplyState) → StaysFixed m (with_holding m id holds)
unfolding with_holding
holding_stays m id holds = by_content (object_of m id) refl where
  by_content : (object : Option Object) → object_of m id ≡ object → StaysFixed m (with_holding m id holds)
  by_content (Some (o.Reply holding)) e = rw e (reply_stays m id _ (ap (option_map address_of) e))
  by_content None e = rw e (stays_itself m)
  by_content (Some _) e = rw e (stays_itself m)

pub named_stays : (m : Machine) (named : Option ObjId) (holds : ReplyState) → StaysFixed m (with_named m named holds)
named_stays m None holds = stays_itself m
named_stays m (Some id) holds = holding_stays m id holds

pub share_stays : (m : Machine) (id : ObjId) (share : Share) → StaysFixed m (with_share m id share)
unfolding with_share
share_stays m id share = by_content (object_of m id) refl where
  by_content : (object : Option Object) → object_of m id ≡ object → StaysFixed m (with_share m id share)
  by_content (Some (o.Context context)) e = rw e (context_stays m id _ (ap (option_map address_of) e))
  by_content None e = rw e (stays_itself m)
  by_content (Some _) e = rw e (stays_itself m)

pub emptied_stays : (m : Machine) (thread : ObjId) → StaysFixed m (emptied m thread)
unfolding emptied
emptied_stays m thread = by_content (object_of m thread) refl where
  by_content : (object : Option Object) → object_of m thread ≡ object → StaysFixed m (emptied m thread)
  by_content (Some (o.Tcb tcb)) e = rw e (tcb_stays m thread _ (ap (option_map address_of) e))
  by_content None e = rw e (stays_itself m)
  by_content (Some _) e = rw e (stays_itself m)

-- a thread leaves its queue and its reply

unblocked_stays : (m : Machine) (thread : ObjId) (run : RunState) → StaysFixed m (unblocked m thread run)
unblocked_stays m thread (state.Sending sending) = leaving_stays m sending.endpoint thread
unblocked_stays m thread (state.Receiving receiving) =
    stays_along m (without_waiting m receiving.endpoint thread) _ (leaving_stays m receiving.endpoint thread)
    (named_stays (without_waiting m receiving.endpoint thread) receiving.reply reply.Free)
unblocked_stays m thread (state.Waiting notification) = leaving_stays m notification thread
unblocked_stays m thread (state.Called calling) = holding_stays m calling.reply reply.Free
unblocked_stays m thread _ = stays_itself m

pub released_stays :
    (m : Machine) (thread : ObjId) (change : Tcb → Tcb) → ((tcb : Tcb) → (change tcb).address ≡ tcb.address)
    → StaysFixed m (with_released m thread change)
unfolding with_released
released_stays m thread change keeps = by_content (object_of m thread) refl where
  by_content : (object : Option Object) → object_of m thread ≡ object → StaysFixed m (with_released m thread change)
  by_content (Some (o.Tcb tcb)) e =
      let mid : Machine = unblocked m thread tcb.state in
      let left : StaysFixed m mid = unblocked_stays m thread tcb.state in
      rw e
      (stays_along m mid (with_tcb mid thread (change tcb)) left
      (tcb_stays mid thread (change tcb) (left.addresses thread ∙ ap (option_map address_of) e ∙ ap Some (sym (keeps tcb)))))
  by_content None e = rw e (stays_itself m)
  by_content (Some _) e = rw e (stays_itself m)

pub halted_stays : (m : Machine) (thread : ObjId) → StaysFixed m (with_halted m thread)
halted_stays m thread = released_stays m thread halted (λ tcb. refl)

pub holder_halted_stays : (m : Machine) (id : ObjId) → StaysFixed m (with_holder_halted m id)
unfolding with_holder_halted
holder_halted_stays m id = by_content (object_of m id) refl where
  by_state :
      (address : ℕ) (holds : ReplyState) → object_of m id ≡ Some (o.Reply (record { address = address; state = holds }))
      → StaysFixed m (with_holder_halted m id)
  by_state address (reply.Waiting thread) e = rw e (halted_stays m thread)
  by_state address (reply.Called thread) e = rw e (halted_stays m thread)
  by_state address reply.Free e = rw e (stays_itself m)

  by_content : (object : Option Object) → object_of m id ≡ object → StaysFixed m (with_holder_halted m id)
  by_content (Some (o.Reply holding)) e = by_state holding.address holding.state e
  by_content None e = rw e (stays_itself m)
  by_content (Some _) e = rw e (stays_itself m)

-- a thread comes to wait

pub blocked_stays : (m : Machine) (thread id : ObjId) (run : RunState) → StaysFixed m (with_blocked m thread id run)
unfolding with_blocked
blocked_stays m thread id run = by_content (object_of m thread) refl where
  by_content : (object : Option Object) → object_of m thread ≡ object → StaysFixed m (with_blocked m thread id run)
  by_content (Some (o.Tcb tcb)) e =
      let new : Tcb = record tcb { state = run } in
      rw e
      (stays_along m (with_tcb m thread new) (with_waiting (with_tcb m thread new) id thread)
      (tcb_stays m thread new (ap (option_map address_of) e)) (waiting_stays (with_tcb m thread new) id thread))
  by_content None e = rw e (stays_itself m)
  by_content (Some _) e = rw e (stays_itself m)

pub called_stays : (m : Machine) (thread : ObjId) (calling : Calling) → StaysFixed m (with_called m thread calling)
unfolding with_called
called_stays m thread calling = by_content (object_of m thread) refl where
  by_content : (object : Option Object) → object_of m thread ≡ object → StaysFixed m (with_called m thread calling)
  by_content (Some (o.Tcb tcb)) e =
      let new : Tcb = record tcb { state = state.Called calling } in
      rw e
      (stays_along m (with_tcb m thread new) (with_holding (with_tcb m thread new) calling.reply (reply.Called thread))
      (tcb_stays m thread new (ap (option_map address_of) e)) (holding_stays (with_tcb m thread new) calling.reply (reply.Called thread)))
  by_content None e = rw e (stays_itself m)
  by_content (Some _) e = rw e (stays_itself m)

-- a thread and its context

idle_context_stays : (m : Machine) (id : ObjId) → StaysFixed m (with_idle_context m id)
unfolding with_idle_context
idle_context_stays m id = by_content (object_of m id) refl where
  by_content : (object : Option Object) → object_of m id ≡ object → StaysFixed m (with_idle_context m id)
  by_content (Some (o.Context context)) e = rw e (context_stays m id _ (ap (option_map address_of) e))
  by_content None e = rw e (stays_itself m)
  by_content (Some _) e = rw e (stays_itself m)

pub unbound_stays : (m : Machine) (thread : ObjId) → StaysFixed m (with_unbound m thread)
unfolding with_unbound
unbound_stays m thread = by_content (object_of m thread) refl where
  by_link :
      (tcb : Tcb) (link : Option ObjId) → object_of m thread ≡ Some (o.Tcb (record tcb { context = link }))
      → StaysFixed m (with_unbound m thread)
  by_link tcb None e = rw e (stays_itself m)
  by_link tcb (Some id) e =
      let new : Tcb = record tcb { context = None } in
      rw e
      (stays_along m (with_tcb m thread new) (with_idle_context (with_tcb m thread new) id)
      (tcb_stays m thread new (ap (option_map address_of) e)) (idle_context_stays (with_tcb m thread new) id))

  by_content : (object : Option Object) → object_of m thread ≡ object → StaysFixed m (with_unbound m thread)
  by_content (Some (o.Tcb tcb)) e = by_link tcb tcb.context e
  by_content None e = rw e (stays_itself m)
  by_content (Some _) e = rw e (stays_itself m)

bound_stays : (m : Machine) (id thread : ObjId) → StaysFixed m (with_bound m id thread)
unfolding with_bound
bound_stays m id thread = by_contents (object_of m id) (object_of m thread) refl refl where
  by_contents :
      (one other : Option Object) → object_of m id ≡ one → object_of m thread ≡ other → StaysFixed m (with_bound m id thread)
  by_contents (Some (o.Context context)) (Some (o.Tcb tcb)) e f =
      let new : Tcb = record tcb { context = Some id } in
      let runs : Context = record context { thread = Some thread } in
      let mid : Machine = with_tcb m thread new in
      let bound : StaysFixed m mid = tcb_stays m thread new (ap (option_map address_of) f) in
      rw (e, f)
      (stays_along m mid (with_context mid id runs) bound
      (context_stays mid id runs (bound.addresses id ∙ ap (option_map address_of) e)))
  by_contents None other e f = rw e (stays_itself m)
  by_contents (Some (o.Context context)) None e f = rw (e, f) (stays_itself m)
  by_contents (Some (o.Context context)) (Some _) e f = rw (e, f) (stays_itself m)
  by_contents (Some _) other e f = rw e (stays_itself m)

pub handed_stays : (m : Machine) (from to : ObjId) → StaysFixed m (with_handed m from to)
unfolding with_handed
handed_stays m from to = by_context (context_under (object_of m from)) refl where
  by_context : (context : Option ObjId) → context_under (object_of m from) ≡ context → StaysFixed m (with_handed m from to)
  by_context None e = rw e (stays_itself m)
  by_context (Some id) e =
      rw e
      (stays_along m (with_unbound m from) (with_bound (with_unbound m from) id to) (unbound_stays m from)
      (bound_stays (with_unbound m from) id to))
