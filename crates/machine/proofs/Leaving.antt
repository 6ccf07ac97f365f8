-- A thread leaves its queue and its reply: no queue has it then, no reply holds it, and all else is as it was.
use Rattle.std.{specs.Prelude.{Contains, None, Option, Some, filter, if◌then◌else◌, option_map}, proofs.Common.{◌∙◌, ◌∷◌, ◌≡◌, ◌≢◌, ◌⊎◌}}
use Rattle.std.proofs.Common.{Bool, List, ap, cond, false, inl, inr, not, refl, subst, sym, true}
use Rattle.std.proofs.lemmas.{List.Elements.{All-contains_itself, All-weaker}, Option.{none-some, same_Some}}
use Rattle.base.specs.declared.ids.ObjId.{ObjId}
use Rattle.machine.specs.declared.{object.{Object.{Object, Object as o}, Reply.Reply, ReplyState.ReplyState}, thread.RunState.RunState}
use Rattle.machine.specs.{declared.thread.Tcb.Tcb, Changes.{with_reply, with_tcb, without_first, without_waiting}, Finalising.IsHolding}
use Rattle.machine.specs.{Finalising.aborted, Machine.{Machine, object_of, queue_of, same_id, with_object, with_queue}, Releasing.SameRest}
use Rattle.machine.specs.Releasing.{reply_by, unblocked, with_aborted, with_free, with_holding, with_named, with_released}
use Rattle.machine.{specs.WellFormed.{IsThread, WaitsAt}, proofs.{Filters.filter_all, Ids.{at_itself, at_other, itself, one_or_two}}}
use Rattle.machine.proofs.LookUps.{object_of-with_object, object_of-with_queue, one_id, queue_of-with_object, queue_of-with_queue}
use Rattle.machine.specs.declared.object.ReplyState.TheVariants as reply
use Rattle.machine.specs.declared.thread.RunState.TheVariants as state

-- whether a run state names a reply
abbrev pub Names : RunState → ObjId → Type 0
Names (state.Receiving receiving) id = receiving.reply ≡ Some id
Names (state.Called calling) id = calling.reply ≡ id
Names _ id = ⊥

-- the links of a thread in a run state agree at both ends
pub record HasLinks (m : Machine) (thread : ObjId) (run : RunState) : Type 0 where
  pub queued : (id : ObjId) (threads : List ObjId) → queue_of m id ≡ Some threads → Contains threads thread → WaitsAt run id
  pub held :
      (id : ObjId) (holding : Reply) → object_of m id ≡ Some (o.Reply holding) → IsHolding holding.state thread → Names run id
  pub named :
      (id : ObjId) → Names run id
      → (holding : Reply) × (object_of m id ≡ Some (o.Reply holding)) × IsHolding holding.state thread

-- a queue without a thread
abbrev pub without : ObjId → List ObjId → List ObjId
without thread threads = filter (λ other. not (same_id other thread)) threads

-- an object after a thread left: a reply that held the thread is free
abbrev pub freed : ObjId → Object → Object
freed thread (o.Reply holding) = o.Reply (record holding { state = reply_by (λ other. same_id other thread) holding.state })
freed thread object = object

pub apart_ids : (q id : ObjId) → q ≢ id → same_id q id ≡ false
apart_ids q id differs = by_tie (same_id q id) refl where
  by_tie : (tie : Bool) → same_id q id ≡ tie → tie ≡ false
  by_tie true e = absurd (differs (one_id q id e))
  by_tie false e = refl

pub rest_itself : (m : Machine) → SameRest m m
rest_itself m = record { words = refl; caps = refl; parents = refl; next = refl; going = refl }

pub rest_along : (m mid next : Machine) → SameRest m mid → SameRest mid next → SameRest m next
rest_along m mid next a b =
    record {
      words = b.words ∙ a.words;
      caps = b.caps ∙ a.caps;
      parents = b.parents ∙ a.parents;
      next = b.next ∙ a.next;
      going = b.going ∙ a.going;
    }

pub rest-with_object : (m : Machine) (id : ObjId) (object : Object) → SameRest m (with_object m id object)
unfolding with_object
rest-with_object m id object = record { words = refl; caps = refl; parents = refl; next = refl; going = refl }

pub rest-with_queue : (m : Machine) (id : ObjId) (threads : List ObjId) → SameRest m (with_queue m id threads)
unfolding with_queue
rest-with_queue m id threads = record { words = refl; caps = refl; parents = refl; next = refl; going = refl }

-- a thread leaves a queue

module _ (m : Machine) (id thread : ObjId) where
  queue_there : queue_of (without_waiting m id thread) id ≡ option_map (without thread) (queue_of m id)
  unfolding without_waiting
  queue_there = by_queue (queue_of m id) refl where
    by_queue :
        (queue : Option (List ObjId)) → queue_of m id ≡ queue
        → queue_of (without_waiting m id thread) id ≡ option_map (without thread) (queue_of m id)
    by_queue None e = rw e (e ∙ refl)
    by_queue (Some threads) e =
        rw e (queue_of-with_queue m id (without thread threads) id ∙ at_itself id (Some (without thread threads)) (queue_of m id))

  queue_elsewhere : (q : ObjId) → q ≢ id → queue_of (without_waiting m id thread) q ≡ queue_of m q
  unfolding without_waiting
  queue_elsewhere q apart = by_queue (queue_of m id) refl where
    by_queue : (queue : Option (List ObjId)) → queue_of m id ≡ queue → queue_of (without_waiting m id thread) q ≡ queue_of m q
    by_queue None e = rw e refl
    by_queue (Some threads) e =
        rw e
        (queue_of-with_queue m id (without thread threads) q ∙ at_other q id (Some (without thread threads)) (queue_of m q) apart)

  pub objects_unqueued : (q : ObjId) → object_of (without_waiting m id thread) q ≡ object_of m q
  unfolding without_waiting
  objects_unqueued q = by_queue (queue_of m id) refl where
    by_queue : (queue : Option (List ObjId)) → queue_of m id ≡ queue → object_of (without_waiting m id thread) q ≡ object_of m q
    by_queue None e = rw e refl
    by_queue (Some threads) e = rw e (object_of-with_queue m id (without thread threads) q)

  rest_unqueued : SameRest m (without_waiting m id thread)
  unfolding without_waiting
  rest_unqueued = by_queue (queue_of m id) refl where
    by_queue : (queue : Option (List ObjId)) → queue_of m id ≡ queue → SameRest m (without_waiting m id thread)
    by_queue None e = rw e (rest_itself m)
    by_queue (Some threads) e = rw e (rest-with_queue m id (without thread threads))

pub without_absent : (thread : ObjId) (threads : List ObjId) → ¬ (Contains threads thread) → without thread threads ≡ threads
without_absent thread threads absent =
    filter_all (λ other. not (same_id other thread)) threads
    (All-weaker (Contains threads) (λ other. not (same_id other thread) ≡ true)
    (λ other there.
    ap not (apart_ids other thread (λ same. absent (subst (λ (t : ObjId). Contains threads t) same there))))
    threads (All-contains_itself threads))

-- the first of a queue that has it once leaves

pub without_itself : (first : ObjId) (others : List ObjId) → ¬ (Contains others first) → without first (first ∷ others) ≡ others
without_itself first others once =
    ap (λ b. cond (not b) (first ∷ without first others) (without first others)) (itself first) ∙ without_absent first others once

pub first_leaves :
    (m : Machine) (id first : ObjId) (others : List ObjId) → queue_of m id ≡ Some (first ∷ others) → ¬ (Contains others first)
    → without_waiting m id first ≡ without_first m id
unfolding without_waiting without_first
first_leaves m id first others waited once = rw waited (ap (with_queue m id) (without_itself first others once))

stay_queue :
    (thread : ObjId) (queue : Option (List ObjId)) → ((threads : List ObjId) → queue ≡ Some threads → ¬ (Contains threads thread))
    → queue ≡ option_map (without thread) queue
stay_queue thread None absent = refl
stay_queue thread (Some threads) absent = ap Some (sym (without_absent thread threads (absent threads refl)))

leave_queue :
    (m : Machine) (id thread : ObjId)
    → ((q : ObjId) (threads : List ObjId) → queue_of m q ≡ Some threads → Contains threads thread → id ≡ q)
    → (q : ObjId) → queue_of (without_waiting m id thread) q ≡ option_map (without thread) (queue_of m q)
leave_queue m id thread alone q = by_id (one_or_two q id) where
  by_id : (q ≡ id) ⊎ (q ≢ id) → queue_of (without_waiting m id thread) q ≡ option_map (without thread) (queue_of m q)
  by_id (inl same) =
      subst (λ (x : ObjId). queue_of (without_waiting m id thread) x ≡ option_map (without thread) (queue_of m x)) (sym same)
      (queue_there m id thread)
  by_id (inr apart) =
      queue_elsewhere m id thread q apart
      ∙ stay_queue thread (queue_of m q) (λ threads e within. apart (sym (alone q threads e within)))

-- a thread's reply is freed

reply_is :
    (m : Machine) (id : ObjId) (old new : Reply) → object_of m id ≡ Some (o.Reply old)
    → with_reply m id new ≡ with_object m id (o.Reply new)
unfolding with_reply
reply_is m id old new there = rw there refl

pub holding_is :
    (m : Machine) (id : ObjId) (holding : Reply) (holds : ReplyState) → object_of m id ≡ Some (o.Reply holding)
    → with_holding m id holds ≡ with_object m id (o.Reply (record holding { state = holds }))
unfolding with_holding
holding_is m id holding holds there = rw there (reply_is m id holding (record holding { state = holds }) there)

pub held_freed : (thread : ObjId) (run : ReplyState) → IsHolding run thread → reply_by (λ other. same_id other thread) run ≡ reply.Free
held_freed thread (reply.Waiting held) same =
    ap (λ b. cond b reply.Free (reply.Waiting held)) (ap (λ (h : ObjId). same_id h thread) same ∙ itself thread)
held_freed thread (reply.Called held) same =
    ap (λ b. cond b reply.Free (reply.Called held)) (ap (λ (h : ObjId). same_id h thread) same ∙ itself thread)
held_freed thread reply.Free same = absurd same

pub others_kept : (thread : ObjId) (run : ReplyState) → ¬ (IsHolding run thread) → reply_by (λ other. same_id other thread) run ≡ run
others_kept thread (reply.Waiting held) differs =
    ap (λ b. cond b reply.Free (reply.Waiting held)) (apart_ids held thread differs)
others_kept thread (reply.Called held) differs =
    ap (λ b. cond b reply.Free (reply.Called held)) (apart_ids held thread differs)
others_kept thread reply.Free differs = refl

stay_object :
    (thread : ObjId) (object : Option Object)
    → ((holding : Reply) → object ≡ Some (o.Reply holding) → ¬ (IsHolding holding.state thread))
    → object ≡ option_map (freed thread) object
stay_object thread None differs = refl
stay_object thread (Some (o.Reply holding)) differs =
    ap (λ (s : ReplyState). Some (o.Reply (record holding { state = s })))
    (sym (others_kept thread holding.state (differs holding refl)))
stay_object thread (Some _) differs = refl

leave_reply :
    (m : Machine) (id thread : ObjId) (holding : Reply) → object_of m id ≡ Some (o.Reply holding) → IsHolding holding.state thread
    → ((q : ObjId) (other : Reply) → object_of m q ≡ Some (o.Reply other) → IsHolding other.state thread → q ≡ id)
    → (q : ObjId) → object_of (with_free m id) q ≡ option_map (freed thread) (object_of m q)
leave_reply m id thread holding there is alone q =
    ap (λ (n : Machine). object_of n q) (holding_is m id holding reply.Free there)
    ∙ (object_of-with_object m id (o.Reply (record holding { state = reply.Free })) q ∙ by_id (one_or_two q id)) where
      by_id :
          (q ≡ id) ⊎ (q ≢ id)
          → cond (same_id q id) (Some (o.Reply (record holding { state = reply.Free }))) (object_of m q)
          ≡ option_map (freed thread) (object_of m q)
      by_id (inl same) =
          ap (λ b. cond b (Some (o.Reply (record holding { state = reply.Free }))) (object_of m q)) (ap (λ (x : ObjId). same_id x id) same ∙ itself id)
          ∙ ap (λ (s : ReplyState). Some (o.Reply (record holding { state = s }))) (sym (held_freed thread holding.state is))
          ∙ ap (option_map (freed thread)) (sym there ∙ ap (object_of m) (sym same))
      by_id (inr apart) =
          ap (λ b. cond b (Some (o.Reply (record holding { state = reply.Free }))) (object_of m q)) (apart_ids q id apart)
          ∙ stay_object thread (object_of m q) (λ other e holds. apart (alone q other e holds))

queues_freed :
    (m : Machine) (id : ObjId) (holding : Reply) → object_of m id ≡ Some (o.Reply holding)
    → (q : ObjId) → queue_of (with_free m id) q ≡ queue_of m q
queues_freed m id holding there q =
    ap (λ (n : Machine). queue_of n q) (holding_is m id holding reply.Free there)
    ∙ queue_of-with_object m id (o.Reply (record holding { state = reply.Free })) q

rest_freed :
    (m : Machine) (id : ObjId) (holding : Reply) → object_of m id ≡ Some (o.Reply holding) → SameRest m (with_free m id)
rest_freed m id holding there =
    subst (λ (n : Machine). SameRest m n) (sym (holding_is m id holding reply.Free there))
    (rest-with_object m id (o.Reply (record holding { state = reply.Free })))

-- a thread is blocked no more

pub unblocked_objects :
    (m : Machine) (thread : ObjId) (run : RunState) → HasLinks m thread run
    → (q : ObjId) → object_of (unblocked m thread run) q ≡ option_map (freed thread) (object_of m q)
unblocked_objects m thread (state.Sending sending) links q =
    objects_unqueued m sending.endpoint thread q ∙ stay_object thread (object_of m q) (links.held q)
unblocked_objects m thread (state.Waiting notification) links q =
    objects_unqueued m notification thread q ∙ stay_object thread (object_of m q) (links.held q)
unblocked_objects m thread (state.Called calling) links q =
    let w = links.named calling.reply refl in leave_reply m calling.reply thread w.0 w.1 w.2 (λ x other e is. sym (links.held x other e is)) q
unblocked_objects m thread (state.Receiving receiving) links q = by_reply receiving.reply refl where
  by_reply :
      (named : Option ObjId) → receiving.reply ≡ named
      → object_of (with_named (without_waiting m receiving.endpoint thread) named reply.Free) q ≡ option_map (freed thread) (object_of m q)
  by_reply None e =
      objects_unqueued m receiving.endpoint thread q
      ∙ stay_object thread (object_of m q) (λ holding at is. none-some q (sym e ∙ links.held q holding at is))
  by_reply (Some id) e =
      let mid : Machine = without_waiting m receiving.endpoint thread in let w = links.named id e in
      leave_reply mid id thread w.0 (objects_unqueued m receiving.endpoint thread id ∙ w.1) w.2
      (λ x other at is.
      same_Some x id (sym (links.held x other (sym (objects_unqueued m receiving.endpoint thread x) ∙ at) is) ∙ e))
      q
      ∙ ap (option_map (freed thread)) (objects_unqueued m receiving.endpoint thread q)
unblocked_objects m thread state.Inactive links q = stay_object thread (object_of m q) (links.held q)
unblocked_objects m thread state.Ready links q = stay_object thread (object_of m q) (links.held q)

pub unblocked_queues :
    (m : Machine) (thread : ObjId) (run : RunState) → HasLinks m thread run
    → (q : ObjId) → queue_of (unblocked m thread run) q ≡ option_map (without thread) (queue_of m q)
unblocked_queues m thread (state.Sending sending) links q = leave_queue m sending.endpoint thread links.queued q
unblocked_queues m thread (state.Waiting notification) links q = leave_queue m notification thread links.queued q
unblocked_queues m thread (state.Called calling) links q =
    let w = links.named calling.reply refl in queues_freed m calling.reply w.0 w.1 q ∙ stay_queue thread (queue_of m q) (links.queued q)
unblocked_queues m thread (state.Receiving receiving) links q = by_reply receiving.reply refl where
  by_reply :
      (named : Option ObjId) → receiving.reply ≡ named
      → queue_of (with_named (without_waiting m receiving.endpoint thread) named reply.Free) q ≡ option_map (without thread) (queue_of m q)
  by_reply None e = leave_queue m receiving.endpoint thread links.queued q
  by_reply (Some id) e =
      let mid : Machine = without_waiting m receiving.endpoint thread in let w = links.named id e in
      queues_freed mid id w.0 (objects_unqueued m receiving.endpoint thread id ∙ w.1) q
      ∙ leave_queue m receiving.endpoint thread links.queued q
unblocked_queues m thread state.Inactive links q = stay_queue thread (queue_of m q) (links.queued q)
unblocked_queues m thread state.Ready links q = stay_queue thread (queue_of m q) (links.queued q)

pub unblocked_rest : (m : Machine) (thread : ObjId) (run : RunState) → HasLinks m thread run → SameRest m (unblocked m thread run)
unblocked_rest m thread (state.Sending sending) links = rest_unqueued m sending.endpoint thread
unblocked_rest m thread (state.Waiting notification) links = rest_unqueued m notification thread
unblocked_rest m thread (state.Called calling) links =
    let w = links.named calling.reply refl in rest_freed m calling.reply w.0 w.1
unblocked_rest m thread (state.Receiving receiving) links = by_reply receiving.reply refl where
  by_reply : (named : Option ObjId) → receiving.reply ≡ named → SameRest m (with_named (without_waiting m receiving.endpoint thread) named reply.Free)
  by_reply None e = rest_unqueued m receiving.endpoint thread
  by_reply (Some id) e =
      let mid : Machine = without_waiting m receiving.endpoint thread in let w = links.named id e in
      rest_along m mid (with_free mid id) (rest_unqueued m receiving.endpoint thread)
      (rest_freed mid id w.0 (objects_unqueued m receiving.endpoint thread id ∙ w.1))
unblocked_rest m thread state.Inactive links = rest_itself m
unblocked_rest m thread state.Ready links = rest_itself m

-- a thread is blocked no more, and its content is set

pub tcb_is : (m : Machine) (id : ObjId) (old new : Tcb) → IsThread m id old → with_tcb m id new ≡ with_object m id (o.Tcb new)
unfolding with_tcb
tcb_is m id old new there = rw there refl

module _ (m : Machine) (thread : ObjId) (tcb new : Tcb) (there : IsThread m thread tcb) (links : HasLinks m thread tcb.state) where
  abbrev mid : Machine
  mid = unblocked m thread tcb.state

  abbrev next : Machine
  next = with_tcb mid thread new

  is : next ≡ with_object mid thread (o.Tcb new)
  is =
      tcb_is mid thread tcb new
      (unblocked_objects m thread tcb.state links thread ∙ ap (option_map (freed thread)) there)

  pub released_objects :
      (q : ObjId) → object_of next q ≡ (if same_id q thread then Some (o.Tcb new) else option_map (freed thread) (object_of m q))
  released_objects q =
      ap (λ (n : Machine). object_of n q) is
      ∙ (object_of-with_object mid thread (o.Tcb new) q
      ∙ ap (λ (x : Option Object). cond (same_id q thread) (Some (o.Tcb new)) x) (unblocked_objects m thread tcb.state links q))

  pub released_queues : (q : ObjId) → queue_of next q ≡ option_map (without thread) (queue_of m q)
  released_queues q =
      ap (λ (n : Machine). queue_of n q) is
      ∙ (queue_of-with_object mid thread (o.Tcb new) q ∙ unblocked_queues m thread tcb.state links q)

  pub released_rest : SameRest m next
  released_rest =
      subst (λ (n : Machine). SameRest m n) (sym is)
      (rest_along m mid (with_object mid thread (o.Tcb new)) (unblocked_rest m thread tcb.state links)
      (rest-with_object mid thread (o.Tcb new)))

pub released_there :
    (m : Machine) (thread : ObjId) (tcb : Tcb) (change : Tcb → Tcb) → IsThread m thread tcb
    → with_released m thread change ≡ with_tcb (unblocked m thread tcb.state) thread (change tcb)
unfolding with_released
released_there m thread tcb change there = rw there refl

pub aborted_is :
    (m : Machine) (thread : ObjId) (tcb : Tcb) → IsThread m thread tcb
    → with_aborted m thread ≡ with_tcb (unblocked m thread tcb.state) thread (aborted tcb)
aborted_is m thread tcb there = released_there m thread tcb aborted there
