-- A thread that begins to wait at an object, or for an answer: it is in a run state, is last in the queue where it waits, and is held by
-- the reply that it names.
use Rattle.std.{specs.Prelude.{None, Option, Some, is_some, length, option_map}, proofs.Common.{[], ℕ, ◌++◌, ◌∙◌, ◌∷◌, ◌≡◌, ◌≢◌, ◌⊎◌, List}}
use Rattle.{std.proofs.{Common.{ap, inl, inr, refl, subst, sym}, lemmas.Option.{none-some, same_Some}}, base.specs.declared.ids.ObjId.ObjId}
use Rattle.machine.specs.declared.object.{Object.{Object, Object as o}, ReplyState.ReplyState}
use Rattle.machine.specs.declared.thread.{Calling.Calling, Receiving.Receiving, RunState.RunState, Tcb.Tcb}
use Rattle.machine.specs.{Changes.{with_tcb, with_waiting}, Machine.{Machine, object_of, queue_of, with_object, with_queue}}
use Rattle.machine.specs.{Releasing.{SameRest, with_blocked, with_called, with_holding, with_named}, Step.Receive.awaiting_message}
use Rattle.machine.{specs.WellFormed.{IsThread, WaitsAt}, proofs.Ids.{at_itself, at_other, one_or_two}}
use Rattle.machine.proofs.Leaving.{Names, holding_is, rest-with_object, rest-with_queue, rest_along}
use Rattle.machine.proofs.LookUps.{object_of-with_object, object_of-with_queue, queue_of-with_object, queue_of-with_queue}
use Rattle.steps.proofs.{Outlines.{Steady, outline}, Releases.{rest_caps, rest_parents, rest_words}}
use Rattle.steps.proofs.SetObject.{SetsObject, set_elsewhere, set_there}
use Rattle.machine.specs.declared.object.ReplyState.TheVariants as reply
use Rattle.machine.specs.declared.thread.Inbox.TheVariants as inbox
use Rattle.machine.specs.declared.thread.RunState.TheVariants as state

-- the state of the reply that a run state names, which holds the thread
abbrev pub hold_for : RunState → ObjId → ReplyState
hold_for (state.Receiving _) thread = reply.Waiting thread
hold_for (state.Called _) thread = reply.Called thread
hold_for _ thread = reply.Free

-- a thread is the last in the queue where its run state waits
pub record JoinsQueue (m : Machine) (thread : ObjId) (run : RunState) (next : Machine) : Type 0 where
  pub joins :
      (q : ObjId) → WaitsAt run q
      → (threads : List ObjId) × (queue_of m q ≡ Some threads) × (queue_of next q ≡ Some (threads ++ thread ∷ []))
  pub elsewhere : (q : ObjId) → ¬ (WaitsAt run q) → queue_of next q ≡ queue_of m q

pub record IsJoined (m : Machine) (thread : ObjId) (new : Tcb) (next : Machine) : Type 0 where
  pub there : IsThread next thread new
  pub named :
      (q : ObjId) → Names new.state q
      → (address : ℕ) × (object_of m q ≡ Some (o.Reply (record { address = address; state = reply.Free })))
      × (object_of next q ≡ Some (o.Reply (record { address = address; state = hold_for new.state thread })))
  pub others : (q : ObjId) → q ≢ thread → ¬ (Names new.state q) → object_of next q ≡ object_of m q
  pub queues : JoinsQueue m thread new.state next
  pub rest : SameRest m next

pub names_or_not : (run : RunState) (q : ObjId) → Names run q ⊎ ¬ (Names run q)
names_or_not (state.Receiving receiving) q = by_reply receiving.reply refl where
  by_id :
      (id : ObjId) → receiving.reply ≡ Some id → (id ≡ q) ⊎ (id ≢ q)
      → (receiving.reply ≡ Some q) ⊎ ¬ (receiving.reply ≡ Some q)
  by_id id e (inl same) = inl (e ∙ ap (λ x. Some x) same)
  by_id id e (inr apart) = inr (λ f. apart (same_Some id q (sym e ∙ f)))

  by_reply : (named : Option ObjId) → receiving.reply ≡ named → (receiving.reply ≡ Some q) ⊎ ¬ (receiving.reply ≡ Some q)
  by_reply None e = inr (λ f. none-some q (sym e ∙ f))
  by_reply (Some id) e = by_id id e (one_or_two id q)
names_or_not (state.Called calling) q = one_or_two calling.reply q
names_or_not _ q = inr (λ names. names)

pub waits_or_not : (run : RunState) (q : ObjId) → WaitsAt run q ⊎ ¬ (WaitsAt run q)
waits_or_not (state.Sending sending) q = one_or_two sending.endpoint q
waits_or_not (state.Receiving receiving) q = one_or_two receiving.endpoint q
waits_or_not (state.Waiting notification) q = one_or_two notification q
waits_or_not _ q = inr (λ waits. waits)

-- a run state waits at one object at most, and names one reply at most

pub waits_at_one : (run : RunState) (a b : ObjId) → WaitsAt run a → WaitsAt run b → a ≡ b
waits_at_one (state.Sending sending) a b p q = sym p ∙ q
waits_at_one (state.Receiving receiving) a b p q = sym p ∙ q
waits_at_one (state.Waiting notification) a b p q = sym p ∙ q
waits_at_one _ a b p q = absurd p

pub names_one : (run : RunState) (a b : ObjId) → Names run a → Names run b → a ≡ b
names_one (state.Receiving receiving) a b p q = same_Some a b (sym p ∙ q)
names_one (state.Called calling) a b p q = sym p ∙ q
names_one _ a b p q = absurd p

-- a thread that names no reply begins to wait
pub joined_alone :
    (m next : Machine) (thread : ObjId) (new : Tcb) → SetsObject m thread (o.Tcb new) next → JoinsQueue m thread new.state next
    → SameRest m next → ((q : ObjId) → ¬ (Names new.state q)) → IsJoined m thread new next
joined_alone m next thread new sets queues rest none =
    record {
      there = set_there m next thread (o.Tcb new) sets;
      named = λ q names. absurd (none q names);
      others = λ q apart _. set_elsewhere m next thread (o.Tcb new) sets q apart;
      queues = queues;
      rest = rest;
    }

-- a thread that names a reply begins to wait, and the reply holds it
module _ (m mid : Machine) (thread id : ObjId) (old new : Tcb) (address : ℕ) (was : IsThread m thread old)
    (free : object_of m id ≡ Some (o.Reply (record { address = address; state = reply.Free })))
    (sets : SetsObject m thread (o.Tcb new) mid) (queues : JoinsQueue m thread new.state mid) (rest : SameRest m mid)
    (names : Names new.state id) where
  abbrev held : Object
  held = o.Reply (record { address = address; state = hold_for new.state thread })

  abbrev next : Machine
  next = with_object mid id held

  differs : thread ≢ id
  differs same =
      let one : Some (o.Tcb old) ≡ Some (o.Reply (record { address = address; state = reply.Free })) =
      sym was ∙ ap (object_of m) same ∙ free in
      cc

  pub joined_through : IsJoined m thread new next
  joined_through =
      record {
        there =
            object_of-with_object mid id held thread ∙ at_other thread id (Some held) (object_of mid thread) differs
            ∙ set_there m mid thread (o.Tcb new) sets;
        named = λ q is.
            let same = names_one new.state q id is names in (
              address,
              ap (object_of m) same ∙ free,
              ap (object_of next) same ∙ object_of-with_object mid id held id ∙ at_itself id (Some held) (object_of mid id),
            );
        others = λ q apart not_named.
            object_of-with_object mid id held q
            ∙ at_other q id (Some held) (object_of mid q)
            (λ same. not_named (subst (λ (x : ObjId). Names new.state x) (sym same) names))
            ∙ set_elsewhere m mid thread (o.Tcb new) sets q apart;
        queues =
            record {
              joins = λ q waits. let w = queues.joins q waits in (w.0, w.1, queue_of-with_object mid id held q ∙ w.2);
              elsewhere = λ q not_there. queue_of-with_object mid id held q ∙ queues.elsewhere q not_there;
            };
        rest = rest_along m mid next rest (rest-with_object mid id held);
      }

-- a thread begins to wait at an object

module _ (m : Machine) (thread id : ObjId) (threads : List ObjId) (tcb : Tcb) (run : RunState) (there : IsThread m thread tcb)
    (waited : queue_of m id ≡ Some threads) (waits : WaitsAt run id) where
  abbrev new : Tcb
  new = record tcb { state = run }

  abbrev between : Machine
  between = with_object m thread (o.Tcb new)

  abbrev after : Machine
  after = with_queue between id (threads ++ thread ∷ [])

  pub blocked_is : with_blocked m thread id run ≡ after
  unfolding with_blocked with_tcb with_waiting
  blocked_is = rw (there, there, queue_of-with_object m thread (o.Tcb new) id, waited) refl

  blocked_sets : SetsObject m thread (o.Tcb new) after
  blocked_sets q = object_of-with_queue between id (threads ++ thread ∷ []) q ∙ object_of-with_object m thread (o.Tcb new) q

  blocked_queues : JoinsQueue m thread run after
  blocked_queues =
      record {
        joins = λ q is.
            let same = waits_at_one run q id is waits in (
              threads,
              ap (queue_of m) same ∙ waited,
              ap (queue_of after) same ∙ queue_of-with_queue between id (threads ++ thread ∷ []) id
                  ∙ at_itself id (Some (threads ++ thread ∷ [])) (queue_of between id),
            );
        elsewhere = λ q not_there.
            queue_of-with_queue between id (threads ++ thread ∷ []) q
            ∙ at_other q id (Some (threads ++ thread ∷ [])) (queue_of between q)
            (λ same. not_there (subst (λ (x : ObjId). WaitsAt run x) (sym same) waits))
            ∙ queue_of-with_object m thread (o.Tcb new) q;
      }

  blocked_rest : SameRest m after
  blocked_rest =
      rest_along m between after (rest-with_object m thread (o.Tcb new)) (rest-with_queue between id (threads ++ thread ∷ []))

  pub blocked_joins : ((q : ObjId) → ¬ (Names run q)) → IsJoined m thread new (with_blocked m thread id run)
  blocked_joins none =
      subst (λ (n : Machine). IsJoined m thread new n) (sym blocked_is)
      (joined_alone m after thread new blocked_sets blocked_queues blocked_rest none)

  -- a thread begins to wait at an object with the reply that it names
  pub blocked_with :
      (named : ObjId) (address : ℕ) → object_of m named ≡ Some (o.Reply (record { address = address; state = reply.Free }))
      → Names run named → IsJoined m thread new (with_holding (with_blocked m thread id run) named (hold_for run thread))
  blocked_with named address free names =
      subst (λ (n : Machine). IsJoined m thread new (with_holding n named (hold_for run thread))) (sym blocked_is)
      (subst (λ (n : Machine). IsJoined m thread new n)
      (sym (holding_is after named (record { address = address; state = reply.Free }) (hold_for run thread)
      (set_elsewhere m after thread (o.Tcb new) blocked_sets named apart ∙ free)))
      (joined_through m after thread named tcb new address there free blocked_sets blocked_queues blocked_rest names)) where
        apart : named ≢ thread
        apart same =
            let one : Some (o.Tcb tcb) ≡ Some (o.Reply (record { address = address; state = reply.Free })) =
            sym there ∙ ap (object_of m) (sym same) ∙ free in
            cc

pub awaiting_joins :
    (m : Machine) (caller : ObjId) (threads : List ObjId) (tcb : Tcb) (receiving : Receiving) → IsThread m caller tcb
    → queue_of m receiving.endpoint ≡ Some threads
    → ((id : ObjId) → receiving.reply ≡ Some id
    → (address : ℕ) × (object_of m id ≡ Some (o.Reply (record { address = address; state = reply.Free }))))
    → IsJoined m caller (record tcb { state = state.Receiving receiving }) (awaiting_message m caller receiving)
awaiting_joins m caller threads tcb receiving there waited free = by_reply receiving.reply refl where
  by_reply :
      (named : Option ObjId) → receiving.reply ≡ named
      → IsJoined m caller (record tcb { state = state.Receiving receiving })
      (with_named (with_blocked m caller receiving.endpoint (state.Receiving receiving)) named (reply.Waiting caller))
  by_reply None e =
      blocked_joins m caller receiving.endpoint threads tcb (state.Receiving receiving) there waited refl
      (λ q names. none-some q (sym e ∙ names))
  by_reply (Some id) e =
      let w = free id e in
      blocked_with m caller receiving.endpoint threads tcb (state.Receiving receiving) there waited refl id w.0 w.1 e

-- a thread begins to wait for an answer
module _ (m : Machine) (thread : ObjId) (calling : Calling) (tcb : Tcb) (address : ℕ) (there : IsThread m thread tcb)
    (free : object_of m calling.reply ≡ Some (o.Reply (record { address = address; state = reply.Free }))) where
  abbrev called : Tcb
  called = record tcb { state = state.Called calling }

  abbrev halfway : Machine
  halfway = with_object m thread (o.Tcb called)

  sets : SetsObject m thread (o.Tcb called) halfway
  sets = object_of-with_object m thread (o.Tcb called)

  reply_apart : calling.reply ≢ thread
  reply_apart same =
      let one : Some (o.Tcb tcb) ≡ Some (o.Reply (record { address = address; state = reply.Free })) =
      sym there ∙ ap (object_of m) (sym same) ∙ free in
      cc

  called_is : with_called m thread calling ≡ with_holding halfway calling.reply (reply.Called thread)
  unfolding with_called with_tcb
  called_is = rw (there, there) refl

  pub called_joins : IsJoined m thread called (with_called m thread calling)
  called_joins =
      subst (λ (n : Machine). IsJoined m thread called n)
      (sym (called_is
      ∙ holding_is halfway calling.reply (record { address = address; state = reply.Free }) (reply.Called thread)
      (set_elsewhere m halfway thread (o.Tcb called) sets calling.reply reply_apart ∙ free)))
      (joined_through m halfway thread calling.reply tcb called address there free sets
      (record { joins = λ q waits. absurd waits; elsewhere = λ q _. queue_of-with_object m thread (o.Tcb called) q })
      (rest-with_object m thread (o.Tcb called)) refl)

-- all objects keep their outlines
module _ (m next : Machine) (thread : ObjId) (old new : Tcb) (joined : IsJoined m thread new next) (was : IsThread m thread old)
    (same_address : new.address ≡ old.address) where
  outlines_kept :
      (q : ObjId) → (q ≡ thread) ⊎ (q ≢ thread) → Names new.state q ⊎ ¬ (Names new.state q)
      → option_map outline (object_of next q) ≡ option_map outline (object_of m q)
  outlines_kept q (inl same) named =
      ap (λ (x : ObjId). option_map outline (object_of next x)) same
      ∙ ap (option_map outline) joined.there
      ∙ (λ i. Some (o.Tcb (record { address = same_address i; state = state.Inactive; inbox = inbox.Empty; context = None })))
      ∙ sym (ap (option_map outline) was)
      ∙ ap (λ (x : ObjId). option_map outline (object_of m x)) (sym same)
  outlines_kept q (inr apart) (inl names) =
      let w = joined.named q names in ap (option_map outline) w.2 ∙ sym (ap (option_map outline) w.1)
  outlines_kept q (inr apart) (inr none) = ap (option_map outline) (joined.others q apart none)

  queue_kept : (q : ObjId) → WaitsAt new.state q ⊎ ¬ (WaitsAt new.state q) → is_some (queue_of next q) ≡ is_some (queue_of m q)
  queue_kept q (inl waits) = let w = joined.queues.joins q waits in ap is_some w.2 ∙ sym (ap is_some w.1)
  queue_kept q (inr none) = ap is_some (joined.queues.elsewhere q none)

  pub joined_steady : Steady m next
  joined_steady =
      record {
        outlines = λ q. outlines_kept q (one_or_two q thread) (names_or_not new.state q);
        queues = λ q. queue_kept q (waits_or_not new.state q);
        words = λ q. ap (option_map length) (rest_words m next joined.rest q);
        caps = rest_caps m next joined.rest;
        parents = rest_parents m next joined.rest;
        number = joined.rest.next;
        going = joined.rest.going;
      }
