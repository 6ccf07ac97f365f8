-- Changes that link threads, queues and replies, or end these links, keep what a part of a call keeps, if the labels of the objects that
-- they touch allow it.
use Rattle.std.specs.Prelude.{None, Option, Some, cond}
use Rattle.std.proofs.Common.{[], ℕ, ◌++◌, ◌<◌, ◌∙◌, ◌∷◌, ◌≡◌, ◌≢◌, ◌⊎◌, List, ap, arith, inl, inr, not, refl, subst, sym, true}
use Rattle.{std.proofs.lemmas.{Bool.false≢true, Option.{none-some, same_Some}}, base.specs.declared.{ids.ObjId.ObjId, kind.Kind.Kind}}
use Rattle.machine.specs.declared.{call.Event.Event, object.{Object.{Object, Object as o}, Reply.Reply, ReplyState.ReplyState}}
use Rattle.machine.specs.declared.thread.{Calling.Calling, Lent.Lent, Receiving.Receiving, RunState.RunState, Tcb.Tcb}
use Rattle.machine.specs.{Authority.{context_lent, holds_thread, label_of, links, state_links}, Changes.{with_waiting, without_waiting}}
use Rattle.machine.specs.{Layout.Layout, Machine.{Machine, object_of, queue_of, same_id, with_object, with_queue}}
use Rattle.machine.specs.Releasing.{unblocked, with_blocked, with_called, with_holding, with_named, with_released}
use Rattle.machine.specs.{Step.{Fetch.emptied, Reply.loan_in}, WellFormed.{IsIdle, IsThread, IsWellFormed, WaitsAt}}
use Rattle.machine.proofs.{Ids.{at_itself, at_other, one_or_two}, Leaving.{Names, holding_is, released_there, tcb_is, without}}
use Rattle.machine.proofs.LookUps.{cap_of-with_queue, object_of-with_object, object_of-with_queue, one_id, queue_of-with_object}
use Rattle.machine.proofs.{LookUps.{queue_of-with_queue, words_of-with_queue}, RunsLinks.{runs_also, runs_bound, runs_by}}
use Rattle.policy.specs.{Change.WayToChange.own, Domain.EdgeTest, Sharp.MayIdle}
use Rattle.integrity.specs.{Acting.MayAct, Awake.{IsAwake, IsHeldAfterCall, IsServed}, Invariant.{IsHeld, IsSound}}
use Rattle.integrity.specs.{Keeping.IsIdleBorrower, Shrinks.{Lessens.{as_it_was, freed, released}, Stops}}
use Rattle.integrity.proofs.{Asleep.acts_of, Borrowers.lent_back, Contents.{changed, loses_links, reply_fits, shrunk, tcb_fits}}
use Rattle.integrity.proofs.{Keeps.{Changes, Keeps, Takes, keeps_keeps, unchanged}, ObjectLabels.{label_stays, same_label}}
use Rattle.integrity.proofs.{RemovalShrinks.part_of_all, SetKeeps.{queue_keeps, set_keeps}}
use Rattle.base.specs.declared.kind.Kind.TheVariants as authority
use Rattle.machine.specs.declared.object.ReplyState.TheVariants as reply
use Rattle.machine.specs.declared.thread.Inbox.TheVariants as inbox
use Rattle.machine.specs.declared.thread.RunState.TheVariants as state

-- the two cases of each change

-- a reply holds somebody, or nobody, if it is there
holds_or_stays :
    (m : Machine) (id : ObjId) (holds : ReplyState)
    → ((old : Reply) × (object_of m id ≡ Some (o.Reply old))) ⊎ (with_holding m id holds ≡ m)
unfolding with_holding
holds_or_stays m id holds = by_content (object_of m id) refl where
  by_content :
      (found : Option Object) → object_of m id ≡ found
      → ((old : Reply) × (object_of m id ≡ Some (o.Reply old))) ⊎ (with_holding m id holds ≡ m)
  by_content (Some (o.Reply old)) e = inl (old, e)
  by_content None e = inr (rw e refl)
  by_content (Some _) e = inr (rw e refl)

-- a thread leaves the queue of an object, if it has one
leaves_or_stays :
    (m : Machine) (id thread : ObjId)
    → ((threads : List ObjId) × (queue_of m id ≡ Some threads)
    × (without_waiting m id thread ≡ with_queue m id (without thread threads)))
    ⊎ (without_waiting m id thread ≡ m)
unfolding without_waiting
leaves_or_stays m id thread = by_queue (queue_of m id) refl where
  by_queue :
      (queue : Option (List ObjId)) → queue_of m id ≡ queue
      → ((threads : List ObjId) × (queue_of m id ≡ Some threads)
      × (without_waiting m id thread ≡ with_queue m id (without thread threads)))
      ⊎ (without_waiting m id thread ≡ m)
  by_queue None e = inr (rw e refl)
  by_queue (Some threads) e = inl (threads, e, rw e refl)

-- a thread comes to wait at an object, if it has a queue
joins_or_stays :
    (m : Machine) (id thread : ObjId)
    → ((threads : List ObjId) × (with_waiting m id thread ≡ with_queue m id threads)) ⊎ (with_waiting m id thread ≡ m)
unfolding with_waiting
joins_or_stays m id thread = by_queue (queue_of m id) refl where
  by_queue :
      (queue : Option (List ObjId)) → queue_of m id ≡ queue
      → ((threads : List ObjId) × (with_waiting m id thread ≡ with_queue m id threads)) ⊎ (with_waiting m id thread ≡ m)
  by_queue None e = inr (rw e refl)
  by_queue (Some threads) e = inl (threads ++ thread ∷ [], rw e refl)

blocked_is :
    (m : Machine) (thread id : ObjId) (tcb : Tcb) (run : RunState) → IsThread m thread tcb
    → with_blocked m thread id run ≡ with_waiting (with_object m thread (o.Tcb (record tcb { state = run }))) id thread
unfolding with_blocked
blocked_is m thread id tcb run there =
    rw there (ap (λ (n : Machine). with_waiting n id thread) (tcb_is m thread tcb (record tcb { state = run }) there))

called_is :
    (m : Machine) (thread : ObjId) (calling : Calling) (tcb : Tcb) → IsThread m thread tcb
    → with_called m thread calling
    ≡ with_holding (with_object m thread (o.Tcb (record tcb { state = state.Called calling }))) calling.reply (reply.Called thread)
unfolding with_called
called_is m thread calling tcb there =
    rw there
    (ap (λ (n : Machine). with_holding n calling.reply (reply.Called thread))
    (tcb_is m thread tcb (record tcb { state = state.Called calling }) there))

emptied_is :
    (m : Machine) (thread : ObjId) (tcb : Tcb) → IsThread m thread tcb
    → emptied m thread ≡ with_object m thread (o.Tcb (record tcb { inbox = inbox.Empty }))
unfolding emptied
emptied_is m thread tcb there = rw there (tcb_is m thread tcb (record tcb { inbox = inbox.Empty }) there)

-- an idle thread is linked with its context alone, lends none, and receives nothing

idle_links : (run : RunState) (k : Kind) (end : ObjId) → IsIdle run → state_links run k end ≡ true → ⊥
idle_links state.Ready k end idle e = false≢true e
idle_links state.Inactive k end idle e = false≢true e
idle_links _ k end idle e = absurd idle

idle_lends : (run : RunState) (context : ObjId) → IsIdle run → context_lent run ≡ Some context → ⊥
idle_lends state.Ready context idle lent = none-some context lent
idle_lends state.Inactive context idle lent = none-some context lent
idle_lends _ context idle lent = absurd idle

pub idle_receives : (run : RunState) → IsIdle run → (receiving : Receiving) → run ≡ state.Receiving receiving → ⊥
idle_receives state.Ready idle receiving e = cc
idle_receives state.Inactive idle receiving e = cc
idle_receives _ idle receiving e = absurd idle

links_left :
    (old new : Tcb) → new.context ≡ old.context → IsIdle new.state → (k : Kind) (end : ObjId) → links (o.Tcb new) k end ≡ true
    → links (o.Tcb old) k end ≡ true
links_left old new same idle authority.Runs end e =
    runs_also new old end (λ bound. sym same ∙ bound) (λ lent. absurd (idle_lends new.state end idle lent)) e
links_left old new same idle k end e = absurd (idle_links new.state k end idle e)

-- a label may change an object's, or make it smaller, and the object has a queue, as every present object has
abbrev pub MayLessen : Layout → EdgeTest → Machine → ℕ → Machine → ObjId → ℕ → Type 0
MayLessen t allowed began a m id label =
    Changes t allowed began a label
    ⊎ (Takes t allowed began a label × (threads : List ObjId) × (queue_of m id ≡ Some threads))

-- a label may change a thread's, or make it smaller if the thread's wait only ends
abbrev pub MayRelease : Layout → EdgeTest → Machine → ℕ → Machine → ObjId → ℕ → Tcb → Tcb → Type 0
MayRelease t allowed began a m thread label old new =
    Changes t allowed began a label
    ⊎ (Takes t allowed began a label × Stops old new × (threads : List ObjId) × (queue_of m thread ≡ Some threads))

-- a reply that holds no caller
free_apart : (thread : ObjId) → reply.Free ≡ reply.Called thread → ⊥
free_apart thread is = cc

pub waiting_apart : (waiting thread : ObjId) → reply.Waiting waiting ≡ reply.Called thread → ⊥
waiting_apart waiting thread is = cc

pub free_holds : (t : Layout) (allowed : EdgeTest) (m : Machine) (id : ObjId) (old : Reply) (holds : ReplyState)
    → ((thread : ObjId) → holds ≡ reply.Called thread → ⊥)
    → IsHeldAfterCall t allowed m id (record old { state = holds })
free_holds t allowed m id old holds nobody thread is = absurd (nobody thread is)

-- a reply of a label may come to hold a thread of another that called
pub record MayHold (t : Layout) (allowed : EdgeTest) (began : Machine) (a holder label : ℕ) : Type 0 where
  pub changes : Changes t allowed began a holder
  pub holds : allowed holder authority.Holds label ≡ true
  pub serves : IsAwake t allowed began a → IsServed t allowed holder label

same_called : (one other : ObjId) → reply.Called one ≡ reply.Called other → one ≡ other
same_called one other is = cc

-- contents where threads leave queues and replies

left_objects : (m : Machine) (id thread q : ObjId) → object_of (without_waiting m id thread) q ≡ object_of m q
left_objects m id thread q = elim (leaves_or_stays m id thread) [
  | inl there ↦ ap (λ (n : Machine). object_of n q) there.2 ∙ object_of-with_queue m id (without thread there.0) q
  | inr same ↦ ap (λ (n : Machine). object_of n q) same
]

apart_by_kind :
    (m : Machine) (id thread : ObjId) (holding : Reply) (tcb : Tcb) → object_of m id ≡ Some (o.Reply holding)
    → IsThread m thread tcb → thread ≢ id
apart_by_kind m id thread holding tcb reply_there there same = differ (sym there ∙ ap (object_of m) same ∙ reply_there) where
  differ : ◌≡◌ {A = Option Object} (Some (o.Tcb tcb)) (Some (o.Reply holding)) → ⊥
  differ e = cc

-- a present object has a queue, also after a thread left one
queue_left :
    (m : Machine) (id thread q : ObjId) (threads : List ObjId) → queue_of m q ≡ Some threads
    → (rest : List ObjId) × (queue_of (without_waiting m id thread) q ≡ Some rest)
queue_left m id thread q threads there = by_leave (leaves_or_stays m id thread) where
  by_leave :
      ((waited : List ObjId) × (queue_of m id ≡ Some waited)
      × (without_waiting m id thread ≡ with_queue m id (without thread waited)))
      ⊎ (without_waiting m id thread ≡ m)
      → (rest : List ObjId) × (queue_of (without_waiting m id thread) q ≡ Some rest)
  by_leave (inr same) = (threads, ap (λ (n : Machine). queue_of n q) same ∙ there)
  by_leave (inl leaves) =
      let rest : List ObjId = without thread leaves.0 in
      let looks = ap (λ (n : Machine). queue_of n q) leaves.2 ∙ queue_of-with_queue m id rest q in
      elim (one_or_two q id) [
        | inl same ↦ (
          rest,
          looks ∙ ap (λ (x : ObjId). cond (same_id x id) (Some rest) (queue_of m q)) same
              ∙ at_itself id (Some rest) (queue_of m q),
        )
        | inr apart ↦ (threads, looks ∙ at_other q id (Some rest) (queue_of m q) apart ∙ there)
      ]

freed_thread :
    (m : Machine) (id thread : ObjId) (tcb : Tcb) → IsThread m thread tcb → IsThread (with_holding m id reply.Free) thread tcb
freed_thread m id thread tcb there = elim (holds_or_stays m id reply.Free) [
  | inl reply_there ↦
      let free : Object = o.Reply (record reply_there.0 { state = reply.Free }) in
      ap (λ (n : Machine). object_of n thread) (holding_is m id reply_there.0 reply.Free reply_there.1)
      ∙ object_of-with_object m id free thread
      ∙ at_other thread id (Some free) (object_of m thread) (apart_by_kind m id thread reply_there.0 tcb reply_there.1 there)
      ∙ there
  | inr same ↦ ap (λ (n : Machine). object_of n thread) same ∙ there
]

unblocked_thread :
    (m : Machine) (thread : ObjId) (tcb : Tcb) (run : RunState) → IsThread m thread tcb
    → IsThread (unblocked m thread run) thread tcb
unblocked_thread m thread tcb (state.Sending sending) there = left_objects m sending.endpoint thread thread ∙ there
unblocked_thread m thread tcb (state.Receiving receiving) there = by_reply receiving.reply where
  left : IsThread (without_waiting m receiving.endpoint thread) thread tcb
  left = left_objects m receiving.endpoint thread thread ∙ there

  by_reply :
      (named : Option ObjId) → IsThread (with_named (without_waiting m receiving.endpoint thread) named reply.Free) thread tcb
  by_reply None = left
  by_reply (Some id) = freed_thread (without_waiting m receiving.endpoint thread) id thread tcb left
unblocked_thread m thread tcb (state.Waiting notification) there = left_objects m notification thread thread ∙ there
unblocked_thread m thread tcb (state.Called calling) there = freed_thread m calling.reply thread tcb there
unblocked_thread m thread tcb _ there = there

-- a thread that leaves its queue and its reply still has a queue of its own
freed_queue :
    (m : Machine) (id q : ObjId) (threads : List ObjId) → queue_of m q ≡ Some threads
    → queue_of (with_holding m id reply.Free) q ≡ Some threads
freed_queue m id q threads there = elim (holds_or_stays m id reply.Free) [
  | inl reply_there ↦
      ap (λ (n : Machine). queue_of n q) (holding_is m id reply_there.0 reply.Free reply_there.1)
      ∙ queue_of-with_object m id (o.Reply (record reply_there.0 { state = reply.Free })) q
      ∙ there
  | inr same ↦ ap (λ (n : Machine). queue_of n q) same ∙ there
]

unblocked_queue :
    (m : Machine) (thread q : ObjId) (run : RunState) (threads : List ObjId) → queue_of m q ≡ Some threads
    → (rest : List ObjId) × (queue_of (unblocked m thread run) q ≡ Some rest)
unblocked_queue m thread q (state.Sending sending) threads there = queue_left m sending.endpoint thread q threads there
unblocked_queue m thread q (state.Receiving receiving) threads there = by_reply receiving.reply where
  left : (rest : List ObjId) × (queue_of (without_waiting m receiving.endpoint thread) q ≡ Some rest)
  left = queue_left m receiving.endpoint thread q threads there

  by_reply :
      (named : Option ObjId) → (rest : List ObjId)
      × (queue_of (with_named (without_waiting m receiving.endpoint thread) named reply.Free) q ≡ Some rest)
  by_reply None = left
  by_reply (Some id) = (left.0, freed_queue (without_waiting m receiving.endpoint thread) id q left.0 left.1)
unblocked_queue m thread q (state.Waiting notification) threads there = queue_left m notification thread q threads there
unblocked_queue m thread q (state.Called calling) threads there = (threads, freed_queue m calling.reply q threads there)
unblocked_queue m thread q _ threads there = (threads, there)

module _
    (t : Layout) (allowed : EdgeTest) (began : Machine) (event : Event) (a : ℕ) (m : Machine) (held : IsHeld t allowed m) where
  -- a reply holds somebody, or nobody
  pub holding_keeps :
      (id : ObjId) (old : Reply) (holds : ReplyState) (label : ℕ) → object_of m id ≡ Some (o.Reply old)
      → label_of t m id ≡ Some label → Changes t allowed began a label
      → ((thread : ObjId) (to : ℕ) → holds_thread holds thread ≡ true → label_of t m thread ≡ Some to
      → allowed label authority.Holds to ≡ true)
      → (IsAwake t allowed began a → IsHeldAfterCall t allowed m id (record old { state = holds }))
      → Keeps t allowed began event a m (with_holding m id holds)
  holding_keeps id old holds label there labelled has within serves =
      subst (λ (n : Machine). Keeps t allowed began event a m n) (sym (holding_is m id old holds there))
      (set_keeps t allowed began event a m id held (o.Reply old) (o.Reply (record old { state = holds }))
      (reply_fits t allowed began event a m id old (record old { state = holds }) there refl
      (λ end from to is source target.
      ap (λ x. allowed x authority.Holds to) (same_Some from label (sym source ∙ labelled)) ∙ within end to is target) serves)
      (changed t allowed began a m _ id label labelled has))

  -- a reply holds nobody, if it is there
  freed_keeps :
      (id : ObjId) → ((to : ℕ) → label_of t m id ≡ Some to → MayLessen t allowed began a m id to)
      → Keeps t allowed began event a m (with_holding m id reply.Free)
  freed_keeps id may = by_reply (holds_or_stays m id reply.Free) where
    by_label :
        (old : Reply) (label : ℕ) → object_of m id ≡ Some (o.Reply old) → label_of t m id ≡ Some label
        → MayLessen t allowed began a m id label → Keeps t allowed began event a m (with_holding m id reply.Free)
    by_label old label there labelled (inl has) =
        holding_keeps id old reply.Free label there labelled has (λ thread to is. absurd (false≢true is))
        (λ awake. free_holds t allowed m id old reply.Free (λ thread is. free_apart thread is))
    by_label old label there labelled (inr take) =
        let new : Reply = record old { state = reply.Free } in
        let next : Machine = with_object m id (o.Reply new) in
        subst (λ (n : Machine). Keeps t allowed began event a m n) (sym (holding_is m id old reply.Free there))
        (set_keeps t allowed began event a m id held (o.Reply old) (o.Reply new)
        (reply_fits t allowed began event a m id old new there refl (λ end from to is. absurd (false≢true is))
        (λ awake. free_holds t allowed m id old reply.Free (λ thread is. free_apart thread is)))
        (loses_links t allowed began a m id label (o.Reply old) (o.Reply new) labelled take.0 there (freed old new refl refl refl refl)
        take.1 take.2))

    by_reply :
        ((old : Reply) × (object_of m id ≡ Some (o.Reply old))) ⊎ (with_holding m id reply.Free ≡ m)
        → Keeps t allowed began event a m (with_holding m id reply.Free)
    by_reply (inl there) =
        let label = held.of_table.labelled id (o.Reply there.0) there.1 in
        by_label there.0 label.0 there.1 label.1 (may label.0 label.1)
    by_reply (inr same) =
        subst (λ (n : Machine). Keeps t allowed began event a m n) (sym same) (unchanged t allowed began event a m held)

  -- a thread leaves a queue
  leaves_keeps :
      (id thread : ObjId) → ((to : ℕ) → label_of t m id ≡ Some to → Changes t allowed began a to ⊎ Takes t allowed began a to)
      → Keeps t allowed began event a m (without_waiting m id thread)
  leaves_keeps id thread may = by_queue (leaves_or_stays m id thread) where
    by_content :
        (threads : List ObjId) → queue_of m id ≡ Some threads → (found : Option Object) → object_of m id ≡ found
        → Keeps t allowed began event a m (with_queue m id (without thread threads))
    by_content threads queue None gone = absurd (none-some threads (sym (held.bare id gone).queue ∙ queue))
    by_content threads queue (Some object) there =
        let label = held.of_table.labelled id object there in
        let rest = without thread threads in
        queue_keeps t allowed began event a m id held object rest there
        (elim (may label.0 label.1) [
          | inl has ↦ changed t allowed began a m (with_queue m id rest) id label.0 label.1 has
          | inr take ↦ shrunk t allowed began a m (with_queue m id rest) id label.0 label.1 take (inr (record {
            old = object;
            new = object;
            was = there;
            is = object_of-with_queue m id rest id ∙ there;
            content = as_it_was refl;
            waited = threads;
            waiting = rest;
            queue_was = queue;
            queue_is = queue_of-with_queue m id rest id ∙ at_itself id (Some rest) (queue_of m id);
            queue = part_of_all (λ other. not (same_id other thread)) threads;
            words = words_of-with_queue m id rest id;
            slots = λ index. inl (cap_of-with_queue m id rest (record { holder = id; index = index }));
          }))
        ])

    by_queue :
        ((threads : List ObjId) × (queue_of m id ≡ Some threads)
        × (without_waiting m id thread ≡ with_queue m id (without thread threads)))
        ⊎ (without_waiting m id thread ≡ m) → Keeps t allowed began event a m (without_waiting m id thread)
    by_queue (inl there) =
        subst (λ (n : Machine). Keeps t allowed began event a m n) (sym there.2)
        (by_content there.0 there.1 (object_of m id) refl)
    by_queue (inr same) =
        subst (λ (n : Machine). Keeps t allowed began event a m n) (sym same) (unchanged t allowed began event a m held)

module _
    (t : Layout) (allowed : EdgeTest) (began : Machine) (event : Event) (a : ℕ) (m : Machine) (held : IsHeld t allowed m) where
  -- a thread that waits for a message leaves its queue, and the reply that it named, if it named one
  receiver_leaves :
      (endpoint : ObjId) (named : Option ObjId) (thread : ObjId)
      → ((to : ℕ) → label_of t m endpoint ≡ Some to → Changes t allowed began a to ⊎ Takes t allowed began a to)
      → ((id : ObjId) (to : ℕ) → named ≡ Some id → label_of t m id ≡ Some to → MayLessen t allowed began a m id to)
      → Keeps t allowed began event a m (with_named (without_waiting m endpoint thread) named reply.Free)
  receiver_leaves endpoint None thread at names = leaves_keeps t allowed began event a m held endpoint thread at
  receiver_leaves endpoint (Some id) thread at names =
      let mid = without_waiting m endpoint thread in
      let left = leaves_keeps t allowed began event a m held endpoint thread at in
      let label_kept = same_label t m mid id (left_objects m endpoint thread id) in
      keeps_keeps t allowed began event a m mid (with_holding mid id reply.Free) held left
      (freed_keeps t allowed began event a mid left.held id
      (λ to labelled. still to (names id to refl (sym label_kept ∙ labelled))))
    where
      still : (to : ℕ) → MayLessen t allowed began a m id to → MayLessen t allowed began a (without_waiting m endpoint thread) id to
      still to (inl has) = inl has
      still to (inr take) = let queue = queue_left m endpoint thread id take.1 take.2 in inr (take.0, queue.0, queue.1)

  unblocked_keeps :
      (thread : ObjId) (run : RunState)
      → ((id : ObjId) (to : ℕ) → Names run id → label_of t m id ≡ Some to → MayLessen t allowed began a m id to)
      → ((id : ObjId) (to : ℕ) → WaitsAt run id → label_of t m id ≡ Some to → Changes t allowed began a to ⊎ Takes t allowed began a to)
      → Keeps t allowed began event a m (unblocked m thread run)
  unblocked_keeps thread (state.Sending sending) names waits =
      leaves_keeps t allowed began event a m held sending.endpoint thread (λ to. waits sending.endpoint to refl)
  unblocked_keeps thread (state.Receiving receiving) names waits =
      receiver_leaves receiving.endpoint receiving.reply thread (λ to. waits receiving.endpoint to refl) names
  unblocked_keeps thread (state.Waiting notification) names waits =
      leaves_keeps t allowed began event a m held notification thread (λ to. waits notification to refl)
  unblocked_keeps thread (state.Called calling) names waits =
      freed_keeps t allowed began event a m held calling.reply (λ to. names calling.reply to refl)
  unblocked_keeps thread _ names waits = unchanged t allowed began event a m held

  -- a thread leaves its queue and its reply, and waits for nothing
  pub released_keeps :
      (thread : ObjId) (tcb : Tcb) (change : Tcb → Tcb) → IsThread m thread tcb → (change tcb).address ≡ tcb.address
      → (change tcb).context ≡ tcb.context → IsIdle (change tcb).state
      → (label : ℕ) → label_of t m thread ≡ Some label → MayRelease t allowed began a m thread label tcb (change tcb)
      → (IsAwake t allowed began a → MayAct t allowed label)
      → ((id : ObjId) (to : ℕ) → Names tcb.state id → label_of t m id ≡ Some to → MayLessen t allowed began a m id to)
      → ((id : ObjId) (to : ℕ) → WaitsAt tcb.state id → label_of t m id ≡ Some to → Changes t allowed began a to ⊎ Takes t allowed began a to)
      → Keeps t allowed began event a m (with_released m thread change)
  released_keeps thread tcb change there address context idle label labelled has acts names waits =
      let mid = unblocked m thread tcb.state in
      let new : Tcb = change tcb in
      let left = unblocked_keeps thread tcb.state names waits in
      let at : IsThread mid thread tcb = unblocked_thread m thread tcb tcb.state there in
      let label_kept = same_label t m mid thread (at ∙ sym there) in
      let set =
      set_keeps t allowed began event a mid thread left.held (o.Tcb tcb) (o.Tcb new)
      (tcb_fits t allowed began event a mid thread tcb new at address (λ end k e. inl (links_left tcb new context idle k end e))
      (λ end lent. absurd (idle_lends new.state end idle lent))
      (λ receiving waits. absurd (idle_receives new.state idle receiving waits))
      (λ lent lends. absurd (idle_lends new.state lent.context idle (lent_back new new.state lent lends)))
      (λ awake others. inr (acts_of t allowed mid thread label (label_kept ∙ labelled) (acts awake))))
      (elim has [
        | inl may ↦ changed t allowed began a mid (with_object mid thread (o.Tcb new)) thread label (label_kept ∙ labelled) may
        | inr take ↦
            let queue = unblocked_queue m thread thread tcb.state take.2 take.3 in
            loses_links t allowed began a mid thread label (o.Tcb tcb) (o.Tcb new) (label_kept ∙ labelled) take.0 at
            (released tcb new refl refl address take.1 (inl context)) queue.0 queue.1
      ]) in
      subst (λ (n : Machine). Keeps t allowed began event a m n)
      (sym (released_there m thread tcb change there ∙ tcb_is mid thread tcb new at))
      (keeps_keeps t allowed began event a m mid (with_object mid thread (o.Tcb new)) held left set)

  -- a thread of the label waits at an object, and lends nothing; if it waits for a message without a context, the label may idle
  pub blocked_keeps :
      (caller : ObjId) (tcb : Tcb) (id : ObjId) (run : RunState) (object : Object) → IsThread m caller tcb → IsIdle tcb.state
      → context_lent run ≡ None → label_of t m caller ≡ Some a → object_of m id ≡ Some object → id ≢ caller
      → (label : ℕ) → label_of t m id ≡ Some label → Changes t allowed began a label
      → ((k : Kind) (end : ObjId) (to : ℕ) → state_links run k end ≡ true → label_of t m end ≡ Some to → allowed a k to ≡ true)
      → ((receiving : Receiving) → run ≡ state.Receiving receiving → tcb.context ≡ None → MayIdle allowed a)
      → Keeps t allowed began event a m (with_blocked m caller id run)
  blocked_keeps caller tcb id run object there idle alone mine at apart label labelled has within idles =
      subst (λ (n : Machine). Keeps t allowed began event a m n) (sym (blocked_is m caller id tcb run there))
      (keeps_keeps t allowed began event a m mid (with_waiting mid id caller) held set (by_queue (joins_or_stays mid id caller)))
    where
      blocked : Tcb
      blocked = record tcb { state = run }

      mid : Machine
      mid = with_object m caller (o.Tcb blocked)

      links_within :
          (end : ObjId) (k : Kind) → links (o.Tcb blocked) k end ≡ true
          → (links (o.Tcb tcb) k end ≡ true)
          ⊎ ((from to : ℕ) → label_of t m caller ≡ Some from → label_of t m end ≡ Some to → allowed from k to ≡ true)
      links_within end authority.Runs e =
          inl (runs_also blocked tcb end (λ bound. bound) (λ lent. absurd (none-some end (sym alone ∙ lent))) e)
      links_within end k e = inr (λ from to source target.
          ap (λ x. allowed x k to) (same_Some from a (sym source ∙ mine)) ∙ within k end to e target)

      set : Keeps t allowed began event a m mid
      set =
          set_keeps t allowed began event a m caller held (o.Tcb tcb) (o.Tcb blocked)
          (tcb_fits t allowed began event a m caller tcb blocked there refl links_within
          (λ context lent. absurd (none-some context (sym alone ∙ lent)))
          (λ receiving waits none l at.
          subst (MayIdle allowed) (same_Some a l (sym mine ∙ at)) (idles receiving waits none))
          (λ lent lends. absurd (none-some lent.context (sym alone ∙ lent_back tcb run lent lends)))
          (λ awake others. inr (acts_of t allowed m caller a mine awake.acting)))
          (changed t allowed began a m mid caller a mine (λ awake. own refl))

      same : object_of mid id ≡ object_of m id
      same = object_of-with_object m caller (o.Tcb blocked) id ∙ at_other id caller (Some (o.Tcb blocked)) (object_of m id) apart

      by_queue :
          ((threads : List ObjId) × (with_waiting mid id caller ≡ with_queue mid id threads)) ⊎ (with_waiting mid id caller ≡ mid)
          → Keeps t allowed began event a mid (with_waiting mid id caller)
      by_queue (inl joins) =
          subst (λ (n : Machine). Keeps t allowed began event a mid n) (sym joins.1)
          (queue_keeps t allowed began event a mid id set.held object joins.0 (same ∙ at)
          (changed t allowed began a mid _ id label (same_label t m mid id same ∙ labelled) has))
      by_queue (inr nowhere) =
          subst (λ (n : Machine). Keeps t allowed began event a mid n) (sym nowhere)
          (unchanged t allowed began event a mid set.held)

  -- a thread waits for the answer to its call, through a reply that holds it, and lends at most the context that it runs on
  pub called_keeps :
      (thread : ObjId) (tcb : Tcb) (calling : Calling) (old : Reply) → IsThread m thread tcb → IsIdle tcb.state
      → ((context : ObjId) → context_lent (state.Called calling) ≡ Some context → (tcb.context ≡ Some context) × (context.0 < m.next))
      → ((lent : Lent) → calling.lent ≡ Some lent → IsIdleBorrower t allowed m lent)
      → object_of m calling.reply ≡ Some (o.Reply old)
      → (label : ℕ) → label_of t m thread ≡ Some label → Changes t allowed began a label
      → (IsAwake t allowed began a → MayAct t allowed label)
      → (holder : ℕ) → label_of t m calling.reply ≡ Some holder → MayHold t allowed began a holder label
      → Keeps t allowed began event a m (with_called m thread calling)
  called_keeps thread tcb calling old there idle lends borrows at label labelled has acts holder reply_labelled may_hold =
      let id = calling.reply in
      let calls : Tcb = record tcb { state = state.Called calling } in
      let mid = with_object m thread (o.Tcb calls) in
      let set =
      set_keeps t allowed began event a m thread held (o.Tcb tcb) (o.Tcb calls)
      (tcb_fits t allowed began event a m thread tcb calls there refl (λ end k e. inl (links_kept k end e))
      (λ context lent. (lends context lent).1)
      (λ receiving waits none l at. cc)
      borrows
      (λ awake others. inr (acts_of t allowed m thread label labelled (acts awake))))
      (changed t allowed began a m mid thread label labelled has) in
      let apart : id ≢ thread = λ same. apart_by_kind m id thread old tcb at there (sym same) in
      let same : object_of mid id ≡ object_of m id =
      object_of-with_object m thread (o.Tcb calls) id ∙ at_other id thread (Some (o.Tcb calls)) (object_of m id) apart in
      let thread_label : label_of t mid thread ≡ label_of t m thread =
      label_stays t m mid thread (o.Tcb tcb) (o.Tcb calls) there
      (object_of-with_object m thread (o.Tcb calls) thread ∙ at_itself thread (Some (o.Tcb calls)) (object_of m thread)) refl in
      subst (λ (n : Machine). Keeps t allowed began event a m n) (sym (called_is m thread calling tcb there))
      (keeps_keeps t allowed began event a m mid (with_holding mid id (reply.Called thread)) held set
      (holding_keeps t allowed began event a mid set.held id old (reply.Called thread) holder (same ∙ at)
      (same_label t m mid id same ∙ reply_labelled) may_hold.changes
      (λ end to is target.
      let to_is : to ≡ label =
      same_Some to label (sym target ∙ ap (label_of t mid) (sym (one_id thread end is)) ∙ thread_label ∙ labelled) in
      ap (λ x. allowed holder authority.Holds x) to_is ∙ may_hold.holds)
      (λ awake other is. (
        let below = held.numbered thread (o.Tcb tcb) there in
            let grows = set.grows in
            let other_is : thread.0 ≡ other.0 = ap (λ (x : ObjId). x.0) (same_called thread other is) in
            omega (arith, below, grows, other_is),
        λ one caller source target.
            let one_is : holder ≡ one = same_Some holder one (sym (same_label t m mid id same ∙ reply_labelled) ∙ source) in
            let caller_is : label ≡ caller =
            same_Some label caller
            (sym (thread_label ∙ labelled) ∙ ap (label_of t mid) (same_called thread other is) ∙ target) in
            subst (λ x. IsServed t allowed one x) caller_is
            (subst (λ x. IsServed t allowed x label) one_is (may_hold.serves awake)),
      ))))
    where
      links_kept :
          (k : Kind) (end : ObjId) → links (o.Tcb (record tcb { state = state.Called calling })) k end ≡ true
          → links (o.Tcb tcb) k end ≡ true
      links_kept authority.Runs end e = elim (runs_by (record tcb { state = state.Called calling }) end e) [
        | inl bound ↦ runs_bound tcb end bound
        | inr lent ↦ runs_bound tcb end (lends end lent).0
      ]
      links_kept _ end e = absurd (false≢true e)

  -- a thread's inbox becomes empty
  pub emptied_keeps :
      (caller : ObjId) (tcb : Tcb) → IsThread m caller tcb → label_of t m caller ≡ Some a
      → Keeps t allowed began event a m (emptied m caller)
  emptied_keeps caller tcb there mine =
      let new : Tcb = record tcb { inbox = inbox.Empty } in
      subst (λ (n : Machine). Keeps t allowed began event a m n) (sym (emptied_is m caller tcb there))
      (set_keeps t allowed began event a m caller held (o.Tcb tcb) (o.Tcb new)
      (tcb_fits t allowed began event a m caller tcb new there refl (λ end k e. inl (links_kept k end e))
      (λ context lent. held.of_table.lent caller context tcb there lent)
      (λ receiving. held.idlers caller tcb receiving there)
      (λ lent lends. held.borrowers caller lent (ap loan_in there ∙ lends))
      (λ awake others. inr (acts_of t allowed m caller a mine awake.acting)))
      (changed t allowed began a m (with_object m caller (o.Tcb new)) caller a mine (λ awake. own refl)))
    where
      links_kept :
          (k : Kind) (end : ObjId) → links (o.Tcb (record tcb { inbox = inbox.Empty })) k end ≡ true
          → links (o.Tcb tcb) k end ≡ true
      links_kept authority.Runs end e = e
      links_kept _ end e = e

-- a well-formed machine to which a sound one leads is sound
pub sound_after :
    (t : Layout) (allowed : EdgeTest) (began : Machine) (event : Event) (a : ℕ) (m next : Machine) → IsSound t allowed m
    → Keeps t allowed began event a m next → IsWellFormed next → IsSound t allowed next
sound_after t allowed began event a m next sound keeps formed =
    record {
      well_formed = formed;
      of_table = keeps.held.of_table;
      confined = keeps.held.confined;
      nodes = keeps.held.nodes;
      idlers = keeps.held.idlers;
      borrowers = keeps.held.borrowers;
    }
