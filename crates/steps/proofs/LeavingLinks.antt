-- That queues, replies and contexts stay linked at both ends when threads leave their queues and replies, lose their contexts, or are
-- removed with other objects.
use Rattle.std.specs.Prelude.{All, AllPairs, Contains, None, Option, Some, filter, if◌then◌else◌, option_map}
use Rattle.std.proofs.Common.{[], ◌∙◌, ◌∷◌, ◌≡◌, ◌≢◌, Bool, List, ap, cond, false, not, refl, subst, sym, true}
use Rattle.std.proofs.lemmas.List.Elements.{All-cons, All-contains, All-contains_itself, All-filter, All-nil, All-weaker, filter_passes}
use Rattle.{std.proofs.lemmas.{List.Kept.AllPairs-filter, Option.{none-some, same_Some}}, base.specs.declared.ids.ObjId.ObjId}
use Rattle.machine.specs.declared.object.{Context.Context, Object.{Object, Object as o}, Reply.Reply, ReplyState.ReplyState}
use Rattle.machine.specs.{declared.thread.{RunState.RunState, Tcb.Tcb}, Finalising.{IsHolding, link_after}}
use Rattle.machine.specs.{Machine.{Machine, object_of, queue_of}, Objects.kind_of_object, Releasing.reply_by, WellFormed.IsCallingThrough}
use Rattle.machine.specs.WellFormed.{IsIdle, IsReceivingWith, IsSending, IsThread, LinksAgree, WaitsAt, WaitsAtKind, kind_of}
use Rattle.machine.proofs.{HeldThreads.{calling_names, receiving_names}, Idle.{idle_called, idle_receives, idle_waits}}
use Rattle.machine.proofs.{Leaving.Names, Queues.{first_in, other_in}, RoundLemmas.not_passes}
use Rattle.machine.specs.declared.object.ReplyState.TheVariants as reply
use Rattle.machine.specs.declared.thread.RunState.TheVariants as state

-- the members of a filtered list are those of the list that pass

pub in_whole : (p : ObjId → Bool) (xs : List ObjId) (x : ObjId) → Contains (filter p xs) x → Contains xs x
in_whole p xs x there = All-contains (Contains xs) (filter p xs) x (All-filter p (Contains xs) xs (All-contains_itself xs)) there

all_kept : (p : ObjId → Bool) (xs : List ObjId) → All (λ y. p y ≡ true → Contains (filter p xs) y) xs
all_kept p [] = All-nil (λ y. p y ≡ true → Contains [] y)
all_kept p (x ∷ xs) =
    All-cons (λ y. p y ≡ true → Contains (filter p (x ∷ xs)) y) x xs
    (λ is. subst (λ b. Contains (cond b (x ∷ filter p xs) (filter p xs)) x) (sym is) (first_in x (filter p xs)))
    (All-weaker (λ y. p y ≡ true → Contains (filter p xs) y) (λ y. p y ≡ true → Contains (filter p (x ∷ xs)) y)
    (λ y later is. on (p x) y (later is)) xs (all_kept p xs)) where
      on : (b : Bool) (y : ObjId) → Contains (filter p xs) y → Contains (cond b (x ∷ filter p xs) (filter p xs)) y
      on true y there = other_in x (filter p xs) y there
      on false y there = there

into_part : (p : ObjId → Bool) (xs : List ObjId) (x : ObjId) → Contains xs x → p x ≡ true → Contains (filter p xs) x
into_part p xs x there = All-contains (λ y. p y ≡ true → Contains (filter p xs) y) xs x (all_kept p xs) there

-- which objects are removed, which threads leave their queue and reply or lose their context, and what each thread becomes
pub record Leavers : Type 0 where
  pub goes : ObjId → Bool
  pub leaves : ObjId → Bool
  pub unbinds : ObjId → Bool
  pub becomes : ObjId → Tcb → Tcb

abbrev pub object_left : Leavers → ObjId → Object → Object
object_left who id (o.Tcb tcb) = o.Tcb (who.becomes id tcb)
object_left who id (o.Reply holding) = o.Reply (record holding { state = reply_by who.leaves holding.state })
object_left who id (o.Context context) = o.Context (record context { thread = link_after who.unbinds context.thread })
object_left who id object = object

-- the members of a queue who don't leave it
abbrev pub queue_left : Leavers → List ObjId → List ObjId
queue_left who threads = filter (λ thread. not (who.leaves thread)) threads

-- a thread that stays is idle if it leaves, and loses its context if either of the two is removed
pub record Becomes (who : Leavers) (thread : ObjId) (tcb : Tcb) : Type 0 where
  pub stays : who.leaves thread ≡ false → (who.becomes thread tcb).state ≡ tcb.state
  pub idle : who.leaves thread ≡ true → IsIdle (who.becomes thread tcb).state
  pub context : (who.becomes thread tcb).context ≡ (if who.unbinds thread then None else link_after who.goes tcb.context)

pub record AreReleased (old : Machine) (who : Leavers) (now : Machine) : Type 0 where
  pub objects : (id : ObjId) → object_of now id ≡ (if who.goes id then None else option_map (object_left who id) (object_of old id))
  pub queues : (id : ObjId) → queue_of now id ≡ (if who.goes id then None else option_map (queue_left who) (queue_of old id))
  pub becomes : (thread : ObjId) (tcb : Tcb) → IsThread old thread tcb → who.goes thread ≡ false → Becomes who thread tcb
  -- nothing is linked to an object that is removed
  pub goes : (thread : ObjId) → who.goes thread ≡ true → (who.leaves thread ≡ true) × (who.unbinds thread ≡ true)
  pub waits :
      (thread id : ObjId) (tcb : Tcb) → IsThread old thread tcb → WaitsAt tcb.state id → who.goes id ≡ true → who.leaves thread ≡ true
  pub names :
      (thread id : ObjId) (tcb : Tcb) → IsThread old thread tcb → Names tcb.state id → who.goes id ≡ true → who.leaves thread ≡ true

-- an object that is there was there, and isn't removed
left_was :
    {A B : Type 0} (becomes : A → B) (goes : Bool) (was : Option A) (now : B) → cond goes None (option_map becomes was) ≡ Some now
    → (old : A) × (was ≡ Some old) × (goes ≡ false) × (becomes old ≡ now)
left_was becomes true was now e = absurd (none-some now e)
left_was becomes false None now e = absurd (none-some now e)
left_was becomes false (Some old) now e = (old, refl, refl, same_Some (becomes old) now e)

stays_unless : (a b : Bool) → b ≡ false → (a ≡ true → b ≡ true) → a ≡ false
stays_unless true b stays more = sym (more refl) ∙ stays
stays_unless false b stays more = refl

idle_sends : (run : RunState) → IsIdle run → ¬ (IsSending run)
idle_sends state.Inactive idle sends = sends
idle_sends state.Ready idle sends = sends
idle_sends _ idle sends = absurd idle

own_was : (lost : Bool) (link : Option ObjId) (id : ObjId) → cond lost None link ≡ Some id → (lost ≡ false) × (link ≡ Some id)
own_was true link id e = absurd (none-some id e)
own_was false link id e = (refl, e)

-- a link to an object that stays is as it was

pub link_itself : (link : Option ObjId) → link_after (λ _. false) link ≡ link
link_itself None = refl
link_itself (Some id) = refl

module _ (goes : ObjId → Bool) where
  pub link_was : (link : Option ObjId) (id : ObjId) → link_after goes link ≡ Some id → (link ≡ Some id) × (goes id ≡ false)
  link_was None id e = absurd (none-some id e)
  link_was (Some to) id e = by_test (goes to) refl e where
    by_test : (b : Bool) → goes to ≡ b → cond b None (Some to) ≡ Some id → (Some to ≡ Some id) × (goes id ≡ false)
    by_test true is same = absurd (none-some id same)
    by_test false is same = (same, ap goes (sym (same_Some to id same)) ∙ is)

  link_now : (link : Option ObjId) (id : ObjId) → link ≡ Some id → goes id ≡ false → link_after goes link ≡ Some id
  link_now link id e stays = ap (link_after goes) e ∙ ap (λ b. cond b None (Some id)) stays

-- a reply that holds a thread that doesn't leave is as it was
module _ (leaves : ObjId → Bool) (thread : ObjId) where
  by_test :
      (run : ReplyState) (held : ObjId) (b : Bool) → leaves held ≡ b → (IsHolding run thread → held ≡ thread)
      → IsHolding (cond b reply.Free run) thread → (cond b reply.Free run ≡ run) × (leaves thread ≡ false)
  by_test run held true e its holds = absurd holds
  by_test run held false e its holds = (refl, ap leaves (sym (its holds)) ∙ e)

  held_now : (run : ReplyState) → IsHolding run thread → leaves thread ≡ false → reply_by leaves run ≡ run
  held_now (reply.Waiting held) is stays = ap (λ b. cond b reply.Free (reply.Waiting held)) (ap leaves is ∙ stays)
  held_now (reply.Called held) is stays = ap (λ b. cond b reply.Free (reply.Called held)) (ap leaves is ∙ stays)
  held_now reply.Free is stays = absurd is

  held_was : (run : ReplyState) → IsHolding (reply_by leaves run) thread → (reply_by leaves run ≡ run) × (leaves thread ≡ false)
  held_was (reply.Waiting held) = by_test (reply.Waiting held) held (leaves held) refl (λ holds. holds)
  held_was (reply.Called held) = by_test (reply.Called held) held (leaves held) refl (λ holds. holds)
  held_was reply.Free = λ is. absurd is

module _ (old now : Machine) (who : Leavers) (have : AreReleased old who now) where
  object_was :
      (id : ObjId) (object : Object) → object_of now id ≡ Some object
      → (was : Object) × (object_of old id ≡ Some was) × (who.goes id ≡ false) × (object_left who id was ≡ object)
  object_was id object e = left_was (object_left who id) (who.goes id) (object_of old id) object (sym (have.objects id) ∙ e)

  object_there : (id : ObjId) → who.goes id ≡ false → object_of now id ≡ option_map (object_left who id) (object_of old id)
  object_there id stays = have.objects id ∙ ap (λ b. cond b None (option_map (object_left who id) (object_of old id))) stays

  object_now :
      (id : ObjId) (was : Object) → who.goes id ≡ false → object_of old id ≡ Some was
      → object_of now id ≡ Some (object_left who id was)
  object_now id was stays e = object_there id stays ∙ ap (option_map (object_left who id)) e

  pub kind_now : (id : ObjId) → who.goes id ≡ false → kind_of now id ≡ kind_of old id
  kind_now id stays = ap (option_map kind_of_object) (object_there id stays) ∙ by_object (object_of old id) where
    by_object :
        (object : Option Object) → option_map kind_of_object (option_map (object_left who id) object) ≡ option_map kind_of_object object
    by_object None = refl
    by_object (Some (o.Tcb tcb)) = refl
    by_object (Some (o.Reply holding)) = refl
    by_object (Some (o.Context context)) = refl
    by_object (Some _) = refl

  -- threads

  pub thread_was :
      (thread : ObjId) (tcb : Tcb) → IsThread now thread tcb
      → (was : Tcb) × IsThread old thread was × (who.goes thread ≡ false) × (who.becomes thread was ≡ tcb)
  thread_was thread tcb e = let was = object_was thread (o.Tcb tcb) e in by_kind was.0 was.1 was.2 was.3 where
    by_kind :
        (object : Object) → object_of old thread ≡ Some object → who.goes thread ≡ false → object_left who thread object ≡ o.Tcb tcb
        → (was : Tcb) × IsThread old thread was × (who.goes thread ≡ false) × (who.becomes thread was ≡ tcb)
    by_kind (o.Tcb was) there stays same = (was, there, stays, cc)
    by_kind (o.Reply was) there stays same = cc
    by_kind (o.Context was) there stays same = cc
    by_kind _ there stays same = cc

  -- a blocked thread was blocked, and doesn't leave
  blocked_was :
      (P : RunState → Type 0) → ((run : RunState) → IsIdle run → ¬ (P run)) → (thread : ObjId) (tcb : Tcb) → IsThread now thread tcb
      → P tcb.state → (was : Tcb) × IsThread old thread was × P was.state × (who.leaves thread ≡ false)
  blocked_was P blocked thread tcb e is =
      let was = thread_was thread tcb e in
      let w =
      by_test was.0 (have.becomes thread was.0 was.1 was.2) (who.leaves thread) refl
      (subst (λ (t : Tcb). P t.state) (sym was.3) is) in
      (was.0, was.1, w.0, w.1) where
        by_test :
            (was : Tcb) → Becomes who thread was → (b : Bool) → who.leaves thread ≡ b → P (who.becomes thread was).state
            → P was.state × (who.leaves thread ≡ false)
        by_test was becomes true left at = absurd (blocked (who.becomes thread was).state (becomes.idle left) at)
        by_test was becomes false stays at = (subst P (becomes.stays stays) at, stays)

  -- a thread that doesn't leave keeps its run state
  still :
      (P : RunState → Type 0) (thread : ObjId) (was : Tcb) → IsThread old thread was → P was.state → who.leaves thread ≡ false
      → (tcb : Tcb) × IsThread now thread tcb × P tcb.state
  still P thread was there is stays =
      let remains = stays_unless (who.goes thread) (who.leaves thread) stays (λ gone. (have.goes thread gone).0) in (
        who.becomes thread was,
        object_now thread (o.Tcb was) remains there,
        subst P (sym ((have.becomes thread was there remains).stays stays)) is,
      )

  -- queues

  pub queue_was :
      (id : ObjId) (threads : List ObjId) → queue_of now id ≡ Some threads
      → (all : List ObjId) × (queue_of old id ≡ Some all) × (who.goes id ≡ false) × (queue_left who all ≡ threads)
  queue_was id threads e = left_was (queue_left who) (who.goes id) (queue_of old id) threads (sym (have.queues id) ∙ e)

  pub queue_now :
      (id : ObjId) (all : List ObjId) → who.goes id ≡ false → queue_of old id ≡ Some all → queue_of now id ≡ Some (queue_left who all)
  queue_now id all stays e =
      have.queues id ∙ ap (λ b. cond b None (option_map (queue_left who) (queue_of old id))) stays ∙ ap (option_map (queue_left who)) e

  pub member_was :
      (id : ObjId) (threads : List ObjId) (thread : ObjId) → queue_of now id ≡ Some threads → Contains threads thread
      → (all : List ObjId) × (queue_of old id ≡ Some all) × Contains all thread × (who.leaves thread ≡ false) × (who.goes id ≡ false)
  member_was id threads thread e within =
      let was = queue_was id threads e in
      let inside : Contains (queue_left who was.0) thread = subst (λ (ts : List ObjId). Contains ts thread) (sym was.3) within in (
        was.0,
        was.1,
        in_whole (λ t. not (who.leaves t)) was.0 thread inside,
        not_passes (who.leaves thread)
            (All-contains (λ t. not (who.leaves t) ≡ true) (queue_left who was.0) thread (filter_passes (λ t. not (who.leaves t)) was.0)
            inside),
        was.2,
      )

  pub member_now :
      (id : ObjId) (all : List ObjId) (thread : ObjId) → queue_of old id ≡ Some all → Contains all thread → who.leaves thread ≡ false
      → who.goes id ≡ false → (threads : List ObjId) × (queue_of now id ≡ Some threads) × Contains threads thread
  member_now id all thread e within stays remains = (
    queue_left who all,
    queue_now id all remains e,
    into_part (λ t. not (who.leaves t)) all thread within (ap not stays),
  )

  -- replies

  pub holder_was :
      (id : ObjId) (holding : Reply) (thread : ObjId) → object_of now id ≡ Some (o.Reply holding) → IsHolding holding.state thread
      → (object_of old id ≡ Some (o.Reply holding)) × (who.leaves thread ≡ false)
  holder_was id holding thread e is = let was = object_was id (o.Reply holding) e in by_kind was.0 was.1 was.3 where
    by_kind :
        (object : Object) → object_of old id ≡ Some object → object_left who id object ≡ o.Reply holding
        → (object_of old id ≡ Some (o.Reply holding)) × (who.leaves thread ≡ false)
    by_kind (o.Reply was) there same =
        let one : record was { state = reply_by who.leaves was.state } ≡ holding = cc in
        let w = held_was who.leaves thread was.state (subst (λ (r : Reply). IsHolding r.state thread) (sym one) is) in
        let same = ap (λ (s : ReplyState). Some (o.Reply (record was { state = s }))) (sym w.0) in
        (there ∙ same ∙ ap (λ (r : Reply). Some (o.Reply r)) one, w.1)
    by_kind (o.Tcb was) there same = cc
    by_kind (o.Context was) there same = cc
    by_kind _ there same = cc

  pub holder_now :
      (id : ObjId) (holding : Reply) (thread : ObjId) → object_of old id ≡ Some (o.Reply holding) → IsHolding holding.state thread
      → who.leaves thread ≡ false → who.goes id ≡ false → object_of now id ≡ Some (o.Reply holding)
  holder_now id holding thread e is stays remains =
      object_now id (o.Reply holding) remains e
      ∙ ap (λ (s : ReplyState). Some (o.Reply (record holding { state = s }))) (held_now who.leaves thread holding.state is stays)

  -- contexts

  context_was :
      (id : ObjId) (context : Context) → object_of now id ≡ Some (o.Context context)
      → (was : Context) × (object_of old id ≡ Some (o.Context was)) × (who.goes id ≡ false)
      × (link_after who.unbinds was.thread ≡ context.thread)
  context_was id context e = let was = object_was id (o.Context context) e in by_kind was.0 was.1 was.2 was.3 where
    by_kind :
        (object : Object) → object_of old id ≡ Some object → who.goes id ≡ false → object_left who id object ≡ o.Context context
        → (was : Context) × (object_of old id ≡ Some (o.Context was)) × (who.goes id ≡ false)
        × (link_after who.unbinds was.thread ≡ context.thread)
    by_kind (o.Context was) there stays same =
        let one : record was { thread = link_after who.unbinds was.thread } ≡ context = cc in
        (was, there, stays, ap (λ (c : Context). c.thread) one)
    by_kind (o.Tcb was) there stays same = cc
    by_kind (o.Reply was) there stays same = cc
    by_kind _ there stays same = cc

  pub links_left : LinksAgree old → LinksAgree now
  links_left links =
      record {
        queued =
            λ id threads thread e within.
            let was = member_was id threads thread e within in
            let w = links.queued id was.0 thread was.1 was.2 in
            let is = still (λ run. WaitsAt run id × WaitsAtKind run w.1) thread w.0 w.2 (w.3, w.5) was.3 in
            (is.0, w.1, is.1, is.2.0, kind_now id was.4 ∙ w.4, is.2.1);
        waiting =
            λ thread id tcb e waits.
            let was = blocked_was (λ run. WaitsAt run id) (λ run idle. idle_waits run idle id) thread tcb e waits in
            let w = links.waiting thread id was.0 was.1 was.2 in
            member_now id w.0 thread w.1 w.2 was.3
            (stays_unless (who.goes id) (who.leaves thread) was.3 (have.waits thread id was.0 was.1 was.2));
        once =
            λ id threads e.
            let was = queue_was id threads e in
            subst (λ (ts : List ObjId). AllPairs (λ a b. a ≢ b) ts) was.3
            (AllPairs-filter (λ a b. a ≢ b) (λ t. not (who.leaves t)) was.0 (links.once id was.0 was.1));
        one_way =
            λ id a b threads first second e in_a in_b is_a is_b sends at.
            let was_a = member_was id threads a e in_a in
            let was_b = member_was id threads b e in_b in
            let one = blocked_was IsSending idle_sends a first is_a sends in
            let two = thread_was b second is_b in
            let whole : was_b.0 ≡ was_a.0 = same_Some was_b.0 was_a.0 (sym was_b.1 ∙ was_a.1) in
            subst (λ (t : Tcb). IsSending t.state) two.3
            (subst IsSending (sym ((have.becomes b two.0 two.1 two.2).stays was_b.3))
            (links.one_way id a b was_a.0 one.0 two.0 was_a.1 was_a.2 (subst (λ (ts : List ObjId). Contains ts b) whole was_b.2) one.1
            two.1 one.2 (sym (kind_now id was_a.4) ∙ at)));
        receiver_reply =
            λ thread id tcb e receives.
            let was = blocked_was (λ run. IsReceivingWith run id) (λ run idle. idle_receives run idle id) thread tcb e receives in
            let w = links.receiver_reply thread id was.0 was.1 was.2 in
            (w.0, holder_now id _ thread w.1 refl was.3 (named thread id was.0 was.1 (receiving_names was.0.state id was.2) was.3));
        called_reply =
            λ thread id tcb e called.
            let was = blocked_was (λ run. IsCallingThrough run id) (λ run idle. idle_called run idle id) thread tcb e called in
            let w = links.called_reply thread id was.0 was.1 was.2 in
            (w.0, holder_now id _ thread w.1 refl was.3 (named thread id was.0 was.1 (calling_names was.0.state id was.2) was.3));
        waiting_reply =
            λ id thread address e.
            let was = holder_was id _ thread e refl in
            let w = links.waiting_reply id thread address was.0 in still (λ run. IsReceivingWith run id) thread w.0 w.1 w.2 was.1;
        reply_called =
            λ id thread address e.
            let was = holder_was id _ thread e refl in
            let w = links.reply_called id thread address was.0 in still (λ run. IsCallingThrough run id) thread w.0 w.1 w.2 was.1;
        thread_context =
            λ thread id tcb e bound.
            let was = thread_was thread tcb e in
            let becomes = have.becomes thread was.0 was.1 was.2 in
            let own =
            own_was (who.unbinds thread) (link_after who.goes was.0.context) id
            (sym becomes.context ∙ ap (λ (t : Tcb). t.context) was.3 ∙ bound) in
            let link = link_was who.goes was.0.context id own.1 in
            let w = links.thread_context thread id was.0 was.1 link.0 in (
              record w.0 { thread = link_after who.unbinds w.0.thread },
              object_now id (o.Context w.0) link.1 w.1,
              link_now who.unbinds w.0.thread thread w.2 own.0,
            );
        context_thread =
            λ id thread context e bound.
            let was = context_was id context e in
            let link = link_was who.unbinds was.0.thread thread (was.3 ∙ bound) in
            let w = links.context_thread id thread was.0 was.1 link.0 in
            let remains = stays_unless (who.goes thread) (who.unbinds thread) link.1 (λ gone. (have.goes thread gone).1) in (
              who.becomes thread w.0,
              object_now thread (o.Tcb w.0) remains w.1,
              (have.becomes thread w.0 w.1 remains).context ∙ ap (λ b. cond b None (link_after who.goes w.0.context)) link.1
                  ∙ link_now who.goes w.0.context id w.2 was.2,
            );
      } where
        named :
            (thread id : ObjId) (tcb : Tcb) → IsThread old thread tcb → Names tcb.state id → who.leaves thread ≡ false
            → who.goes id ≡ false
        named thread id tcb there names stays =
            stays_unless (who.goes id) (who.leaves thread) stays (have.names thread id tcb there names)
