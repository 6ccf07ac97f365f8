-- The links of a boot state agree: nobody waits, every reply is free, and the table's bindings join threads and contexts.
use Rattle.std.{specs.Prelude.{Contains, Some}, proofs.Common.{[], ◌∙◌, ◌≡◌, List, ap, arith, length, refl, sym}}
use Rattle.base.specs.declared.ids.ObjId.{ObjId}
use Rattle.machine.specs.declared.{layout.Initial.Initial, object.{Context.Context, Object.{Object, Object as o}}}
use Rattle.machine.specs.declared.object.ObjectKind.TheVariants as kind
use Rattle.machine.specs.declared.{object.ReplyState.ReplyState as reply, thread.{RunState.{RunState, RunState as run}, Tcb.Tcb}}
use Rattle.machine.specs.{Boot.{IsBoot, booted, bound}, Layout.{Layout, bound_context, bound_thread, initial_of}, Machine.Machine}
use Rattle.machine.specs.{Machine.{object_of, queue_of}, Objects.kind_of_object, WellFormed.{IsCallingThrough, IsReceivingWith, IsThread}}
use Rattle.machine.specs.WellFormed.{LinksAgree, WaitsAt}
use Rattle.table.{specs.Rules.{IsAtRest, IsLawful}, proofs.BootParts.{Binds, at_boot, binding-law, binds-context, binds-thread}}
use Rattle.table.proofs.BootParts.{context-bound, declared-present, map-some, thread-bound}

pub boot-queue :
    (t : Layout) (m : Machine) (id : ObjId) (threads : List ObjId) → IsBoot t m → queue_of m id ≡ Some threads → threads ≡ []
boot-queue t m id threads boot queue = (map-some (λ (object : Object). []) (booted t id) threads (sym (boot.queues id) ∙ queue)).2

unqueued :
    (t : Layout) (m : Machine) (id thread : ObjId) (threads : List ObjId) → IsBoot t m → queue_of m id ≡ Some threads
    → Contains threads thread → ⊥
unqueued t m id thread threads boot queue waits =
    let none = ap length (boot-queue t m id threads boot queue) in omega (arith, waits.1)

unwaiting : (state : RunState) (id : ObjId) → IsAtRest state → WaitsAt state id → ⊥
unwaiting run.Inactive id rests waits = waits
unwaiting run.Ready id rests waits = waits
unwaiting _ id rests waits = rests

unreceiving : (state : RunState) (id : ObjId) → IsAtRest state → IsReceivingWith state id → ⊥
unreceiving run.Inactive id rests waits = waits
unreceiving run.Ready id rests waits = waits
unreceiving _ id rests waits = rests

uncalled : (state : RunState) (id : ObjId) → IsAtRest state → IsCallingThrough state id → ⊥
uncalled run.Inactive id rests called = called
uncalled run.Ready id rests called = called
uncalled _ id rests called = rests

-- a declared object of a kind is a thread or a context of the boot state

tcb-of_kind :
    (t : Layout) (id : ObjId) (object : Object) → kind_of_object object ≡ kind.Tcb
    → (thread : Tcb) × (bound t id object ≡ o.Tcb thread)
tcb-of_kind t id (o.Tcb thread) of_kind = (record thread { context = bound_context t id }, refl)
tcb-of_kind t id _ of_kind = absurd cc

context-of_kind :
    (t : Layout) (id : ObjId) (object : Object) → kind_of_object object ≡ kind.Context
    → (context : Context) × (bound t id object ≡ o.Context context)
context-of_kind t id (o.Context context) of_kind = (record context { thread = bound_thread t id }, refl)
context-of_kind t id _ of_kind = absurd cc

-- the context of a bound thread is there, and has this thread
pub boot-context :
    (t : Layout) (m : Machine) (thread id : ObjId) → IsLawful t → IsBoot t m → Binds t thread id
    → (context : Context) × (object_of m id ≡ Some (o.Context context)) × (context.thread ≡ Some thread)
unfolding initial_of
boot-context t m thread id lawful boot binds =
    let law = binding-law t thread id lawful binds in
    let found = map-some (λ (initial : Initial). kind_of_object initial.object) (initial_of t id) kind.Context law.context in
    let made = context-of_kind t id found.0.object (sym found.2) in
    let present : object_of m id ≡ Some (o.Context made.0) =
    declared-present t m id found.0 boot found.1 ∙ ap (λ object. Some object) made.1 in
    (made.0, present, at_boot t m id (o.Context made.0) lawful boot present ∙ context-bound t thread id lawful binds)

-- the thread of a bound context is there, and has this context
pub boot-thread :
    (t : Layout) (m : Machine) (thread id : ObjId) → IsLawful t → IsBoot t m → Binds t thread id
    → (tcb : Tcb) × IsThread m thread tcb × (tcb.context ≡ Some id)
unfolding initial_of
boot-thread t m thread id lawful boot binds =
    let law = binding-law t thread id lawful binds in
    let found = map-some (λ (initial : Initial). kind_of_object initial.object) (initial_of t thread) kind.Tcb law.thread in
    let made = tcb-of_kind t thread found.0.object (sym found.2) in
    let present : object_of m thread ≡ Some (o.Tcb made.0) =
    declared-present t m thread found.0 boot found.1 ∙ ap (λ object. Some object) made.1 in
    (made.0, present, (at_boot t m thread (o.Tcb made.0) lawful boot present).2 ∙ thread-bound t thread id lawful binds)

pub boot-links : (t : Layout) (m : Machine) → IsLawful t → IsBoot t m → LinksAgree m
boot-links t m lawful boot =
    let rests : (thread : ObjId) (tcb : Tcb) → IsThread m thread tcb → IsAtRest tcb.state =
    λ thread tcb is. (at_boot t m thread (o.Tcb tcb) lawful boot is).0 in
    record {
      queued = λ id threads thread queue waits. absurd (unqueued t m id thread threads boot queue waits);
      waiting = λ thread id tcb is waits. absurd (unwaiting tcb.state id (rests thread tcb is) waits);
      once =
          λ id threads queue i j d below within.
          let none = ap length (boot-queue t m id threads boot queue) in absurd (omega arith);
      one_way = λ id a b threads first second queue has_a _ _ _ _ _. absurd (unqueued t m id a threads boot queue has_a);
      receiver_reply = λ thread id tcb is receives. absurd (unreceiving tcb.state id (rests thread tcb is) receives);
      called_reply = λ thread id tcb is called. absurd (uncalled tcb.state id (rests thread tcb is) called);
      waiting_reply =
          λ id thread address is.
          let free = at_boot t m id (o.Reply (record { address = address; state = reply.Waiting thread })) lawful boot is in
          absurd cc;
      reply_called =
          λ id thread address is.
          let free = at_boot t m id (o.Reply (record { address = address; state = reply.Called thread })) lawful boot is in
          absurd cc;
      thread_context =
          λ thread id tcb is has.
          boot-context t m thread id lawful boot
          (binds-thread t thread id (sym (at_boot t m thread (o.Tcb tcb) lawful boot is).2 ∙ has));
      context_thread =
          λ id thread context is has.
          boot-thread t m thread id lawful boot
          (binds-context t thread id (sym (at_boot t m id (o.Context context) lawful boot is) ∙ has));
    }
