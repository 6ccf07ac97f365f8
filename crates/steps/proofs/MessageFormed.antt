-- That a machine stays well formed when a thread is released, halted, or begins to wait at an object or for an answer.
use Rattle.std.{specs.Prelude.{None, Option, Some, option_map}, proofs.Common.{ℕ, ◌∙◌, ◌≡◌, List, ap, refl, subst, sym}}
use Rattle.{std.proofs.lemmas.Option.none-some, base.specs.declared.ids.ObjId.ObjId}
use Rattle.machine.specs.declared.object.{Object.{Object, Object as o}, ObjectKind.ObjectKind, Reply.Reply, ReplyState.ReplyState}
use Rattle.machine.specs.declared.thread.{Calling.Calling, Message.Message, Receiving.Receiving, RunState.RunState, Tcb.Tcb}
use Rattle.machine.specs.{Changes.with_tcb, Finalising.{IsHolding, aborted, halted}, Machine.{Machine, object_of, queue_of}}
use Rattle.machine.specs.{Objects.kind_of_object, Releasing.{given, ready, suspended, with_aborted, with_blocked, with_called, with_given}}
use Rattle.machine.specs.{Releasing.{with_halted, with_holder_halted, with_ready, with_released, with_suspended}, Step.Fetch.emptied}
use Rattle.machine.specs.{Step.Receive.awaiting_message, WellFormed.{IsAlike, IsFree, IsIdle, IsReceivingWith, IsThread, IsWellFormed}}
use Rattle.machine.{specs.WellFormed.{WaitsAt, WaitsAtKind, kind_of}, proofs.{Idle.idle_stays, Leaving.{Names, released_there}}}
use Rattle.steps.proofs.{JoinedLinks.{FitsIn, links_joined}, Joins.{IsJoined, awaiting_joins, blocked_joins, called_joins, joined_steady}}
use Rattle.steps.proofs.{Joins.waits_at_one, Outlines.steady_formed, Releases.{links_released, released_is, released_steady, reply_freed}}
use Rattle.machine.specs.declared.object.ObjectKind.TheVariants as kind
use Rattle.machine.specs.declared.object.ReplyState.TheVariants as reply
use Rattle.machine.specs.declared.thread.Inbox.TheVariants as inbox
use Rattle.machine.specs.declared.thread.RunState.TheVariants as state

-- a thread leaves its queue and its reply
pub released_formed :
    (m : Machine) (thread : ObjId) (tcb : Tcb) (change : Tcb → Tcb) → IsWellFormed m → IsThread m thread tcb
    → (change tcb).address ≡ tcb.address → (change tcb).context ≡ tcb.context → IsIdle (change tcb).state
    → IsWellFormed (with_released m thread change)
released_formed m thread tcb change formed there address runs idle =
    let next : Machine = with_released m thread change in
    let released = released_is m thread tcb change formed.links there in
    let steady = released_steady m next thread (change tcb) released tcb there address in
    steady_formed m next steady
    (links_released m next thread (change tcb) released tcb there runs idle formed.links) formed

-- the release of any object of that number
released_any :
    (m : Machine) (thread : ObjId) (change : Tcb → Tcb) → IsWellFormed m
    → ((tcb : Tcb) → ((change tcb).address ≡ tcb.address) × ((change tcb).context ≡ tcb.context) × IsIdle (change tcb).state)
    → IsWellFormed (with_released m thread change)
unfolding with_released
released_any m thread change formed keeps = by_object (object_of m thread) refl where
  by_object : (object : Option Object) → object_of m thread ≡ object → IsWellFormed (with_released m thread change)
  by_object (Some (o.Tcb tcb)) e = let k = keeps tcb in released_formed m thread tcb change formed e k.0 k.1 k.2
  by_object None e = rw e formed
  by_object (Some _) e = rw e formed

pub given_formed :
    (m : Machine) (thread : ObjId) (message : Message) → IsWellFormed m → IsWellFormed (with_given m thread message)
given_formed m thread message formed = released_any m thread (given message) formed (λ tcb. (refl, refl, tt))

pub ready_formed : (m : Machine) (thread : ObjId) → IsWellFormed m → IsWellFormed (with_ready m thread)
ready_formed m thread formed = released_any m thread ready formed (λ tcb. (refl, refl, tt))

pub halted_formed : (m : Machine) (thread : ObjId) → IsWellFormed m → IsWellFormed (with_halted m thread)
halted_formed m thread formed = released_any m thread halted formed (λ tcb. (refl, refl, tt))

pub aborted_formed : (m : Machine) (thread : ObjId) → IsWellFormed m → IsWellFormed (with_aborted m thread)
aborted_formed m thread formed = released_any m thread aborted formed (λ tcb. (refl, refl, tt))

pub suspended_formed : (m : Machine) (thread : ObjId) → IsWellFormed m → IsWellFormed (with_suspended m thread)
suspended_formed m thread formed = released_any m thread suspended formed (λ tcb. (refl, refl, tt))

-- the thread that a reply holds is halted: the machine stays well formed

pub holder_halted_formed : (m : Machine) (id : ObjId) → IsWellFormed m → IsWellFormed (with_holder_halted m id)
unfolding with_holder_halted
holder_halted_formed m id formed = by_object (object_of m id) refl where
  by_state :
      (address : ℕ) (run : ReplyState) → object_of m id ≡ Some (o.Reply (record { address = address; state = run }))
      → IsWellFormed (with_holder_halted m id)
  by_state address (reply.Waiting thread) e = rw e (halted_formed m thread formed)
  by_state address (reply.Called thread) e = rw e (halted_formed m thread formed)
  by_state address reply.Free e = rw e formed

  by_object : (object : Option Object) → object_of m id ≡ object → IsWellFormed (with_holder_halted m id)
  by_object (Some (o.Reply holding)) e = by_state holding.address holding.state e
  by_object None e = rw e formed
  by_object (Some _) e = rw e formed

-- halting the thread that a reply holds frees the reply
freed_by_halt :
    (m : Machine) (id thread : ObjId) (holding : Reply) (tcb : Tcb) → IsWellFormed m → object_of m id ≡ Some (o.Reply holding)
    → IsHolding holding.state thread → IsThread m thread tcb → IsFree (with_halted m thread) id
freed_by_halt m id thread holding tcb formed e is there = (
  holding.address,
  reply_freed m (with_halted m thread) thread (halted tcb) (released_is m thread tcb halted formed.links there) id holding
      (λ same. let one : Some (o.Tcb tcb) ≡ Some (o.Reply holding) = sym there ∙ ap (object_of m) (sym same) ∙ e in cc) e is,
)

pub holder_halted_free :
    (m : Machine) (id : ObjId) (holding : Reply) → IsWellFormed m → object_of m id ≡ Some (o.Reply holding)
    → IsFree (with_holder_halted m id) id
unfolding with_holder_halted
holder_halted_free m id holding formed there = by_state holding.state there where
  by_state :
      (run : ReplyState) → object_of m id ≡ Some (o.Reply (record { address = holding.address; state = run }))
      → IsFree (with_holder_halted m id) id
  by_state (reply.Waiting thread) e =
      let w = formed.links.waiting_reply id thread holding.address e in
      rw e (freed_by_halt m id thread (record { address = holding.address; state = reply.Waiting thread }) w.0 formed e refl w.1)
  by_state (reply.Called thread) e =
      let w = formed.links.reply_called id thread holding.address e in
      rw e (freed_by_halt m id thread (record { address = holding.address; state = reply.Called thread }) w.0 formed e refl w.1)
  by_state reply.Free e = rw e (holding.address, e)

-- an idle thread's inbox is emptied
emptied_there :
    (m : Machine) (thread : ObjId) (tcb : Tcb) → IsThread m thread tcb
    → emptied m thread ≡ with_tcb m thread (record tcb { inbox = inbox.Empty })
unfolding emptied
emptied_there m thread tcb there = rw there refl

pub emptied_is :
    (m : Machine) (thread : ObjId) (tcb : Tcb) → IsThread m thread tcb → IsIdle tcb.state
    → with_released m thread (λ t. record t { inbox = inbox.Empty }) ≡ emptied m thread
emptied_is m thread tcb there idle =
    released_there m thread tcb (λ t. record t { inbox = inbox.Empty }) there
    ∙ ap (λ (n : Machine). with_tcb n thread (record tcb { inbox = inbox.Empty })) (idle_stays m thread tcb.state idle)
    ∙ sym (emptied_there m thread tcb there)

pub emptied_formed :
    (m : Machine) (thread : ObjId) (tcb : Tcb) → IsWellFormed m → IsThread m thread tcb → IsIdle tcb.state
    → IsWellFormed (emptied m thread)
emptied_formed m thread tcb formed there idle =
    subst IsWellFormed (emptied_is m thread tcb there idle)
    (released_formed m thread tcb (λ t. record t { inbox = inbox.Empty }) formed there refl refl idle)

-- an idle thread begins to wait: the machine stays well formed

joined_formed :
    (m next : Machine) (thread : ObjId) (tcb : Tcb) (run : RunState) → IsWellFormed m → IsThread m thread tcb → IsIdle tcb.state
    → IsJoined m thread (record tcb { state = run }) next → FitsIn m run → IsWellFormed next
joined_formed m next thread tcb run formed there idle joined fits =
    let new : Tcb = record tcb { state = run } in
    let steady = joined_steady m next thread tcb new joined there refl in
    steady_formed m next steady (links_joined m next thread tcb new formed.links there refl idle joined steady fits) formed

-- an object that exists has a queue
queue_at :
    (m : Machine) (id : ObjId) (at : ObjectKind) → IsWellFormed m → kind_of m id ≡ Some at
    → (threads : List ObjId) × (queue_of m id ≡ Some threads)
queue_at m id at formed is = by_object (object_of m id) refl is where
  by_object :
      (object : Option Object) → object_of m id ≡ object → option_map kind_of_object object ≡ Some at
      → (threads : List ObjId) × (queue_of m id ≡ Some threads)
  by_object None e same = absurd (none-some at same)
  by_object (Some object) e same = formed.parts.queue id object e

-- a run state fits the object where it waits
fits_at :
    (m : Machine) (id : ObjId) (run : RunState) (at : ObjectKind) → kind_of m id ≡ Some at → WaitsAt run id → WaitsAtKind run at
    → IsAlike m id run → FitsIn m run
fits_at m id run at is waits fits alike =
    record {
      kind = λ q there. (at, ap (kind_of m) (waits_at_one run q id there waits) ∙ is, fits);
      alike = λ q there. subst (λ (x : ObjId). IsAlike m x run) (waits_at_one run id q waits there) alike;
    }

names_none :
    (run : RunState) (id : ObjId) → WaitsAt run id → ((named : ObjId) → ¬ (IsReceivingWith run named)) → (q : ObjId)
    → ¬ (Names run q)
names_none (state.Receiving receiving) id waits none q names = none q names
names_none (state.Called calling) id waits none q names = waits
names_none _ id waits none q names = names

pub blocked_formed :
    (m : Machine) (thread id : ObjId) (tcb : Tcb) (run : RunState) (at : ObjectKind) → IsWellFormed m → IsThread m thread tcb
    → IsIdle tcb.state → kind_of m id ≡ Some at → WaitsAt run id → WaitsAtKind run at
    → ((named : ObjId) → ¬ (IsReceivingWith run named)) → IsAlike m id run → IsWellFormed (with_blocked m thread id run)
blocked_formed m thread id tcb run at formed there idle is waits fits none alike =
    let queue = queue_at m id at formed is in
    joined_formed m (with_blocked m thread id run) thread tcb run formed there idle
    (blocked_joins m thread id queue.0 tcb run there queue.1 waits (names_none run id waits none))
    (fits_at m id run at is waits fits alike)

pub awaiting_formed :
    (m : Machine) (caller : ObjId) (tcb : Tcb) (receiving : Receiving) → IsWellFormed m → IsThread m caller tcb → IsIdle tcb.state
    → kind_of m receiving.endpoint ≡ Some kind.Endpoint → IsAlike m receiving.endpoint (state.Receiving receiving)
    → ((id : ObjId) → receiving.reply ≡ Some id → IsFree m id) → IsWellFormed (awaiting_message m caller receiving)
awaiting_formed m caller tcb receiving formed there idle is alike free =
    let queue = queue_at m receiving.endpoint kind.Endpoint formed is in
    joined_formed m (awaiting_message m caller receiving) caller tcb (state.Receiving receiving) formed there idle
    (awaiting_joins m caller queue.0 tcb receiving there queue.1 free)
    (fits_at m receiving.endpoint (state.Receiving receiving) kind.Endpoint is refl tt alike)

pub called_formed :
    (m : Machine) (thread : ObjId) (calling : Calling) (tcb : Tcb) → IsWellFormed m → IsThread m thread tcb → IsIdle tcb.state
    → IsFree m calling.reply → IsWellFormed (with_called m thread calling)
called_formed m thread calling tcb formed there idle free =
    joined_formed m (with_called m thread calling) thread tcb (state.Called calling) formed there idle
    (called_joins m thread calling tcb free.0 there free.1)
    (record { kind = λ q waits. absurd waits; alike = λ q waits. absurd waits })
