-- The objects beside a thread that leaves its queue and its reply, or that a reply holds and that is halted: other threads, endpoints
-- and free replies stay as they were, and its reply becomes free.
use Rattle.std.{specs.Prelude.{None, Option, Some}, proofs.Common.{◌∙◌, ◌≡◌, ◌≢◌, ◌⊎◌, ap, inl, inr, refl, subst, sym}}
use Rattle.base.specs.declared.ids.ObjId.{ObjId}
use Rattle.machine.specs.declared.object.{Endpoint.Endpoint, Object.{Object, Object as o}, Reply.Reply, ReplyState.ReplyState}
use Rattle.machine.specs.{declared.thread.Tcb.Tcb, Finalising.halted, Machine.{Machine, object_of}, Releasing.with_halted}
use Rattle.machine.specs.{Releasing.{with_holder_halted, with_released}, Step.Receive.with_reply_ended, WellFormed.{IsFree, IsIdle}}
use Rattle.machine.{specs.WellFormed.{IsReceivingWith, IsThread, IsWellFormed, LinksAgree}, proofs.HeldThreads.calling_names}
use Rattle.machine.proofs.{HeldThreads.receiving_names, Idle.idle_names, Leaving.Names, RemovalTable.one_thread}
use Rattle.machine.specs.declared.object.ReplyState.TheVariants as reply
use Rattle.steps.proofs.{MessageFormed.{holder_halted_formed, holder_halted_free}, Releases.{IsReleased, other_now, released_is}}
use Rattle.steps.proofs.Releases.{released_thread, reply_freed, reply_stays}

module _ (m : Machine) (thread : ObjId) (tcb : Tcb) (change : Tcb → Tcb) (links : LinksAgree m)
    (there : IsThread m thread tcb) where
  released : IsReleased m thread (change tcb) (with_released m thread change)
  released = released_is m thread tcb change links there

  pub leaver_now : IsThread (with_released m thread change) thread (change tcb)
  leaver_now = released_thread m (with_released m thread change) thread (change tcb) released

  pub other_stays :
      (other : ObjId) (its : Tcb) → other ≢ thread → IsThread m other its → IsThread (with_released m thread change) other its
  other_stays other its apart e =
      other_now m (with_released m thread change) thread (change tcb) released other (o.Tcb its) apart (λ holding same. cc) e

  pub endpoint_stays :
      (id : ObjId) (endpoint : Endpoint) → object_of m id ≡ Some (o.Endpoint endpoint)
      → object_of (with_released m thread change) id ≡ Some (o.Endpoint endpoint)
  endpoint_stays id endpoint e =
      other_now m (with_released m thread change) thread (change tcb) released id (o.Endpoint endpoint)
      (λ same.
      let two : Some (o.Endpoint endpoint) ≡ Some (o.Tcb tcb) = sym e ∙ ap (object_of m) same ∙ there in cc)
      (λ holding same. cc) e

  -- a reply is no thread
  no_reply : (id : ObjId) (holding : Reply) → object_of m id ≡ Some (o.Reply holding) → id ≢ thread
  no_reply id holding e same =
      let two : Some (o.Reply holding) ≡ Some (o.Tcb tcb) = sym e ∙ ap (object_of m) same ∙ there in cc

  pub free_stays : (id : ObjId) → IsFree m id → IsFree (with_released m thread change) id
  free_stays id free =
      let holding : Reply = record { address = free.0; state = reply.Free } in (
        free.0,
        reply_stays m (with_released m thread change) thread (change tcb) released id holding (no_reply id holding free.1) free.1
            (λ none. none),
      )

  -- the reply that the thread named as a receiver
  pub named_free : (id : ObjId) → IsReceivingWith tcb.state id → IsFree (with_released m thread change) id
  named_free id names =
      let w = links.receiver_reply thread id tcb there names in
      let holding : Reply = record { address = w.0; state = reply.Waiting thread } in (
        w.0,
        reply_freed m (with_released m thread change) thread (change tcb) released id holding (no_reply id holding w.1) w.1 refl,
      )

-- the thread that a reply holds exists, names the reply, and is halted
pub record HolderLeaves (m : Machine) (id : ObjId) : Type 0 where
  pub thread : ObjId
  pub tcb : Tcb
  pub there : IsThread m thread tcb
  pub names : Names tcb.state id
  pub changes : with_holder_halted m id ≡ with_halted m thread

waiter_halted :
    (m : Machine) (id thread : ObjId) (holding : Reply) → object_of m id ≡ Some (o.Reply holding)
    → holding.state ≡ reply.Waiting thread → with_holder_halted m id ≡ with_halted m thread
unfolding with_holder_halted
waiter_halted m id thread holding there is = rw (there, is) refl

caller_halted :
    (m : Machine) (id thread : ObjId) (holding : Reply) → object_of m id ≡ Some (o.Reply holding)
    → holding.state ≡ reply.Called thread → with_holder_halted m id ≡ with_halted m thread
unfolding with_holder_halted
caller_halted m id thread holding there is = rw (there, is) refl

nobody_halted :
    (m : Machine) (id : ObjId) (holding : Reply) → object_of m id ≡ Some (o.Reply holding) → holding.state ≡ reply.Free
    → with_holder_halted m id ≡ m
unfolding with_holder_halted
nobody_halted m id holding there is = rw (there, is) refl

-- nothing changes if a reply holds nobody
pub holder_leaves : (m : Machine) (id : ObjId) → LinksAgree m → (with_holder_halted m id ≡ m) ⊎ HolderLeaves m id
unfolding with_holder_halted
holder_leaves m id links = by_content (object_of m id) refl where
  by_state :
      (holding : Reply) (run : ReplyState) → object_of m id ≡ Some (o.Reply holding) → holding.state ≡ run
      → (with_holder_halted m id ≡ m) ⊎ HolderLeaves m id
  by_state holding reply.Free e is = inl (nobody_halted m id holding e is)
  by_state holding (reply.Waiting thread) e is =
      let at : object_of m id ≡ Some (o.Reply (record { address = holding.address; state = reply.Waiting thread })) =
      e ∙ ap (λ (s : ReplyState). Some (o.Reply (record holding { state = s }))) is in
      let w = links.waiting_reply id thread holding.address at in
      inr (record {
        thread = thread;
        tcb = w.0;
        there = w.1;
        names = receiving_names w.0.state id w.2;
        changes = waiter_halted m id thread holding e is;
      })
  by_state holding (reply.Called thread) e is =
      let at : object_of m id ≡ Some (o.Reply (record { address = holding.address; state = reply.Called thread })) =
      e ∙ ap (λ (s : ReplyState). Some (o.Reply (record holding { state = s }))) is in
      let w = links.reply_called id thread holding.address at in
      inr (record {
        thread = thread;
        tcb = w.0;
        there = w.1;
        names = calling_names w.0.state id w.2;
        changes = caller_halted m id thread holding e is;
      })

  by_content : (content : Option Object) → object_of m id ≡ content → (with_holder_halted m id ≡ m) ⊎ HolderLeaves m id
  by_content (Some (o.Reply holding)) e = by_state holding holding.state e refl
  by_content None e = inl (rw e refl)
  by_content (Some _) e = inl (rw e refl)

-- objects other than the thread that a reply held

pub holder_endpoint_stays :
    (m : Machine) (id : ObjId) → LinksAgree m → (q : ObjId) (endpoint : Endpoint) → object_of m q ≡ Some (o.Endpoint endpoint)
    → object_of (with_holder_halted m id) q ≡ Some (o.Endpoint endpoint)
holder_endpoint_stays m id links q endpoint e = by_holder (holder_leaves m id links) where
  by_holder :
      (with_holder_halted m id ≡ m) ⊎ HolderLeaves m id → object_of (with_holder_halted m id) q ≡ Some (o.Endpoint endpoint)
  by_holder (inl same) = ap (λ (n : Machine). object_of n q) same ∙ e
  by_holder (inr h) =
      ap (λ (n : Machine). object_of n q) h.changes ∙ endpoint_stays m h.thread h.tcb halted links h.there q endpoint e

-- a thread that doesn't name the reply
pub holder_other_stays :
    (m : Machine) (id : ObjId) → LinksAgree m → (other : ObjId) (its : Tcb) → IsThread m other its → ¬ (Names its.state id)
    → IsThread (with_holder_halted m id) other its
holder_other_stays m id links other its e differs = by_holder (holder_leaves m id links) where
  by_holder : (with_holder_halted m id ≡ m) ⊎ HolderLeaves m id → IsThread (with_holder_halted m id) other its
  by_holder (inl same) = ap (λ (n : Machine). object_of n other) same ∙ e
  by_holder (inr h) =
      ap (λ (n : Machine). object_of n other) h.changes
      ∙ other_stays m h.thread h.tcb halted links h.there other its
      (λ same.
      differs
      (subst (λ (t : Tcb). Names t.state id) (one_thread m h.thread h.tcb its h.there (ap (object_of m) (sym same) ∙ e)) h.names))
      e

-- the reply that a receiver names, if any, is freed: the machine stays well formed

pub ended_formed : (m : Machine) (named : Option ObjId) → IsWellFormed m → IsWellFormed (with_reply_ended m named)
ended_formed m None formed = formed
ended_formed m (Some id) formed = holder_halted_formed m id formed

pub ended_free :
    (m : Machine) (named : Option ObjId) → IsWellFormed m
    → ((id : ObjId) → named ≡ Some id → (holding : Reply) × (object_of m id ≡ Some (o.Reply holding)))
    → (id : ObjId) → named ≡ Some id → IsFree (with_reply_ended m named) id
ended_free m named formed holds id is =
    let w = holds id is in
    subst (λ (n : Option ObjId). IsFree (with_reply_ended m n) id) (sym is) (holder_halted_free m id w.0 formed w.1)

pub ended_endpoint :
    (m : Machine) (named : Option ObjId) → LinksAgree m → (q : ObjId) (endpoint : Endpoint)
    → object_of m q ≡ Some (o.Endpoint endpoint) → object_of (with_reply_ended m named) q ≡ Some (o.Endpoint endpoint)
ended_endpoint m None links q endpoint e = e
ended_endpoint m (Some id) links q endpoint e = holder_endpoint_stays m id links q endpoint e

-- a thread that waits for nothing
pub ended_idle :
    (m : Machine) (named : Option ObjId) → LinksAgree m → (thread : ObjId) (tcb : Tcb) → IsThread m thread tcb → IsIdle tcb.state
    → IsThread (with_reply_ended m named) thread tcb
ended_idle m None links thread tcb e idle = e
ended_idle m (Some id) links thread tcb e idle = holder_other_stays m id links thread tcb e (idle_names tcb.state idle id)
