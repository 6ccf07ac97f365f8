-- A signal in two machines: a thread is woken in both if it and the notification at which it waits are the same in both.
use Rattle.std.specs.{Int.RustNames.bit_or, Prelude.{None, Option, Some, option_and_then, slice_get, unwrap_or}}
use Rattle.std.proofs.Common.{ℕ, ◌∙◌, ◌∷◌, ◌≡◌, ◌≢◌, List, ap, inl, inr, refl, subst, sym}
use Rattle.{std.proofs.lemmas.Option.{none-some, same_Some}, base.specs.declared.ids.ObjId.ObjId}
use Rattle.machine.specs.declared.{object.{Notification.Notification, Object.{Object, Object as o}}, thread.Tcb.Tcb}
use Rattle.machine.specs.{Changes.{first_waiting, with_pending, with_tcb, without_first}, Machine.{Machine, object_of, queue_of}}
use Rattle.machine.specs.{Machine.with_queue, Step.Signal.{pending_in, signalled, woken}, WellFormed.{IsThread, IsWellFormed, WaitsAt}}
use Rattle.machine.proofs.{Ids.one_or_two, Leaving.tcb_is, LookUps.object_of-with_queue, Queues.{first_in, queue_by_first}}
use Rattle.steps.proofs.{NotificationRow.with_pending_there, SignalRow.roused}
use Rattle.integrity.{specs.Shrinks.IsSame, proofs.Shrinking.same_same}
use Rattle.noninterference.{specs.Alike.KeepsAlike, proofs.Carries.{Carries, carries_along, object_beside}}
use Rattle.noninterference.proofs.Carries.{pending_carries, queue_beside, queue_carries, same_around, tcb_carries}

-- the thread that waits first leaves its queue
first_gone :
    (m : Machine) (id first : ObjId) (others : List ObjId) → queue_of m id ≡ Some (first ∷ others)
    → without_first m id ≡ with_queue m id others
unfolding without_first
first_gone m id first others waited = rw waited refl

-- the thread is woken
woken_is :
    (m : Machine) (thread : ObjId) (tcb : Tcb) (word : ℕ) → IsThread m thread tcb → woken m thread word ≡ with_tcb m thread (roused word tcb)
unfolding woken
woken_is m thread tcb word there = rw there refl

-- the thread that waits first at a notification
record IsFirst (m : Machine) (id first : ObjId) : Type 0 where
  others : List ObjId
  queue : queue_of m id ≡ Some (first ∷ others)
  tcb : Tcb
  there : IsThread m first tcb
  waits : WaitsAt tcb.state id

first_is : (m : Machine) (id first : ObjId) → IsWellFormed m → first_waiting m id ≡ Some first → IsFirst m id first
first_is m id first formed e =
    let w = queue_by_first m id first e in
    let thread = formed.links.queued id (first ∷ w.0) first w.1 (first_in first w.0) in
    record { others = w.0; queue = w.1; tcb = thread.0; there = thread.2; waits = thread.3 }

module _ (m : Machine) (id : ObjId) (badge : ℕ) where
  -- some thread waits there

  module _ (first : ObjId) (is : IsFirst m id first) where
    abbrev shorter : Machine
    shorter = with_queue m id is.others

    first_there : IsThread shorter first is.tcb
    first_there = object_of-with_queue m id is.others first ∙ is.there

    signalled_first : first_waiting m id ≡ Some first → signalled m id badge ≡ with_tcb shorter first (roused badge is.tcb)
    unfolding signalled
    signalled_first e =
        rw e
        (ap (λ (x : Machine). woken x first badge) (first_gone m id first is.others is.queue)
        ∙ woken_is shorter first is.tcb badge first_there)

  abbrev joined : Machine
  joined = with_pending m id (Some (bit_or badge (unwrap_or (pending_in (object_of m id)) 0)))

  signalled_alone : first_waiting m id ≡ None → signalled m id badge ≡ joined
  unfolding signalled
  signalled_alone e = rw e refl

  -- only the notification and the thread that waits first there change
  signal_beside :
      (formed : IsWellFormed m) (notification : Notification) → object_of m id ≡ Some (o.Notification notification)
      → (q : ObjId) → q ≢ id → first_waiting m id ≢ Some q → IsSame m (signalled m id badge) q
  signal_beside formed notification there q apart not_first = by_first (first_waiting m id) refl where
    by_first : (first : Option ObjId) → first_waiting m id ≡ first → IsSame m (signalled m id badge) q
    by_first None e =
        subst (λ (x : Machine). IsSame m x q) (sym (signalled_alone e ∙ with_pending_there m id notification _ there))
        (object_beside m id _ q apart)
    by_first (Some first) e =
        let is = first_is m id first formed e in
        let differs : q ≢ first = λ same. not_first (e ∙ ap Some (sym same)) in
        subst (λ (x : Machine). IsSame m x q)
        (sym (signalled_first first is e ∙ tcb_is (with_queue m id is.others) first is.tcb (roused badge is.tcb) (first_there first is)))
        (same_same m (with_queue m id is.others) _ q (queue_beside m id is.others q apart)
        (object_beside (with_queue m id is.others) first (o.Tcb (roused badge is.tcb)) q differs))

same_tail : (first : ObjId) (a b : List ObjId) → ◌≡◌ {A = Option (List ObjId)} (Some (first ∷ a)) (Some (first ∷ b)) → a ≡ b
same_tail first a b e = cc

same_thread : (a b : Tcb) → ◌≡◌ {A = Option Object} (Some (o.Tcb a)) (Some (o.Tcb b)) → a ≡ b
same_thread a b e = cc

-- in two machines
module _
    (m n : Machine) (id : ObjId) (badge : ℕ) (formed : IsWellFormed m) (formed_too : IsWellFormed n) (old was : Notification)
    (there : object_of m id ≡ Some (o.Notification old)) (here : object_of n id ≡ Some (o.Notification was)) where
  same_first : IsSame m n id → first_waiting n id ≡ first_waiting m id
  unfolding first_waiting
  same_first same = ap (option_and_then (λ (threads : List ObjId). slice_get threads 0)) same.queue

  -- a signal changes no object that is alike if different threads wait first
  differing : first_waiting n id ≢ first_waiting m id → KeepsAlike m n (signalled m id badge) (signalled n id badge)
  differing differ q alike =
      same_around m n _ _ q (signal_beside m id badge formed old there q not_it not_first)
      (signal_beside n id badge formed_too was here q not_it not_there) alike.same
    where
      not_it : q ≢ id
      not_it same = differ (same_first (subst (λ (x : ObjId). IsSame m n x) same alike.same))

      not_first : first_waiting m id ≢ Some q
      not_first e = let is = first_is m id q formed e in differ (same_first (alike.waits is.tcb id is.there is.waits))

      not_there : first_waiting n id ≢ Some q
      not_there e =
          let is = first_is n id q formed_too e in
          differ (same_first (alike.waits is.tcb id (sym alike.same.content ∙ is.there) is.waits))

  both_wake :
      (first : ObjId) → first_waiting m id ≡ Some first → first_waiting n id ≡ Some first
      → Carries m n (signalled m id badge) (signalled n id badge)
  both_wake first e f =
      let one = first_is m id first formed e in
      let other = first_is n id first formed_too f in
      subst (λ (x : Machine). Carries m n x (signalled n id badge)) (sym (signalled_first m id badge first one e))
      (subst (λ (x : Machine). Carries m n (with_tcb (with_queue m id one.others) first (roused badge one.tcb)) x)
      (sym (signalled_first n id badge first other f))
      (carries_along m n (with_queue m id one.others) (with_queue n id other.others) _ _
      (queue_carries m n id one.others other.others
      (λ same. same_tail first other.others one.others (sym other.queue ∙ same.queue ∙ one.queue)))
      (tcb_carries (with_queue m id one.others) (with_queue n id other.others) first one.tcb other.tcb _ _
      (first_there m id badge first one) (first_there n id badge first other)
      (λ same.
      ap (roused badge)
      (same_thread other.tcb one.tcb (sym (first_there n id badge first other) ∙ same.content ∙ first_there m id badge first one))))))

  none_wakes : first_waiting m id ≡ None → first_waiting n id ≡ None → Carries m n (signalled m id badge) (signalled n id badge)
  none_wakes e f =
      subst (λ (x : Machine). Carries m n x (signalled n id badge)) (sym (signalled_alone m id badge e))
      (subst (λ (x : Machine). Carries m n (joined m id badge) x) (sym (signalled_alone n id badge f))
      (pending_carries m n id old was _ _ there here
      (λ same. ap (λ object. Some (bit_or badge (unwrap_or (pending_in object) 0))) same.content)))

  pub signal_carries : KeepsAlike m n (signalled m id badge) (signalled n id badge)
  signal_carries = by_first (first_waiting m id) (first_waiting n id) refl refl where
    by_first :
        (one other : Option ObjId) → first_waiting m id ≡ one → first_waiting n id ≡ other
        → KeepsAlike m n (signalled m id badge) (signalled n id badge)
    by_first None None e f = λ q alike. none_wakes e f q alike.same
    by_first (Some first) None e f = differing (λ same. none-some first (sym f ∙ same ∙ e))
    by_first None (Some other) e f = differing (λ same. none-some other (sym e ∙ sym same ∙ f))
    by_first (Some first) (Some other) e f = elim (one_or_two other first) [
      | inl same ↦ λ q alike. both_wake first e (f ∙ ap Some same) q alike.same
      | inr apart ↦ differing (λ same. apart (same_Some other first (sym f ∙ same ∙ e)))
    ]
