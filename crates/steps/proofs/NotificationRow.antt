-- The common part of the calls on notifications: the notification that a capability with a right leads to, its word, and who waits there.
use Rattle.std.{specs.Prelude.{Contains, Ok, Option, Result, Some, option_map}, proofs.Common.{ℕ, ◌∙◌, ◌≡◌, Bool, List, ap, refl}}
use Rattle.{std.proofs.{Common.{subst, sym, true}, lemmas.Option.same_Some}, base.specs.declared.{ids.ObjId.ObjId, refusal.Cause.Cause}}
use Rattle.machine.specs.declared.{cap.{Badged.Badged, Detail.Detail as d}, object.{Notification.Notification, Object.Object as o}}
use Rattle.machine.specs.declared.{object.ObjectKind.ObjectKind as kind, thread.{RunState.{RunState, RunState as state}, Tcb.Tcb}}
use Rattle.machine.specs.{Capabilities.badged_of, Changes.with_pending, Machine.{Machine, object_of, queue_of, with_object}}
use Rattle.machine.specs.{Objects.kind_of_object, Refusing.◌>>=◌, Step.Find.{find, permitted}}
use Rattle.machine.specs.WellFormed.{IsAlike, IsSending, IsThread, IsWellFormed, LinksAgree, WaitsAt, WaitsAtKind}
use Rattle.steps.proofs.{Conditions.both_done, Finding.{FindsObject, finds, found_kind, is_permitted}, FoundObjects.notification_of_kind}

-- a notification is found by a capability with a right
pub record IsOpen (m : Machine) (caller : ObjId) (address : ℕ) (allows : Badged → Bool) : Type 0 where
  pub id : ObjId
  pub end : Badged
  pub finds : FindsObject m caller address id (d.Notification end)
  pub allowed : allows end ≡ true
  pub notification : Notification
  pub there : object_of m id ≡ Some (o.Notification notification)

-- a call that passed its conditions found an open notification, and did what follows them
pub opens :
    {B : Type 0} (m : Machine) (caller : ObjId) (address : ℕ) (allows : Badged → Bool) (then_do : ObjId × Badged → Result B Cause)
    (b : B)
    → IsWellFormed m
    → ◌>>=◌ (find kind.Notification m caller address)
    (λ found. ◌>>=◌ (permitted (allows (badged_of found.1.detail))) (λ _. then_do (found.1.object, badged_of found.1.detail)))
    ≡ Ok b
    → (open_to : IsOpen m caller address allows) × (then_do (open_to.id, open_to.end) ≡ Ok b)
opens m caller address allows then_do b formed e =
    let looked = both_done (find kind.Notification m caller address) _ b e in
    let id = (looked.0).1.object in
    let end = badged_of (looked.0).1.detail in
    let right = both_done (permitted (allows end)) _ b looked.2 in
    let finds = finds kind.Notification m caller address looked.0 looked.1 in
    let there = notification_of_kind (object_of m id) (found_kind formed finds) in (
      record {
        id = id;
        end = end;
        finds = finds;
        allowed = is_permitted (allows end) right.0 right.1;
        notification = there.0;
        there = there.1;
      },
      right.2,
    )

-- a notification's word is set
pub with_pending_there :
    (m : Machine) (id : ObjId) (old : Notification) (word : Option ℕ) → object_of m id ≡ Some (o.Notification old)
    → with_pending m id word ≡ with_object m id (o.Notification (record old { pending = word }))
unfolding with_pending
with_pending_there m id old word there = rw there refl

-- a thread in a notification's queue waits for the notification
waits_by_kind : (run : RunState) (id : ObjId) → WaitsAt run id → WaitsAtKind run kind.Notification → run ≡ state.Waiting id
waits_by_kind (state.Waiting n) id at fits = ap state.Waiting at
waits_by_kind _ id at fits = absurd fits

module _ (m : Machine) (id : ObjId) (notification : Notification) (there : object_of m id ≡ Some (o.Notification notification))
    (links : LinksAgree m) where
  pub waits_for :
      (threads : List ObjId) (thread : ObjId) → queue_of m id ≡ Some threads → Contains threads thread
      → (tcb : Tcb) × IsThread m thread tcb × (tcb.state ≡ state.Waiting id)
  waits_for threads thread waited within =
      let w = links.queued id threads thread waited within in
      let at = same_Some w.1 kind.Notification (sym w.4 ∙ ap (option_map kind_of_object) there) in
      (w.0, w.2, waits_by_kind w.0.state id w.3 (subst (λ k. WaitsAtKind w.0.state k) at w.5))

  -- nobody who waits there sends
  pub none_sends : IsAlike m id (state.Waiting id)
  none_sends threads thread tcb waited within is =
      let w = waits_for threads thread waited within in
      let one : Some (o.Tcb w.0) ≡ Some (o.Tcb tcb) = sym w.1 ∙ is in
      let same : w.0 ≡ tcb = cc in
      (subst IsSending (ap (λ (t : Tcb). t.state) (sym same) ∙ w.2), λ none. absurd none)
