-- Configuration of a scheduling context, its core, budget and period: who may change it (seL4 manual, "Scheduling Contexts",
-- SchedControl_Configure; the edges are confine's own).
use Rattle.std.specs.Prelude.{ℕ, ◌≡◌, ◌⊎◌, None, Ok, Option, Some, true}
use Rattle.base.specs.declared.{ids.{ObjId.ObjId, SlotRef.SlotRef}, kind.Kind.Kind as authority}
use Rattle.machine.specs.declared.{call.{Call.Call, Event.Event}, cap.Cap.Cap, object.{Context.Context, Object.Object as o}}
use Rattle.machine.specs.{declared.object.ObjectKind.ObjectKind, Authority.label_of, Capabilities.kind_of_detail}
use Rattle.{machine.specs.{Layout.Layout, Lookup.lookup_of, Machine.{Machine, cap_of, object_of}}, policy.specs.Domain.EdgeTest}
use Rattle.machine.specs.declared.call.Call.TheVariants as call
use Rattle.machine.specs.declared.object.ObjectKind.TheVariants as kind

-- the addresses of the control and of the context, if the call is one that configures a context
abbrev pub configures : Call → Option (ℕ × ℕ)
configures (call.Configure control context _ _) = Some (control, context)
configures _ = None

-- a thread finds an object at an address, by a capability of this kind
pub record FindsOfKind (m : Machine) (thread : ObjId) (address : ℕ) (of : ObjectKind) (object : ObjId) : Type 0 where
  pub slot : SlotRef
  pub left : ℕ
  pub held : Cap
  pub found : lookup_of m thread address ≡ Ok (slot, left)
  pub filled : cap_of m slot ≡ Some held
  pub is_of : kind_of_detail held.detail ≡ of
  pub is_for : held.object ≡ object

-- the call configures this context, through a control's capability, and the caller's label has the edges that this takes
pub record MayConfigure (t : Layout) (allowed : EdgeTest) (m : Machine) (event : Event) (context : ObjId) : Type 0 where
  pub addresses : ℕ × ℕ
  pub configured : configures event.call ≡ Some addresses
  pub control : ObjId
  pub finds_control : FindsOfKind m event.thread addresses.0 kind.Control control
  pub finds_context : FindsOfKind m event.thread addresses.1 kind.Context context
  pub caller_label : ℕ
  pub control_label : ℕ
  pub context_label : ℕ
  pub calls : label_of t m event.thread ≡ Some caller_label
  pub controls : label_of t m control ≡ Some control_label
  pub labelled : label_of t m context ≡ Some context_label
  pub may_schedule : allowed caller_label authority.SchedControl control_label ≡ true
  pub may_use : allowed caller_label authority.Context context_label ≡ true

-- a context that is there before and after a step keeps its core, budget and period, unless the caller may configure it
abbrev pub KeepsBudgets : Layout → EdgeTest → Machine → Event → Machine → Type 0
KeepsBudgets t allowed m event next =
    (id : ObjId) (old new : Context) → object_of m id ≡ Some (o.Context old) → object_of next id ≡ Some (o.Context new)
    → (new.share ≡ old.share) ⊎ MayConfigure t allowed m event id
