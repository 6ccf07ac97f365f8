-- The capabilities that a label's thread may remove, and how it reaches what they are for ('seL4 Enforces Integrity', section 4, the
-- deletions that it allows, restated for this profile).
use Rattle.std.specs.Prelude.{ℕ, ◌≡◌, ◌⊎◌, Bool, Some, true}
use Rattle.base.specs.declared.{ids.SlotRef.SlotRef, kind.Kind.{Kind, Kind as authority}}
use Rattle.machine.specs.{declared.{cap.Cap.Cap, object.ObjectKind.{ObjectKind, ObjectKind as kind}}, Authority.label_of}
use Rattle.{machine.specs.{Capabilities.kind_of_detail, Layout.Layout, Machine.{Machine, cap_of}}, policy.specs.Domain.EdgeTest}

-- the authority that every capability for an object of a kind gives, whatever its rights
abbrev pub use_of : ObjectKind → Kind
use_of kind.Untyped = authority.Control
use_of kind.CNode = authority.Control
use_of kind.Tcb = authority.Control
use_of kind.Endpoint = authority.Reset
use_of kind.Notification = authority.Reset
use_of kind.Reply = authority.Reply
use_of kind.Context = authority.Context
use_of kind.Frame = authority.Reset
use_of kind.Control = authority.SchedControl

-- a label that is controlled may use a label's objects of a kind, or they are CNodes, in its space
abbrev pub MayReach : EdgeTest → ℕ → ObjectKind → ℕ → Type 0
MayReach allowed controlled of_kind label =
    (allowed controlled (use_of of_kind) label ≡ true) ⊎ ((of_kind ≡ kind.CNode) × (allowed controlled authority.Space label ≡ true))

-- a capability may go from its slot: a controls the label of the slot's holder, or one that may derive to it, and the label that it
-- controls reaches what the capability is for
pub record MayGo (t : Layout) (allowed : EdgeTest) (a : ℕ) (m : Machine) (slot : SlotRef) (held : Cap) : Type 0 where
  pub controlled : ℕ
  pub control : allowed a authority.Control controlled ≡ true
  pub holder : ℕ
  pub held_by : label_of t m slot.holder ≡ Some holder
  pub derive : (controlled ≡ holder) ⊎ (allowed controlled authority.Derive holder ≡ true)
  pub label : ℕ
  pub labelled : label_of t m held.object ≡ Some label
  pub reach : MayReach allowed controlled (kind_of_detail held.detail) label

-- each capability in the chosen slots may go
abbrev pub MayRemove : Layout → EdgeTest → ℕ → Machine → (SlotRef → Bool) → Type 0
MayRemove t allowed a m chosen =
    (slot : SlotRef) (held : Cap) → chosen slot ≡ true → cap_of m slot ≡ Some held → MayGo t allowed a m slot held
