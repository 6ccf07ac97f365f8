-- The authority of a state that a single slot accounts for ('seL4 Enforces Integrity', section 3, "Authority").
use Rattle.std.specs.Prelude.{ℕ, ◌≡◌, Some, true}
use Rattle.base.specs.declared.{ids.SlotRef.SlotRef, kind.Kind.Kind}
use Rattle.base.specs.declared.kind.Kind.TheVariants as authority
use Rattle.machine.specs.{declared.{cap.Cap.Cap, object.ObjectKind.ObjectKind as kind}, Authority.label_of, Capabilities.gives}
use Rattle.machine.specs.{Layout.Layout, Machine.{Machine, cap_of, parent_of}, WellFormed.kind_of}

-- a slot gives an edge of authority from one label to another by its capability, in a CNode or as a thread's root, or by the pair of
-- the derivation tree whose child it is
pub data GivesBySlot (t : Layout) (m : Machine) (slot : SlotRef) : ℕ → Kind → ℕ → Type 0 where
  by_cap :
      {from to : ℕ} {k : Kind} (held : Cap) → cap_of m slot ≡ Some held → kind_of m slot.holder ≡ Some kind.CNode
      → gives held.detail k ≡ true
      → label_of t m slot.holder ≡ Some from → label_of t m held.object ≡ Some to → GivesBySlot t m slot from k to
  by_root :
      {from to : ℕ} (held : Cap) → cap_of m slot ≡ Some held → kind_of m slot.holder ≡ Some kind.Tcb
      → label_of t m slot.holder ≡ Some from → label_of t m held.object ≡ Some to → GivesBySlot t m slot from authority.Space to
  by_pair :
      {from to : ℕ} (parent : SlotRef) → parent_of m slot ≡ Some parent
      → label_of t m parent.holder ≡ Some from → label_of t m slot.holder ≡ Some to → GivesBySlot t m slot from authority.Derive to
