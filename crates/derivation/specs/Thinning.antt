-- A derivation tree that slots are leaving, in any order and by any steps: each slot that stays has for its nearest ancestor that
-- stays the one that it had (seL4 manual, "Capability Derivation Tree"; where the children go is confine's own).
use Rattle.std.specs.Prelude.{◌≡◌, Bool, Option, Some, false}
use Rattle.{base.specs.declared.ids.SlotRef.SlotRef, machine.specs.{Machine.{Machine, parent_of}, Orphans.Nearest, WellFormed.Descends}}

pub record IsThinned (m : Machine) (gone : SlotRef → Bool) (now : Machine) : Type 0 where
  pub nearest :
      (slot : SlotRef) (to : Option SlotRef) → gone slot ≡ false → Nearest (parent_of m) gone (parent_of m slot) to
      → Nearest (parent_of now) gone (parent_of now slot) to
  -- who has a parent descends from it in the tree at first
  pub joins : (slot parent : SlotRef) → parent_of now slot ≡ Some parent → Descends m slot parent
