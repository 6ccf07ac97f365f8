-- The slots that pairs of the derivation tree join (seL4 manual, "Capability Derivation Tree"; that an emptied slot keeps its place as
-- long as its holder is going is confine's own).
use Rattle.std.specs.Prelude.{◌≡◌, ◌⊎◌, Contains, IsSome, Some}
use Rattle.{base.specs.declared.ids.SlotRef.SlotRef, machine.specs.{Machine.{Machine, cap_of, parent_of}, Tree.IsAlone}}

-- a slot is filled, or its holder has lost its last capability in a removal that is under way
abbrev pub IsFilledOrGoing : Machine → SlotRef → Type 0
IsFilledOrGoing m slot = IsSome (cap_of m slot) ⊎ Contains m.going slot.holder

-- both slots of each pair are filled, or their holders are going
pub record AreFilledOrGoing (m : Machine) : Type 0 where
  pub below : (slot parent : SlotRef) → parent_of m slot ≡ Some parent → IsFilledOrGoing m slot
  pub above : (slot parent : SlotRef) → parent_of m slot ≡ Some parent → IsFilledOrGoing m parent

-- both slots of each pair are filled
pub record AreFilled (m : Machine) : Type 0 where
  pub below : (slot parent : SlotRef) → parent_of m slot ≡ Some parent → IsSome (cap_of m slot)
  pub above : (slot parent : SlotRef) → parent_of m slot ≡ Some parent → IsSome (cap_of m parent)

-- a slot may lose its capability: it is in no pair, or its holder is going
abbrev pub MayEmpty : Machine → SlotRef → Type 0
MayEmpty m slot = IsAlone m slot ⊎ Contains m.going slot.holder
