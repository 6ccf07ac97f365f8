-- The descendants of a slot in one order: by holder, then by index (seL4 manual, "Capability Derivation Tree"; the order is confine's own).
use Rattle.std.specs.Prelude.{[], ◌<◌, ◌↔◌, ◌∷◌, ◌≡◌, ◌≢◌, ◌⊎◌, AllPairs, Contains, IfSome, List, None, Option, Some}
use Rattle.{base.specs.declared.ids.{ObjId.ObjId, SlotRef.SlotRef}, machine.specs.{Machine.Machine, WellFormed.Descends}}

-- a slot is lower than another: its holder is, or it has the same holder and a lower index
abbrev pub IsLower : SlotRef → SlotRef → Type 0
IsLower a b = (a.holder.0 < b.holder.0) ⊎ ((a.holder.0 ≡ b.holder.0) × (a.index < b.index))

-- a slot comes behind the last that was named, if one was
abbrev pub IsBehind : Option SlotRef → SlotRef → Type 0
IsBehind last slot = IfSome last (λ last. IsLower last slot)

-- the lowest slot behind `last` that descends from another; none where none does
abbrev pub IsNextDescendant : Machine → SlotRef → Option SlotRef → Option SlotRef → Type 0
IsNextDescendant m above last (Some slot) =
    Descends m slot above × IsBehind last slot × ((q : SlotRef) → Descends m q above → IsBehind last q → ¬ (IsLower q slot))
IsNextDescendant m above last None = (q : SlotRef) → Descends m q above → ¬ (IsBehind last q)

-- the lowest slot of one holder that is behind `last` and descends from another; none where none does
abbrev pub IsNextOf : Machine → ObjId → SlotRef → Option SlotRef → Option SlotRef → Type 0
IsNextOf m holder above last (Some slot) =
    (slot.holder ≡ holder) × Descends m slot above × IsBehind last slot
    × ((q : SlotRef) → q.holder ≡ holder → Descends m q above → IsBehind last q → ¬ (IsLower q slot))
IsNextOf m holder above last None = (q : SlotRef) → q.holder ≡ holder → Descends m q above → ¬ (IsBehind last q)

-- the slots that are named one after another, each the next behind the one before, up to where there is none
pub data AreNamed (m : Machine) (above : SlotRef) : Option SlotRef → List SlotRef → Type 0 where
  none : {last : Option SlotRef} → IsNextDescendant m above last None → AreNamed m above last []
  next :
      {last : Option SlotRef} {slot : SlotRef} {slots : List SlotRef} → IsNextDescendant m above last (Some slot)
      → AreNamed m above (Some slot) slots → AreNamed m above last (slot ∷ slots)

-- the slots are all that descend from another, each once
pub record AreAllDescendants (m : Machine) (above : SlotRef) (slots : List SlotRef) : Type 0 where
  pub each : (slot : SlotRef) → Contains slots slot ↔ Descends m slot above
  pub once : AllPairs (λ a b. a ≢ b) slots
