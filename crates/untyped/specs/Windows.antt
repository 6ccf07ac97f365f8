-- Windows, which are slots of a CNode that take the capabilities of new objects.
use Rattle.std.specs.Prelude.{ℕ, ◌+◌, ◌<◌, ◌≡◌, ◌≤◌, IsSome, IsTrue, List, None}
use Rattle.base.specs.declared.ids.SlotRef.{SlotRef}
use Rattle.machine.specs.{Machine.{Machine, cap_of, has_slot, object_of}, Step.Retype.window, Tree.IsAlone}
use Rattle.untyped.specs.declared.filling.Window.{Window}

abbrev pub slots_of : Window → List SlotRef
slots_of at = window at.node at.offset at.count

-- `count` objects exist, numbered from a first on
abbrev pub AreThere : Machine → ℕ → ℕ → Type 0
AreThere m first count = (number : ℕ) → first ≤ number → number < first + count → IsSome (object_of m (record { 0 = number }))

-- each slot of the window exists, is empty, and is in no pair of the derivation tree
abbrev pub IsFreeWindow : Machine → Window → Type 0
IsFreeWindow m at =
    (index : ℕ) → at.offset ≤ index → index < at.offset + at.count
    → IsTrue (has_slot m (record { holder = at.node; index = index })) × (cap_of m (record { holder = at.node; index = index }) ≡ None)
    × IsAlone m (record { holder = at.node; index = index })
