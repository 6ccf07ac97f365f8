-- A slot that leaves the derivation tree: its children come to its own parent (seL4 manual, "Capability Derivation Tree"; where the
-- children go is confine's own).
use Rattle.std.specs.Prelude.{◌≡◌, Bool, None, Option, false, option_and_then, true}
use Rattle.{base.specs.declared.ids.SlotRef.SlotRef, machine.specs.{Machine.{Machine, parent_of}, Orphans.{Nearest, past, without_node}}}

-- the parents of a tree in which one slot has given its children up
abbrev pub parent_past : Machine → SlotRef → Option SlotRef → SlotRef → Option SlotRef
parent_past m slot above q = option_and_then (past slot above) (parent_of m q)

-- the parents of a machine's tree that one slot has left
abbrev pub parent_without : Machine → SlotRef → SlotRef → Option SlotRef
parent_without m slot = without_node (parent_of m) slot

-- only pairs of the tree have changed, to those with these parents
pub record HasParents (old new : Machine) (parent : SlotRef → Option SlotRef) : Type 0 where
  pub rest : new ≡ record old { parents = new.parents }
  pub parents : (q : SlotRef) → parent_of new q ≡ parent q

-- only pairs have changed: some slots have left the tree, and each other has for its parent its first ancestor that isn't one of them
pub record HaveLeft (old new : Machine) (these : SlotRef → Bool) : Type 0 where
  pub rest : new ≡ record old { parents = new.parents }
  pub out : (q : SlotRef) → these q ≡ true → parent_of new q ≡ None
  pub up : (q : SlotRef) → these q ≡ false → Nearest (parent_of old) these (parent_of old q) (parent_of new q)
