-- Labels of CNodes that hold capabilities for CNodes at boot (confine's own).
use Rattle.std.specs.{Option.option_and_then, Prelude.{ℕ, Bool, None, Option, Some, false, if◌then◌else◌, true}}
use Rattle.base.specs.declared.ids.SlotRef.{SlotRef}
use Rattle.machine.specs.declared.{cap.{Cap.Cap, Detail.{Detail, Detail as d}}, object.Object.{Object, Object as o}}
use Rattle.machine.specs.Layout.{Layout, initial_cap, initial_of}

abbrev pub is_node_detail : Detail → Bool
is_node_detail (d.CNode _) = true
is_node_detail _ = false

abbrev pub is_node_cap : Cap → Bool
is_node_cap held = is_node_detail held.detail

abbrev pub is_node : Object → Bool
is_node (o.CNode _) = true
is_node _ = false

-- the label of the CNode that has a slot, if the slot holds a capability for a CNode
abbrev pub node_holder : Layout → SlotRef → Option ℕ
node_holder t slot =
    option_and_then
    (λ held.
    if is_node_cap held
    then option_and_then (λ holder. if is_node holder.object then Some holder.label else None) (initial_of t slot.holder)
    else None)
    (initial_cap t slot)
