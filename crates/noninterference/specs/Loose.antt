-- Loose slots of a capability table, which keep its system from being fixed (confine's own).
use Rattle.{std.specs.Prelude.{Bool, Option, Some, false, true}, base.specs.declared.ids.SlotRef.SlotRef}
use Rattle.machine.specs.declared.{cap.{Cap.Cap, Detail.{Detail, Detail as d}}, object.ObjectKind.{ObjectKind, ObjectKind as kind}}
use Rattle.{machine.specs.Layout.{Layout, initial_cap}, table.specs.Rules.kind_at}

-- whether a capability is for a CNode or for a thread
abbrev pub is_loose_detail : Detail → Bool
is_loose_detail (d.CNode _) = true
is_loose_detail d.Tcb = true
is_loose_detail _ = false

abbrev pub is_loose_cap : Cap → Bool
is_loose_cap held = is_loose_detail held.detail

-- whether one is in a slot of an object of this kind, which is a CNode
abbrev pub is_loose_in : Option ObjectKind → Option Cap → Bool
is_loose_in (Some kind.CNode) (Some held) = is_loose_cap held
is_loose_in _ _ = false

-- whether one is in this slot of a CNode
abbrev pub is_loose : Layout → SlotRef → Bool
is_loose t slot = is_loose_in (kind_at t slot.holder) (initial_cap t slot)
