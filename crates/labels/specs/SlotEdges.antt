-- The edges of authority that a slot of a capability table gives at boot: those of its capability, and that of the pair of the
-- derivation tree whose child it is ('seL4 Enforces Integrity', section 3, "Authority", read off an initial state).
use Rattle.std.specs.Prelude.{[], ℕ, ◌++◌, ◌∷◌, List, None, Option, Some, filter, flat_map}
use Rattle.base.specs.declared.{edge.Edge.Edge, ids.SlotRef.SlotRef, kind.Kind.{Kind, TheVariants.{Derive, Space}}}
use Rattle.machine.specs.{declared.{cap.{Cap.Cap, Detail.Detail}, object.ObjectKind.ObjectKind}, Capabilities.gives}
use Rattle.{machine.specs.Layout.{Layout, declared_label, initial_cap, initial_parent}, table.specs.Rules.kind_at}
use Rattle.base.specs.declared.kind.TheConstants.Kind as Kinds
use Rattle.machine.specs.declared.object.ObjectKind.TheVariants as object

-- the kinds of authority that a capability gives in a slot of an object of this kind: its own in a CNode, space alone in a thread's root
abbrev pub kinds_in : Option ObjectKind → Detail → List Kind
kinds_in (Some object.CNode) detail = filter (gives detail) Kinds.ALL
kinds_in (Some object.Tcb) detail = Space ∷ []
kinds_in _ detail = []

-- the edge of a kind between two labels, if there are both
abbrev pub edge_between : Option ℕ → Option ℕ → Kind → List Edge
edge_between (Some from) (Some to) kind = record { from = from; kind = kind; to = to } ∷ []
edge_between _ _ kind = []

-- the edges that the capability in a slot gives, by rising kinds
abbrev pub cap_edges : Layout → SlotRef → Option Cap → List Edge
cap_edges t slot (Some held) =
    flat_map (edge_between (declared_label t slot.holder) (declared_label t held.object)) (kinds_in (kind_at t slot.holder) held.detail)
cap_edges t slot None = []

-- the edge that the pair of a slot and its parent gives
abbrev pub pair_edges : Layout → SlotRef → Option SlotRef → List Edge
pair_edges t slot (Some parent) = edge_between (declared_label t parent.holder) (declared_label t slot.holder) Derive
pair_edges t slot None = []

-- the edges that a slot gives with this in it
abbrev pub edges_with : Layout → SlotRef → Option Cap → List Edge
edges_with t slot held = cap_edges t slot held ++ pair_edges t slot (initial_parent t slot)

abbrev pub slot_edges_of : Layout → SlotRef → List Edge
slot_edges_of t slot = edges_with t slot (initial_cap t slot)
