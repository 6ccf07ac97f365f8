-- The denial at a filled slot: the first of the slot's edges that the policy lacks (confine's own).
use Rattle.std.specs.{List.find, Option.option_and_then, Prelude.{ℕ, ◌<◌, Bool, Option, Some, not, option_map}}
use Rattle.base.specs.declared.{edge.Edge.Edge, ids.SlotRef.SlotRef, kind.Kind.{Kind, TheVariants.{Derive, Space}}}
use Rattle.machine.specs.{declared.layout.Filled.Filled, Layout.{Layout, initial_parent}}
use Rattle.{policy.specs.Domain.EdgeTest, labels.specs.SlotEdges.{edges_with, slot_edges_of}}
use Rattle.verdict.specs.{declared.denial.Denial.{Denial, Denial as denial}, Rules.a4, Verdict.{Breaks, rule_number}}

abbrev pub is_missing : EdgeTest → Edge → Bool
is_missing allowed edge = not (allowed edge.from edge.kind edge.to)

-- the denial of an edge that a slot gives: only a thread's root slot gives space, and only a pair gives derive
abbrev pub denial_by : Layout → SlotRef → Kind → ℕ → Option Denial
denial_by t slot Space label = Some (denial.Root slot label)
denial_by t slot Derive label = option_map (λ parent. denial.Pair slot parent) (initial_parent t slot)
denial_by t slot kind label = Some (denial.Capability slot kind label)

abbrev pub slot_denial : Layout → EdgeTest → SlotRef → Option Denial
slot_denial t allowed slot =
    option_and_then (λ edge. denial_by t slot edge.kind edge.to) (find (is_missing allowed) (slot_edges_of t slot))

-- the first edge that the policy lacks of those that a slot gives with this capability
abbrev pub missing_edge : Layout → EdgeTest → Filled → Option Edge
missing_edge t allowed filled = find (is_missing allowed) (edges_with t filled.slot (Some filled.cap))

-- a rule on slots is broken at a place
abbrev pub BreaksSlots : Layout → EdgeTest → Denial → Type 0
BreaksSlots t allowed d = (rule_number (Some d) < a4) × Breaks t allowed d
