-- The one right certificate of a capability table: a line for each filled slot of a CNode, then for each root slot that is filled,
-- each pair of the derivation tree and each binding, in the order of the table ('seL4 Enforces Integrity', section 3, "Authority",
-- read off an initial state).
use Rattle.std.specs.Prelude.{ℕ, ◌++◌, Bool, List, Option, Some, false, filter, map, true, unwrap_or}
use Rattle.base.specs.declared.{ids.ObjId.ObjId, kind.{Kinds.Kinds, TheConstants.Kind.ALL}}
use Rattle.machine.specs.declared.{cap.Detail.Detail, layout.{Binding.Binding, Filled.Filled, Pair.Pair}}
use Rattle.machine.specs.{declared.object.ObjectKind.{ObjectKind, ObjectKind as kind}, Capabilities.gives, Layout.{Layout, declared_label}}
use Rattle.{table.specs.Rules.kind_at, certificate.specs.{declared.line.Line.Line, Kinds.set_of}}
use Rattle.certificate.specs.declared.line.Line.TheVariants as line

-- the label of an object; every object that a table names has one
abbrev pub label_in : Layout → ObjId → ℕ
label_in t id = unwrap_or (declared_label t id) 0

-- the kinds of authority that a capability gives
abbrev pub kinds_given : Detail → Kinds
kinds_given detail = set_of (filter (gives detail) ALL)

abbrev pub is_cnode : Option ObjectKind → Bool
is_cnode (Some kind.CNode) = true
is_cnode _ = false

abbrev pub is_thread : Option ObjectKind → Bool
is_thread (Some kind.Tcb) = true
is_thread _ = false

-- the line of a capability in a slot of a CNode
abbrev pub cap_line : Layout → Filled → Line
cap_line t filled =
    line.Cap filled.slot (label_in t filled.slot.holder) (kinds_given filled.cap.detail) (label_in t filled.cap.object)

-- the line of a capability in a root slot
abbrev pub space_line : Layout → Filled → Line
space_line t filled = line.Space filled.slot (label_in t filled.slot.holder) (label_in t filled.cap.object)

-- the line of a pair of the derivation tree
abbrev pub derive_line : Layout → Pair → Line
derive_line t pair = line.Derive pair.parent pair.child (label_in t pair.parent.holder) (label_in t pair.child.holder)

-- the line of a binding
abbrev pub runs_line : Layout → Binding → Line
runs_line t binding = line.Runs binding.thread binding.context (label_in t binding.thread) (label_in t binding.context)

abbrev pub cap_lines : Layout → List Line
cap_lines t = map (cap_line t) (filter (λ filled. is_cnode (kind_at t filled.slot.holder)) t.caps)

abbrev pub space_lines : Layout → List Line
space_lines t = map (space_line t) (filter (λ filled. is_thread (kind_at t filled.slot.holder)) t.caps)

abbrev pub right_certificate : Layout → List Line
right_certificate t = ((cap_lines t ++ space_lines t) ++ map (derive_line t) t.pairs) ++ map (runs_line t) t.bindings
