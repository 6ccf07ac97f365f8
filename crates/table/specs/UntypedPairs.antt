-- That no capability for untyped memory is in a pair of the derivation tree (confine's own).
use Rattle.std.specs.Prelude.{◌≡◌, ◌≢◌, ◌⊎◌, Some}
use Rattle.machine.specs.{declared.{cap.Cap.Cap, layout.Pair.Pair, object.ObjectKind.ObjectKind as kind}, Capabilities.kind_of_detail}
use Rattle.machine.specs.Layout.{Layout, initial_cap}

-- neither capability of a pair is for untyped memory, as the table fills their slots
abbrev pub IsForNoUntyped : Layout → Pair → Type 0
IsForNoUntyped t pair =
    (held : Cap) → (initial_cap t pair.parent ≡ Some held) ⊎ (initial_cap t pair.child ≡ Some held)
    → kind_of_detail held.detail ≢ kind.Untyped
