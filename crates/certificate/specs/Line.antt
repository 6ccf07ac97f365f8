-- The lines of a certificate: what each slot, pair of the derivation tree and binding of a capability table gives, with the labels
-- between which it is (confine's own; the authority is that of 'seL4 Enforces Integrity', section 3).
use Rattle.std.specs.Prelude.{[], ℕ, ◌<◌, ◌∷◌, ◌≡◌, List, Some, codes, length, true}
use Rattle.{base.specs.declared.ids.SlotRef.SlotRef, machine.specs.{declared.object.ObjectKind.ObjectKind, Layout.Layout}}
use Rattle.{table.specs.{Building.declares_slot, Rules.kind_at}, captext.specs.{PolicyText.label_name, TableText.{object_name, slot_name}}}
use Rattle.certificate.specs.{declared.line.Line.Line, Kinds.{IsKinds, kinds_word}}
use Rattle.machine.specs.declared.object.ObjectKind.TheVariants as kind
use Rattle.certificate.specs.declared.line.Line.TheVariants as line

-- the words of a line
abbrev pub line_words : Layout → Line → List (List ℕ)
line_words t (line.Cap slot from kinds to) =
    codes "cap" ∷ slot_name t slot ∷ label_name t from ∷ kinds_word kinds ∷ label_name t to ∷ []
line_words t (line.Space slot from to) = codes "space" ∷ slot_name t slot ∷ label_name t from ∷ label_name t to ∷ []
line_words t (line.Derive parent child from to) =
    codes "derive" ∷ slot_name t parent ∷ slot_name t child ∷ label_name t from ∷ label_name t to ∷ []
line_words t (line.Runs thread context from to) =
    codes "runs" ∷ object_name t thread ∷ object_name t context ∷ label_name t from ∷ label_name t to ∷ []

-- a slot that the table declares, of a holder of this kind
abbrev pub IsSlotOf : Layout → ObjectKind → SlotRef → Type 0
IsSlotOf t kind slot = (kind_at t slot.holder ≡ Some kind) × (declares_slot t slot ≡ true)

-- labels of the table
abbrev pub AreLabels : Layout → ℕ → ℕ → Type 0
AreLabels t from to = (from < length t.labels) × (to < length t.labels)

-- a line that a certificate for the table may have: its slots, objects and labels are the table's, and fit
abbrev pub IsLineFor : Layout → Line → Type 0
IsLineFor t (line.Cap slot from kinds to) = IsSlotOf t kind.CNode slot × IsKinds kinds × AreLabels t from to
IsLineFor t (line.Space slot from to) = IsSlotOf t kind.Tcb slot × AreLabels t from to
IsLineFor t (line.Derive parent child from to) =
    (declares_slot t parent ≡ true) × (declares_slot t child ≡ true) × AreLabels t from to
IsLineFor t (line.Runs thread context from to) =
    (kind_at t thread ≡ Some kind.Tcb) × (kind_at t context ≡ Some kind.Context) × AreLabels t from to
