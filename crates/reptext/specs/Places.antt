-- The names of a place: labels, kinds and objects by their names, slots as the texts spell them (confine's own).
use Rattle.std.specs.Prelude.{[], ℕ, ◌++◌, ◌∷◌, List, Option, codes, decimal, slice_get, unwrap_or}
use Rattle.base.specs.{declared.{ids.{ObjId.ObjId, SlotRef.SlotRef}, kind.Kind.{Kind, TheVariants.{Derive, Holds, Runs}}}, Kinds.kind_name}
use Rattle.{machine.specs.{declared.object.ObjectKind.ObjectKind, Layout.Layout}, table.specs.Rules.kind_at}
use Rattle.{policy.specs.declared.broken.Broken.Broken, sharp.specs.declared.broken.SharpBroken.SharpBroken}
use Rattle.{verdict.specs.declared.denial.Denial.Denial, captext.specs.{PolicyText.label_name, Spelling.slot_word, TableText.place_in}}
use Rattle.policy.specs.declared.broken.Broken.TheVariants as broken
use Rattle.sharp.specs.declared.broken.SharpBroken.TheVariants as sharp
use Rattle.verdict.specs.declared.denial.Denial.TheVariants as denial

-- the name of an object; `#` and its number if the table doesn't name it, as a call made it
abbrev pub object_name : Layout → ObjId → List ℕ
object_name t id = unwrap_or (slice_get t.names id.0) (codes "#" ++ decimal id.0)

-- a slot of a CNode by its index, of a thread as its root; the holder's kind is given, since a call may have made the holder
abbrev pub slot_name : Layout → Option ObjectKind → SlotRef → List ℕ
slot_name t holder slot = slot_word (object_name t slot.holder) (place_in holder slot.index)

abbrev pub edge_names : Layout → ℕ → Kind → ℕ → List (List ℕ)
edge_names t from kind to = label_name t from ∷ kind_name kind ∷ label_name t to ∷ []

-- the labels of a broken rule and its missing edge; for P1 and P3, the edge that only one of two labels has
abbrev pub broken_names : Layout → Broken → List (List ℕ)
broken_names t (broken.SubjectsDisagree subject other kind target) = label_name t subject ∷ edge_names t other kind target
broken_names t (broken.ControlLacks subject kind object) = edge_names t subject kind object
broken_names t (broken.GrantLacks giver taker kind target) = label_name t giver ∷ edge_names t taker kind target
broken_names t (broken.DomainLacks parent child) = edge_names t parent Derive child
broken_names t (broken.DeriveLacks parent child) = edge_names t parent Derive child
broken_names t (broken.ContextLacks subject context) = edge_names t subject Runs context
broken_names t (broken.ReplyLacks reply thread) = edge_names t reply Holds thread
broken_names t (broken.LentLacks borrower context) = edge_names t borrower Runs context

-- the names of a broken sharp rule: those of the rule of closed policies with its number
abbrev pub sharp_names : Layout → SharpBroken → List (List ℕ)
sharp_names t (sharp.SubjectLacks subject other kind target) = label_name t subject ∷ edge_names t other kind target
sharp_names t (sharp.ControlLacks subject kind object) = edge_names t subject kind object
sharp_names t (sharp.GrantLacks giver taker kind target) = label_name t giver ∷ edge_names t taker kind target
sharp_names t (sharp.DomainLacks parent child) = edge_names t parent Derive child
sharp_names t (sharp.DeriveLacks parent child) = edge_names t parent Derive child
sharp_names t (sharp.ContextLacks subject context) = edge_names t subject Runs context
sharp_names t (sharp.ReplyLacks reply thread) = edge_names t reply Holds thread
sharp_names t (sharp.LentLacks borrower context) = edge_names t borrower Runs context

-- the names of a denial's place, if objects are of these kinds
abbrev pub place_names_by : (ObjId → Option ObjectKind) → Layout → Denial → List (List ℕ)
place_names_by kinds t (denial.Policy broken) = broken_names t broken
place_names_by kinds t (denial.Sharp broken) = sharp_names t broken
place_names_by kinds t (denial.Capability slot kind label) = slot_name t (kinds slot.holder) slot ∷ kind_name kind ∷ label_name t label ∷ []
place_names_by kinds t (denial.Root slot label) = slot_name t (kinds slot.holder) slot ∷ codes "space" ∷ label_name t label ∷ []
place_names_by kinds t (denial.Pair child parent) = slot_name t (kinds parent.holder) parent ∷ slot_name t (kinds child.holder) child ∷ []
place_names_by kinds t (denial.Binding thread context) = object_name t thread ∷ object_name t context ∷ []
place_names_by kinds t (denial.Holding reply thread) = object_name t reply ∷ object_name t thread ∷ []
place_names_by kinds t (denial.Recorded thread kind label) = object_name t thread ∷ kind_name kind ∷ label_name t label ∷ []
place_names_by kinds t (denial.Certificate line) = decimal line ∷ []

-- the names of the place of a denial at boot
abbrev pub place_names : Layout → Denial → List (List ℕ)
place_names t = place_names_by (kind_at t) t
