-- The text of a capability table: the header of its version, a line for each label, object, filled slot, pair of the derivation tree and
-- binding, and `end` (confine's own; what it says is a system's initial state, seL4 manual, "Bootstrapping").
use Rattle.std.specs.{Fmt.decimal, List.zip, Prelude.{[], ℕ, ◌++◌, ◌∷◌, ◌≡◌, List, None, Option, Some, codes, map, slice_index_or}}
use Rattle.base.specs.{declared.ids.{ObjId.ObjId, SlotRef.SlotRef}, Rights.rights_word}
use Rattle.machine.specs.declared.{cap.Detail.{Detail, Detail as d}, layout.{Binding.Binding, Filled.Filled, Initial.Initial, Pair.Pair}}
use Rattle.machine.specs.declared.{layout.Version.Version, object.{Object.{Object, Object as o}, ObjectKind.ObjectKind, Share.Share}}
use Rattle.machine.specs.declared.layout.Version.TheVariants as version
use Rattle.machine.specs.declared.object.ObjectKind.TheVariants as kind
use Rattle.machine.specs.{declared.thread.RunState.{RunState, RunState as run}, KindWords.object_kind_word, Layout.Layout}
use Rattle.machine.specs.Objects.{kind_of_object}
use Rattle.words.specs.{Number.hexadecimal, Reading.whole_lines, Text.{text_of, words_of}}
use Rattle.table.specs.{Items.{Admits, BindingItem, CapItem, ComesNow, Item, LabelItem, ObjectItem, PairItem, with_item}, Rules.kind_at}
use Rattle.captext.specs.{declared.shapes.Place.Place, PolicyText.label_name, Spelling.slot_word}
use Rattle.captext.specs.declared.shapes.Place.TheVariants as place

-- the header of the texts of a version
abbrev pub table_header : Version → List (List ℕ)
table_header version.One = words_of (codes "confine-table 1")
table_header version.Two = words_of (codes "confine-table 2")

-- the name of an object of the table
abbrev pub object_name : Layout → ObjId → List ℕ
object_name t id = slice_index_or t.names id.0 []

-- label NAME
abbrev pub label_words : List ℕ → List (List ℕ)
label_words name = codes "label" ∷ name ∷ []

-- the word that begins the line of an object
abbrev pub kind_word : Object → List ℕ
kind_word object = object_kind_word (kind_of_object object)

-- how a thread starts: ready, or else inactive
abbrev pub start_word : RunState → List ℕ
start_word run.Ready = codes "ready"
start_word _ = codes "inactive"

-- CORE BUDGET PERIOD, or `-` for none
abbrev pub share_words : Option Share → List (List ℕ)
share_words None = codes "-" ∷ []
share_words (Some share) = decimal share.core ∷ decimal share.budget ∷ decimal share.period ∷ []

-- where an object lies and what else its kind needs
abbrev pub content_words : Object → List (List ℕ)
content_words (o.Untyped memory) = hexadecimal memory.base ∷ decimal memory.bits ∷ []
content_words (o.CNode node) = hexadecimal node.address ∷ decimal node.radix ∷ []
content_words (o.Tcb thread) = hexadecimal thread.address ∷ start_word thread.state ∷ []
content_words (o.Endpoint endpoint) = hexadecimal endpoint.address ∷ []
content_words (o.Notification notification) = hexadecimal notification.address ∷ []
content_words (o.Reply reply) = hexadecimal reply.address ∷ []
content_words (o.Context context) = hexadecimal context.address ∷ share_words context.share
content_words (o.Frame frame) = hexadecimal frame.address ∷ []
content_words (o.Control control) = decimal control.core ∷ []

-- KIND NAME LABEL and its content
abbrev pub object_words : Layout → List ℕ → Initial → List (List ℕ)
object_words t name initial = kind_word initial.object ∷ name ∷ label_name t initial.label ∷ content_words initial.object

-- a slot's place in a holder of this kind: a thread has its root slot alone
abbrev pub place_in : Option ObjectKind → ℕ → Place
place_in (Some kind.Tcb) index = place.Root
place_in _ index = place.Index index

-- NAME.DEC or NAME.root
abbrev pub slot_name : Layout → SlotRef → List ℕ
slot_name t slot = slot_word (object_name t slot.holder) (place_in (kind_at t slot.holder) slot.index)

-- what a capability says beside its object
abbrev pub detail_words : Detail → List (List ℕ)
detail_words (d.CNode guard) = decimal guard.size ∷ hexadecimal guard.value ∷ []
detail_words (d.Endpoint end) = rights_word end.rights ∷ decimal end.badge ∷ []
detail_words (d.Notification end) = rights_word end.rights ∷ decimal end.badge ∷ []
detail_words (d.Frame rights) = rights_word rights ∷ []
detail_words _ = []

-- cap SLOT NAME and what the capability says
abbrev pub cap_words : Layout → Filled → List (List ℕ)
cap_words t filled = codes "cap" ∷ slot_name t filled.slot ∷ object_name t filled.cap.object ∷ detail_words filled.cap.detail

-- child SLOT SLOT
abbrev pub pair_words : Layout → Pair → List (List ℕ)
pair_words t pair = codes "child" ∷ slot_name t pair.parent ∷ slot_name t pair.child ∷ []

-- bind NAME NAME
abbrev pub binding_words : Layout → Binding → List (List ℕ)
binding_words t binding = codes "bind" ∷ object_name t binding.thread ∷ object_name t binding.context ∷ []

abbrev pub item_words : Layout → Item → List (List ℕ)
item_words t (LabelItem name) = label_words name
item_words t (ObjectItem name initial) = object_words t name initial
item_words t (CapItem filled) = cap_words t filled
item_words t (PairItem pair) = pair_words t pair
item_words t (BindingItem binding) = binding_words t binding

-- the sections

abbrev pub label_lines : Layout → List (List (List ℕ))
label_lines t = map label_words t.labels

abbrev pub object_lines : Layout → List (List (List ℕ))
object_lines t = map (λ named. object_words t named.0 named.1) (zip t.names t.objects)

abbrev pub cap_lines : Layout → List (List (List ℕ))
cap_lines t = map (cap_words t) t.caps

abbrev pub pair_lines : Layout → List (List (List ℕ))
pair_lines t = map (pair_words t) t.pairs

abbrev pub binding_lines : Layout → List (List (List ℕ))
binding_lines t = map (binding_words t) t.bindings

-- the lines between the header and `end`
abbrev pub table_lines : Layout → List (List (List ℕ))
table_lines t = label_lines t ++ (object_lines t ++ (cap_lines t ++ (pair_lines t ++ binding_lines t)))

abbrev pub table_text : Layout → List ℕ
table_text t = text_of (whole_lines (table_header t.version) (table_lines t))

-- a line adds an item: the table takes the item next, and the line is that item's
pub record IsLineOf (t : Layout) (words : List (List ℕ)) (next : Layout) (item : Item) : Type 0 where
  pub now : ComesNow t item
  pub admits : Admits t item
  pub words_are : words ≡ item_words t item
  pub grown : with_item t item ≡ next
