-- The items of a capability table, in the order of its text: which may come next, and the tables built up from the empty one of a version
-- (confine's own).
use Rattle.std.specs.Prelude.{[], ℕ, ◌≡◌, List}
use Rattle.machine.specs.{declared.layout.{Binding.Binding, Filled.Filled, Initial.Initial, Pair.Pair, Version.Version}, Layout.Layout}
use Rattle.machine.specs.Layout.{empty_layout}
use Rattle.table.specs.Building.{AdmitsBinding, AdmitsCap, AdmitsLabel, AdmitsObject, AdmitsPair, with_binding, with_filled, with_initial}
use Rattle.table.specs.Building.{with_label, with_pair}

-- a label by its name, an object with its name, a filled slot, a pair of the derivation tree, or a thread's binding
pub data Item : Type 0 where
  LabelItem : (name : List ℕ) → Item
  ObjectItem : (name : List ℕ) (initial : Initial) → Item
  CapItem : (filled : Filled) → Item
  PairItem : (pair : Pair) → Item
  BindingItem : (binding : Binding) → Item

abbrev pub with_item : Layout → Item → Layout
with_item t (LabelItem name) = with_label t name
with_item t (ObjectItem name initial) = with_initial t name initial
with_item t (CapItem filled) = with_filled t filled
with_item t (PairItem pair) = with_pair t pair
with_item t (BindingItem binding) = with_binding t binding

-- neither the named section nor one after it has begun; the order is labels, objects, capabilities, pairs, bindings

abbrev pub BeforeBindings : Layout → Type 0
BeforeBindings t = t.bindings ≡ []

abbrev pub BeforePairs : Layout → Type 0
BeforePairs t = (t.pairs ≡ []) × BeforeBindings t

abbrev pub BeforeCaps : Layout → Type 0
BeforeCaps t = (t.caps ≡ []) × BeforePairs t

abbrev pub BeforeObjects : Layout → Type 0
BeforeObjects t = (t.objects ≡ []) × BeforeCaps t

abbrev pub ComesNow : Layout → Item → Type 0
ComesNow t (LabelItem _) = BeforeObjects t
ComesNow t (ObjectItem _ _) = BeforeCaps t
ComesNow t (CapItem _) = BeforePairs t
ComesNow t (PairItem _) = BeforeBindings t
ComesNow t (BindingItem _) = Unit {0}

abbrev pub Admits : Layout → Item → Type 0
Admits t (LabelItem name) = AdmitsLabel t name
Admits t (ObjectItem name initial) = AdmitsObject t name initial
Admits t (CapItem filled) = AdmitsCap t filled
Admits t (PairItem pair) = AdmitsPair t pair
Admits t (BindingItem binding) = AdmitsBinding t binding

-- a table built up from the empty one of its version: each item comes in its order, and the table so far admits it
pub data IsBuiltUp : Layout → Type 0 where
  none : (version : Version) → IsBuiltUp (empty_layout version)
  more : {t : Layout} (item : Item) → IsBuiltUp t → ComesNow t item → Admits t item → IsBuiltUp (with_item t item)
