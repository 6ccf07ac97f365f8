-- The content of a capability table: its version, the labels, the initial objects with their names and labels, the slots that hold
-- capabilities, the pairs of the derivation tree, and which thread runs on which context (compare the seL4 manual,
-- "Bootstrapping", and 'seL4 Enforces Integrity', section 3: the initial state and its labelling).
use Rattle.std.specs.Prelude.{[], ℕ, List, Option, find, option_map, slice_get}
use Rattle.base.specs.declared.ids.{ObjId.ObjId, SlotRef.SlotRef}
use Rattle.base.specs.declared.label.TheConstants.Label as Label
use Rattle.machine.specs.declared.{cap.Cap.Cap, layout.{Binding.Binding, Filled.Filled, Initial.Initial, Pair.Pair, Version.Version}}
use Rattle.machine.specs.declared.layout.Version.TheVariants as version
use Rattle.machine.specs.Machine.{same_id, same_slot}

-- labels and objects are numbered from 0 in the order of their lists
pub record Layout : Type 0 where
  pub version : Version
  -- the names of the labels, as bytes
  pub labels : List (List ℕ)
  -- the names of the objects, as bytes
  pub names : List (List ℕ)
  pub objects : List Initial
  -- rising by slot
  pub caps : List Filled
  -- rising by child
  pub pairs : List Pair
  -- rising by thread
  pub bindings : List Binding

-- the number of labels that a table of a version may have
abbrev pub most_labels : Version → ℕ
most_labels version.One = 64
most_labels version.Two = Label.COUNT

-- the empty table of a version
abbrev pub empty_layout : Version → Layout
empty_layout version =
    record { version = version; labels = []; names = []; objects = []; caps = []; pairs = []; bindings = [] }

-- the table as one of version 2
abbrev pub upgraded : Layout → Layout
upgraded t = record t { version = version.Two }

-- the object of a number, as it is declared
unfoldable pub initial_of : Layout → ObjId → Option Initial
initial_of t id = slice_get t.objects id.0

-- the declared label of an initial object
unfoldable pub declared_label : Layout → ObjId → Option ℕ
declared_label t id = option_map (λ initial. initial.label) (initial_of t id)

-- the capability that the table puts into a slot
unfoldable pub initial_cap : Layout → SlotRef → Option Cap
initial_cap t slot = option_map (λ filled. filled.cap) (find (λ filled. same_slot filled.slot slot) t.caps)

-- the parent that the table gives a slot
unfoldable pub initial_parent : Layout → SlotRef → Option SlotRef
initial_parent t slot = option_map (λ pair. pair.parent) (find (λ pair. same_slot pair.child slot) t.pairs)

-- the context that a thread is bound to
unfoldable pub bound_context : Layout → ObjId → Option ObjId
bound_context t thread = option_map (λ binding. binding.context) (find (λ binding. same_id binding.thread thread) t.bindings)

-- the thread that a context is bound to
unfoldable pub bound_thread : Layout → ObjId → Option ObjId
bound_thread t context = option_map (λ binding. binding.thread) (find (λ binding. same_id binding.context context) t.bindings)
