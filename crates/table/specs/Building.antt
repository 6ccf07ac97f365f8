-- The building up of a capability table: tests of what may be added to it, and the table with one item more (confine's own).
use Rattle.std.specs.{List.list_any, Ordering.is_lt, Prelude.{[], ℕ, ◌&&◌, ◌++◌, ◌+◌, ◌-◌, ◌<◌, ◌^◌, ◌||◌, ◌∷◌, ◌≡◌, ◌≤◌, Bool, List, None}}
use Rattle.std.specs.Prelude.{Option, Some, false, is_some, length, nat_le, nat_lt, not, option_map, slice_get, true}
use Rattle.base.specs.declared.{ids.{ObjId.ObjId, SlotRef.SlotRef}, limits.TheConstants.{ADDRESS_END, MAX_OBJECTS, MAX_SLOTS, MAX_THREADS}}
use Rattle.machine.specs.declared.{cap.{Badged.Badged, Cap.Cap, Detail.{Detail, Detail as d}}, layout.{Binding.Binding, Filled.Filled}}
use Rattle.machine.specs.declared.{layout.{Initial.Initial, Pair.Pair}, object.Object.{Object, Object as o}}
use Rattle.machine.specs.{declared.object.ObjectKind.ObjectKind as kind, Layout.{Layout, initial_of, most_labels}, Machine.same_id}
use Rattle.machine.specs.{Machine.slot_cmp, Objects.{end_of, slot_count}}
use Rattle.words.specs.Name.{is_name}
use Rattle.table.specs.{Names.{label_named, object_named}, Placement.{is_aligned, meets}, Rules.{IsBlank, is_control_of, is_tcb, kind_at}}
use Rattle.table.specs.{Rules.{slots_in, threads_in}, Tree.is_for_untyped}

-- the tests

-- whether one more object stays within the limits of objects, slots and threads
unfoldable pub has_room : Layout → Object → Bool
has_room t object =
    (nat_lt (length t.objects) MAX_OBJECTS && nat_le (slots_in t.objects + slot_count object) MAX_SLOTS)
    && (nat_lt (threads_in t.objects) MAX_THREADS || not (is_tcb object))

-- whether an object overlaps none of the table's
unfoldable pub is_free : Layout → Object → Bool
is_free t object = not (list_any (λ initial. meets initial.object object) t.objects)

-- whether the table has the control of a core
unfoldable pub has_control : Layout → ℕ → Bool
has_control t core = list_any (λ initial. is_control_of initial.object core) t.objects

-- whether an object controls a core whose control the table has
abbrev pub repeats_control : Layout → Object → Bool
repeats_control t (o.Control control) = has_control t control.core
repeats_control t _ = false

-- whether an object has a slot of this index, if there is an object
abbrev pub has_index : Option Initial → ℕ → Bool
has_index None index = false
has_index (Some holder) index = nat_lt index (slot_count holder.object)

unfoldable pub declares_slot : Layout → SlotRef → Bool
declares_slot t slot = has_index (initial_of t slot.holder) slot.index

abbrev pub last_cap : Layout → Option Filled
last_cap t = slice_get t.caps (length t.caps - 1)

abbrev pub is_above : Option SlotRef → SlotRef → Bool
is_above None slot = true
is_above (Some last) slot = is_lt (slot_cmp last slot)

-- whether a slot is above those that the table fills
unfoldable pub is_above_caps : Layout → SlotRef → Bool
is_above_caps t slot = is_above (option_map (λ filled. filled.slot) (last_cap t)) slot

-- whether a slot of this holder may hold a capability: a thread's root slot takes only a CNode's
abbrev pub may_hold : Option Initial → Detail → Bool
may_hold (Some holder) (d.CNode _) = true
may_hold (Some holder) _ = not (is_tcb holder.object)
may_hold None _ = false

-- whether a capability's rights are below a bound, as bits, and its badge is a word
abbrev pub is_badged : ℕ → Badged → Bool
is_badged rights end = nat_lt end.rights.0 rights && nat_lt end.badge (2 ^ 64)

-- whether a detail fits an object
abbrev pub fits : Object → Detail → Bool
fits (o.Untyped _) d.Untyped = true
fits (o.CNode node) (d.CNode guard) = nat_le (guard.size + node.radix) 64 && nat_lt guard.value (2 ^ guard.size)
fits (o.Tcb _) d.Tcb = true
fits (o.Endpoint _) (d.Endpoint end) = is_badged 16 end
fits (o.Notification _) (d.Notification end) = is_badged 4 end
fits (o.Reply _) d.Reply = true
fits (o.Context _) d.Context = true
fits (o.Frame _) (d.Frame rights) = nat_lt rights.0 4
fits (o.Control _) d.Control = true
fits _ _ = false

abbrev pub fits_target : Option Initial → Detail → Bool
fits_target None detail = false
fits_target (Some target) detail = fits target.object detail

-- whether the table has the object of a capability, and the capability's detail fits it
unfoldable pub is_fitting : Layout → Cap → Bool
is_fitting t cap = fits_target (initial_of t cap.object) cap.detail

-- whether some capability is for an object
unfoldable pub has_cap_to : Layout → ObjId → Bool
has_cap_to t object = list_any (λ filled. same_id filled.cap.object object) t.caps

-- whether a capability is for untyped memory that has one already
abbrev pub repeats_untyped : Layout → Cap → Bool
repeats_untyped t cap = is_for_untyped cap.detail && has_cap_to t cap.object

abbrev pub last_pair : Layout → Option Pair
last_pair t = slice_get t.pairs (length t.pairs - 1)

-- whether a slot is above those that are children
unfoldable pub is_above_pairs : Layout → SlotRef → Bool
is_above_pairs t slot = is_above (option_map (λ pair. pair.child) (last_pair t)) slot

abbrev pub last_binding : Layout → Option Binding
last_binding t = slice_get t.bindings (length t.bindings - 1)

abbrev pub is_above_bound : Option Binding → ObjId → Bool
is_above_bound None thread = true
is_above_bound (Some last) thread = nat_lt last.thread.0 thread.0

-- whether a thread is above those that the table binds
unfoldable pub is_above_bindings : Layout → ObjId → Bool
is_above_bindings t thread = is_above_bound (last_binding t) thread

-- whether a context is bound to a thread
unfoldable pub is_bound : Layout → ObjId → Bool
is_bound t context = list_any (λ binding. same_id binding.context context) t.bindings

-- what may be added

pub record AdmitsLabel (t : Layout) (name : List ℕ) : Type 0 where
  pub spelled : is_name name ≡ true
  pub fresh : is_some (label_named t name) ≡ false
  pub room : length t.labels < most_labels t.version

pub record AdmitsObject (t : Layout) (name : List ℕ) (initial : Initial) : Type 0 where
  pub spelled : is_name name ≡ true
  pub fresh : is_some (object_named t name) ≡ false
  pub label : initial.label < length t.labels
  pub blank : IsBlank initial.object
  pub controls : repeats_control t initial.object ≡ false
  pub room : has_room t initial.object ≡ true
  pub end : end_of initial.object ≤ ADDRESS_END
  pub aligned : is_aligned initial.object ≡ true
  pub free : is_free t initial.object ≡ true

pub record AdmitsCap (t : Layout) (filled : Filled) : Type 0 where
  pub rises : is_above_caps t filled.slot ≡ true
  pub slot : declares_slot t filled.slot ≡ true
  pub root : may_hold (initial_of t filled.slot.holder) filled.cap.detail ≡ true
  pub fits : is_fitting t filled.cap ≡ true
  pub once : repeats_untyped t filled.cap ≡ false
  pub original : filled.cap.original ≡ true

pub record AdmitsPair (t : Layout) (pair : Pair) : Type 0 where
  pub rises : is_above_pairs t pair.child ≡ true
  pub parent : declares_slot t pair.parent ≡ true
  pub child : declares_slot t pair.child ≡ true

pub record AdmitsBinding (t : Layout) (binding : Binding) : Type 0 where
  pub rises : is_above_bindings t binding.thread ≡ true
  pub thread : kind_at t binding.thread ≡ Some kind.Tcb
  pub context : kind_at t binding.context ≡ Some kind.Context
  pub once : is_bound t binding.context ≡ false

-- the table with one more item, which goes last

abbrev pub with_label : Layout → List ℕ → Layout
with_label t name = record t { labels = t.labels ++ name ∷ [] }

abbrev pub with_initial : Layout → List ℕ → Initial → Layout
with_initial t name initial = record t { names = t.names ++ name ∷ []; objects = t.objects ++ initial ∷ [] }

abbrev pub with_filled : Layout → Filled → Layout
with_filled t filled = record t { caps = t.caps ++ filled ∷ [] }

abbrev pub with_pair : Layout → Pair → Layout
with_pair t pair = record t { pairs = t.pairs ++ pair ∷ [] }

abbrev pub with_binding : Layout → Binding → Layout
with_binding t binding = record t { bindings = t.bindings ++ binding ∷ [] }
