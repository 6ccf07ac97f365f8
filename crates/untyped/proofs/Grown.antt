-- That machines keep what they have when objects are added and their capabilities put into slots; and so that a whole retype can be made.
use Rattle.std.{specs.{List.fold, Prelude.{IsSome, Some, is_some}}, proofs.Common.{[], ℕ, ◌+◌, ◌<◌, ◌∙◌, ◌∷◌, ◌≡◌, ◌≤◌, Bool}}
use Rattle.std.proofs.{Common.{List, ap, arith, cond, false, inl, inr, length, refl, suc, sym, true, zero}, lemmas.Bool.cases_eq}
use Rattle.{std.proofs.lemmas.List.FromFn.length-map-range_with_len, base.specs.declared.ids.{ObjId.ObjId, SlotRef.SlotRef}}
use Rattle.machine.specs.{declared.object.{MemoryKind.MemoryKind, Object.{Object, Object as o}, Untyped.Untyped}, Changes.with_watermark}
use Rattle.machine.specs.Machine.{Machine, cap_of, object_of, parent_of, same_id, with_cap, with_new, with_object, with_parent}
use Rattle.machine.specs.{Memory.{Source, all_taken, new_cap, new_size, taken, with_all_made}, Step.Retype.window, Tree.IsAlone}
use Rattle.machine.proofs.{GoneLemmas.id_itself, LookUps.{cap_of-with_new, object_of-with_cap}}
use Rattle.machine.proofs.LookUps.{object_of-with_new, object_of-with_parent, one_id, parent_of-with_new}
use Rattle.untyped.specs.declared.{filling.Window.Window, making.Making.Making}
use Rattle.untyped.specs.{Batch.{new_objects, with_batch, with_caps}, Making.{CanBeMade, with_making}, Shown.source_shown}
use Rattle.untyped.{specs.Windows.{AreThere, IsFreeWindow, slots_of}, proofs.Batches.made_at_once}

number_after : (m : Machine) (object : Object) → (with_new m object).next ≡ m.next + 1
unfolding with_new
number_after m object = refl

object_past_new : (m : Machine) (object : Object) (q : ObjId) → q.0 < m.next → object_of (with_new m object) q ≡ object_of m q
object_past_new m object q below = object_of-with_new m object q ∙ by_tie (same_id q (record { 0 = m.next })) refl where
  by_tie :
      (tie : Bool) → same_id q (record { 0 = m.next }) ≡ tie → cond tie (Some object) (object_of m q) ≡ object_of m q
  by_tie true is =
      let same : q.0 ≡ m.next = ap (λ (id : ObjId). id.0) (one_id q (record { 0 = m.next }) is) in
      absurd (omega (arith, same, below))
  by_tie false is = refl

pub object_past_news :
    (m : Machine) (objects : List Object) (q : ObjId) → q.0 < m.next → object_of (fold with_new m objects) q ≡ object_of m q
object_past_news m [] q below = refl
object_past_news m (object ∷ objects) q below =
    let next : (with_new m object).next ≡ m.next + 1 = number_after m object in
    object_past_news (with_new m object) objects q (omega (arith, next, below)) ∙ object_past_new m object q below

pub cap_past_news : (m : Machine) (objects : List Object) (q : SlotRef) → cap_of (fold with_new m objects) q ≡ cap_of m q
cap_past_news m [] q = refl
cap_past_news m (object ∷ objects) q = cap_past_news (with_new m object) objects q ∙ cap_of-with_new m object q

parent_past_news : (m : Machine) (objects : List Object) (q : SlotRef) → parent_of (fold with_new m objects) q ≡ parent_of m q
parent_past_news m [] q = refl
parent_past_news m (object ∷ objects) q = parent_past_news (with_new m object) objects q ∙ parent_of-with_new m object q

alone_past_news : (m : Machine) (objects : List Object) (q : SlotRef) → IsAlone m q → IsAlone (fold with_new m objects) q
alone_past_news m objects q alone =
    record {
      root = parent_past_news m objects q ∙ alone.root;
      leaf = λ child is. alone.leaf child (sym (parent_past_news m objects child) ∙ is);
    }

pub free_past_news :
    (m : Machine) (objects : List Object) (at : Window) → at.node.0 < m.next → IsFreeWindow m at → IsFreeWindow (fold with_new m objects) at
free_past_news m objects at below free index low high =
    let was = free index low high in (
      rw (object_past_news m objects at.node below) was.0,
      cap_past_news m objects (record { holder = at.node; index = index }) ∙ was.1,
      alone_past_news m objects (record { holder = at.node; index = index }) was.2,
    )

new_there : (m : Machine) (object : Object) → object_of (with_new m object) (record { 0 = m.next }) ≡ Some object
new_there m object =
    let id : ObjId = record { 0 = m.next } in
    object_of-with_new m object id ∙ ap (λ tie. cond tie (Some object) (object_of m id)) (id_itself id)

pub news_there : (m : Machine) (objects : List Object) → AreThere (fold with_new m objects) m.next (length objects)
news_there m [] number low high = absurd (omega (arith, low, high))
news_there m (object ∷ objects) number low high =
    let next : (with_new m object).next ≡ m.next + 1 = number_after m object in
    let later : m.next + 1 ≤ number → IsSome (object_of (fold with_new (with_new m object) objects) (record { 0 = number })) =
    λ above. news_there (with_new m object) objects number (omega (arith, next, above)) (omega (arith, next, high)) in
    elim (cases_eq number m.next) [
      | inl same ↦
          ap is_some
          (object_past_news (with_new m object) objects (record { 0 = number }) (omega (arith, next, same))
          ∙ ap (λ n. object_of (with_new m object) (record { 0 = n })) same ∙ new_there m object)
      | inr apart ↦ later (omega (arith, low, apart))
    ]

pub length-new_objects :
    (count : ℕ) (kind : MemoryKind) (bits : ℕ) (memory : Untyped) → length (new_objects count kind bits memory) ≡ count
length-new_objects zero kind bits memory = refl
length-new_objects (suc count) kind bits memory = ap suc (length-new_objects count kind bits (taken (new_size kind bits) memory))

object_past_caps :
    (m : Machine) (number : ℕ) (kind : MemoryKind) (slots : List SlotRef) (parent : SlotRef) (q : ObjId)
    → object_of (with_caps m number kind slots parent) q ≡ object_of m q
object_past_caps m number kind [] parent q = refl
object_past_caps m number kind (slot ∷ slots) parent q =
    object_past_caps (with_parent (with_cap m slot (new_cap number kind)) slot parent) (number + 1) kind slots parent q
    ∙ object_of-with_parent (with_cap m slot (new_cap number kind)) slot parent q
    ∙ object_of-with_cap m slot (new_cap number kind) q

-- memory that is taken changes only its watermark

pub only_marked :
    (count size : ℕ) (memory : Untyped)
    → record memory { watermark = (all_taken count size memory).watermark } ≡ all_taken count size memory
only_marked zero size memory = refl
only_marked (suc count) size memory = only_marked count size (taken size memory)

-- existing untyped memory gets a watermark, whatever it had
marked :
    (m : Machine) (id : ObjId) (memory : Untyped) (was mark : ℕ)
    → object_of m id ≡ Some (o.Untyped (record memory { watermark = was }))
    → with_watermark m id mark ≡ with_object m id (o.Untyped (record memory { watermark = mark }))
unfolding with_watermark
marked m id memory was mark there = rw there refl

-- objects are added, their capabilities put into slots, and the watermark set

at_once :
    (m : Machine) (source : Source) (kind : MemoryKind) (bits : ℕ) (node : ObjId) (offset count : ℕ) → 0 < count
    → source.id.0 < m.next
    → with_all_made m source kind bits (window node offset count) ≡ with_batch m source kind bits (window node offset count)
at_once m source kind bits node offset zero some below = absurd (omega (arith, some))
at_once m source kind bits node offset (suc count) some below =
    made_at_once kind bits m source (record { holder = node; index = offset }) (window node (offset + 1) count) below

pub all_made :
    (m : Machine) (making : Making) (made : ℕ) → made ≡ making.window.count → CanBeMade m making
    → with_watermark
    (with_caps (fold with_new m (new_objects made making.kind making.bits making.source.memory)) m.next making.kind
    (slots_of making.window) making.source.slot)
    making.source.id (all_taken made (new_size making.kind making.bits) making.source.memory).watermark
    ≡ with_making m making
all_made m making made is can =
    let source : Source = source_shown making.source in
    let at : Window = making.window in
    let size : ℕ = new_size making.kind making.bits in
    let many : length (slots_of at) ≡ at.count =
    length-map-range_with_len (λ index. record { holder = at.node; index = index }) at.offset at.count in
    let there : object_of (filled made) source.id ≡ Some (o.Untyped (record source.memory { watermark = can.was })) =
    object_past_caps (fold with_new m (objects made)) m.next making.kind (slots_of at) source.slot source.id
    ∙ object_past_news m (objects made) source.id can.below
    ∙ can.there
    in
    marked (filled made) source.id source.memory can.was (all_taken made size source.memory).watermark there
    ∙ ap (λ memory. with_object (filled made) source.id (o.Untyped memory)) (only_marked made size source.memory)
    ∙ ap (λ n. with_object (filled n) source.id (o.Untyped (all_taken n size source.memory))) (is ∙ sym many)
    ∙ sym (at_once m source making.kind making.bits at.node at.offset at.count can.some can.below)
  where
    objects : ℕ → List Object
    objects n = new_objects n making.kind making.bits making.source.memory

    filled : ℕ → Machine
    filled n = with_caps (fold with_new m (objects n)) m.next making.kind (slots_of making.window) making.source.slot
