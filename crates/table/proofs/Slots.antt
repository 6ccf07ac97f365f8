-- The slots that objects have, and slots above all those of a rising list.
use Rattle.std.specs.{declared.cmp.Ordering.{Ordering, TheVariants.{Equal, Greater, Less}}, Ordering.is_lt}
use Rattle.std.proofs.Common.{◌-◌, ◌∙◌, ◌≡◌, All, AllPairs, List, None, Option, Some, ap, length, option_map, refl, slice_get, sym, true}
use Rattle.{std.proofs.lemmas.Bool.{false≢true, lt-ltb, ltb-true}, base.specs.declared.ids.SlotRef.SlotRef}
use Rattle.machine.{specs.{declared.layout.Initial.Initial, Layout.{Layout, initial_of}, Machine.slot_cmp}, proofs.LookUps.slot_total}
use Rattle.table.specs.{Building.{declares_slot, has_index, is_above}, Rules.HasSlot}
use Rattle.table.proofs.{FrontLemmas.at_last, ListLemmas.all_from_last}

pub has_slot : (t : Layout) (slot : SlotRef) → declares_slot t slot ≡ true → HasSlot t.objects slot
unfolding declares_slot initial_of
has_slot t slot e = by (slice_get t.objects slot.holder.0) refl e where
  by :
      (found : Option Initial) → slice_get t.objects slot.holder.0 ≡ found → has_index found slot.index ≡ true
      → HasSlot t.objects slot
  by None at e = absurd (false≢true e)
  by (Some holder) at e = record { holder = holder; held = at; within = ltb-true _ _ e }

pub slot_declared : (t : Layout) (slot : SlotRef) → HasSlot t.objects slot → declares_slot t slot ≡ true
unfolding declares_slot initial_of
slot_declared t slot h = ap (λ found. has_index found slot.index) h.held ∙ lt-ltb _ _ h.within

is_less : (r : Ordering) → is_lt r ≡ true → r ≡ Less
is_less Less e = refl
is_less Equal e = absurd (false≢true e)
is_less Greater e = absurd (false≢true e)

-- a fact about all slots of a rising list and a slot above its last
pub below_new :
    {X : Type 0} (slot_of : X → SlotRef) (xs : List X) (slot : SlotRef)
    → AllPairs (λ one other. slot_cmp (slot_of one) (slot_of other) ≡ Less) xs
    → is_above (option_map slot_of (slice_get xs (length xs - 1))) slot ≡ true → All (λ x. slot_cmp (slot_of x) slot ≡ Less) xs
below_new slot_of xs slot rise above =
    all_from_last (λ one other. slot_cmp (slot_of one) (slot_of other) ≡ Less) (λ x. slot_cmp (slot_of x) slot ≡ Less)
    (λ one other less below. slot_total.trans (slot_of one) (slot_of other) slot less below) xs rise
    (λ last at. is_less _ (sym (ap (λ found. is_above (option_map slot_of found) slot) at) ∙ above))

pub rises_after :
    {X : Type 0} (slot_of : X → SlotRef) (xs : List X) (slot : SlotRef) → All (λ x. slot_cmp (slot_of x) slot ≡ Less) xs
    → is_above (option_map slot_of (slice_get xs (length xs - 1))) slot ≡ true
rises_after {X} slot_of xs slot below = by (slice_get xs (length xs - 1)) refl where
  by : (last : Option X) → slice_get xs (length xs - 1) ≡ last → is_above (option_map slot_of last) slot ≡ true
  by None at = refl
  by (Some last) at = ap is_lt (at_last (λ x. slot_cmp (slot_of x) slot ≡ Less) xs last below at)
