-- That a slot has a child exactly if it is the parent of some slot.
use Rattle.std.specs.declared.cmp.Ordering.{Ordering, TheVariants.{Equal, Greater, Less}}
use Rattle.std.specs.{FinMap.{Entries.below_all, entries, entries_sorted, find, get-entries, is_sorted}, List.list_any}
use Rattle.std.{specs.{Ordering.{is_eq, is_lt}, Prelude.{◌&&◌, ◌||◌, ◌≢◌, None, Some}}, proofs.Common.{[], ◌∙◌, ◌∷◌, ◌≡◌, Bool, List, T}}
use Rattle.{std.proofs.{Common.{ap, cond, false, refl, subst, sym, true}, lemmas.Bool.false≢true}, base.specs.declared.ids.SlotRef.SlotRef}
use Rattle.machine.specs.{Machine.{Machine, parent_of, same_slot, slot_cmp}, Memory.{Source, begun, has_child}}
use Rattle.machine.proofs.{Exchange.slot_itself, FiniteLemmas.same_from_tie, LookUps.{slot_apart, slot_total}}
use Rattle.steps.proofs.RetypeFormed.{childless}

abbrev Pairs : Type 0
Pairs = List (SlotRef × SlotRef)

first : (a b : Bool) → T (a && b) → T a
first true b t = tt
first false b t = absurd t

second : (a b : Bool) → T (a && b) → T b
second true b t = t
second false b t = absurd t

-- a slot below all keys is none of them
not_below : (q : SlotRef) (pairs : Pairs) → T (below_all slot_cmp q pairs) → find slot_cmp q pairs ≡ None
not_below q [] below = refl
not_below q (pair ∷ pairs) below = by_order (slot_cmp q pair.0) (not_below q pairs) below where
  by_order :
      (order : Ordering) → (T (below_all slot_cmp q pairs) → find slot_cmp q pairs ≡ None)
      → T (is_lt order && below_all slot_cmp q pairs)
      → cond (is_eq order) (Some pair.1) (find slot_cmp q pairs) ≡ None
  by_order Less rest below = rest below
  by_order Equal rest below = absurd below
  by_order Greater rest below = absurd below

-- a value that is listed is found at its key
found :
    (slot : SlotRef) (pairs : Pairs) → T (is_sorted slot_cmp pairs) → list_any (λ pair. same_slot pair.1 slot) pairs ≡ true
    → (q : SlotRef) × (find slot_cmp q pairs ≡ Some slot)
found slot [] sorted any = absurd (false≢true any)
found slot (pair ∷ pairs) sorted any = by_tie (same_slot pair.1 slot) refl (found slot pairs (second _ _ sorted)) any where
  later : (q : SlotRef) × (find slot_cmp q pairs ≡ Some slot) → (q : SlotRef) × (find slot_cmp q (pair ∷ pairs) ≡ Some slot)
  later place = (place.0, by_key (same_slot place.0 pair.0) refl) where
    by_key : (tie : Bool) → same_slot place.0 pair.0 ≡ tie → cond tie (Some pair.1) (find slot_cmp place.0 pairs) ≡ Some slot
    by_key false is = place.1
    by_key true is =
        let same : place.0 ≡ pair.0 = same_from_tie slot_total slot_apart place.0 pair.0 is in
        let none : find slot_cmp place.0 pairs ≡ None =
        subst (λ q. find slot_cmp q pairs ≡ None) (sym same) (not_below pair.0 pairs (first _ _ sorted)) in
        let two : None ≡ Some slot = sym none ∙ place.1 in
        cc

  by_tie :
      (tie : Bool) → same_slot pair.1 slot ≡ tie
      → (list_any (λ other. same_slot other.1 slot) pairs ≡ true → (q : SlotRef) × (find slot_cmp q pairs ≡ Some slot))
      → (tie || list_any (λ other. same_slot other.1 slot) pairs) ≡ true
      → (q : SlotRef) × (find slot_cmp q (pair ∷ pairs) ≡ Some slot)
  by_tie true is rest any =
      let same : pair.1 ≡ slot = same_from_tie slot_total slot_apart pair.1 slot is in
      (pair.0, rw (slot_itself pair.0) (ap Some same))
  by_tie false is rest any = later (rest any)

no_child : (m : Machine) (slot : SlotRef) → ((q : SlotRef) → parent_of m q ≢ Some slot) → has_child m slot ≡ false
unfolding has_child parent_of
no_child m slot none = by_tie (has_child m slot) refl where
  by_tie : (tie : Bool) → has_child m slot ≡ tie → tie ≡ false
  by_tie false is = refl
  by_tie true is =
      let place = found slot (entries m.parents) (entries_sorted m.parents) is in
      absurd (none place.0 (get-entries m.parents place.0 ∙ place.1))

a_child : (m : Machine) (slot q : SlotRef) → parent_of m q ≡ Some slot → has_child m slot ≡ true
a_child m slot q is = by_tie (has_child m slot) refl where
  by_tie : (tie : Bool) → has_child m slot ≡ tie → tie ≡ true
  by_tie true tie = refl
  by_tie false tie = absurd (childless m slot q tie is)

pub begun_later :
    (m : Machine) (source : Source) (q : SlotRef) → parent_of m q ≡ Some source.slot → source ≡ begun m source
begun_later m source q is = rw (a_child m source.slot q is) refl

pub begun_first :
    (m : Machine) (source : Source) → ((q : SlotRef) → parent_of m q ≢ Some source.slot)
    → record source { memory = record source.memory { watermark = source.memory.base } } ≡ begun m source
begun_first m source none = rw (no_child m source.slot none) refl
