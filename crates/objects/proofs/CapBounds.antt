-- Capabilities are no more than slots, and each is for an object that is there.
use Rattle.std.{specs.{FinMap.FinMap, List.flat_map, Prelude.{IsSome, None, Option, Some}}, proofs.Common.{[], ℕ, ◌*◌, ◌-◌, ◌<◌, ◌^◌, ◌∙◌}}
use Rattle.std.specs.FinMap as finite
use Rattle.std.proofs.Common.{◌∷◌, ◌≡◌, ◌≤◌, Bool, List, ap, arith, cond, false, inl, inr, length, refl, subst, suc, sym, true, zero}
use Rattle.std.proofs.lemmas.{Bool.false≢true, List.{length-append, length-map, FromFn.length-map-range_with_len}}
use Rattle.base.specs.declared.ids.{ObjId.ObjId, SlotRef.SlotRef}
use Rattle.machine.specs.{declared.cap.Cap.Cap, Counts.caps_to, Machine.{cap_of, id_cmp, object_of, same_id}}
use Rattle.machine.proofs.{CapCounts.{caps_to-few, caps_to-some}, FiniteLemmas.{cond_elsewhere, cond_here, len-tabulate}, LookUps.id_apart}
use Rattle.machine.proofs.LookUps.{id_total, slot_apart, slot_total}
use Rattle.objects.specs.{declared.{entry.Entry.Entry, state.State.TheInside.Inside}, Entries.{caps_in, entry_of, slot_at}, Family.cap_in}
use Rattle.objects.{specs.State.{IsConsistent, IsSound, machine_of, slots_of}, proofs.{CountLemmas.few_slots, EntryLemmas.some-none}}
use Rattle.objects.proofs.{QueueLemmas.cases_id, StateLemmas.{object_at, tells-machine_of}}

-- a map whose keys are below a bound has no more keys than the bound
few_keys :
    {X : Type 0} (numbers : ℕ) (m : FinMap id_cmp X) → ((id : ObjId) → IsSome (finite.get m id) → id.0 < numbers)
    → finite.len m ≤ numbers
few_keys {X} zero m below =
    let none : m ≡ finite.empty =
    finite.same_map id_total id_apart m finite.empty
    (λ q. vacant q (finite.get m q) (below q) ∙ sym (finite.get-empty id_cmp q)) in
    let length_is : finite.len m ≡ 0 = ap finite.len none ∙ finite.len-empty id_cmp X in
    omega (arith, length_is)
  where
    vacant : (q : ObjId) (o : Option X) → (IsSome o → q.0 < 0) → o ≡ None
    vacant q None below = refl
    vacant q (Some x) below = let less = below refl in absurd (omega (arith, less))
few_keys {X} (suc numbers) m below =
    let last : ObjId = record { 0 = numbers } in
    let rest : FinMap id_cmp X = finite.remove m last in
    let few : finite.len rest ≤ numbers = few_keys numbers rest (λ q some. lower q some) in
    by_listed (finite.contains_key m last) (finite.len m) (finite.len rest) (finite.len-remove id_total m last) few
  where
    lower : (q : ObjId) → IsSome (finite.get (finite.remove m (record { 0 = numbers })) q) → q.0 < numbers
    lower q some =
        let last : ObjId = record { 0 = numbers } in
        elim (cases_id q last) [
          | inl same ↦
              absurd
              (some-none _ some
              (finite.get-remove id_total m last q ∙ ap (λ k. cond (same_id k last) None (finite.get m q)) same
              ∙ cond_here id_total id_apart last _ _))
          | inr apart ↦
              let less : q.0 < suc numbers =
              below q (subst IsSome (finite.get-remove id_total m last q ∙ cond_elsewhere id_total id_apart q last _ _ apart) some) in
              let differs : q.0 ≡ numbers → ⊥ = λ same. apart (ap (λ n. record { 0 = n }) same) in
              omega (arith, less, differs)
        ]

    by_listed :
        (listed : Bool) (was now : ℕ) → now ≡ cond listed (was - 1) was → now ≤ numbers → was ≤ suc numbers
    by_listed true was now is few = omega (arith, is, few)
    by_listed false was now is few = omega (arith, is, few)

-- a number of objects has no more slots than as many CNodes can have
all_slots :
    (entry : ObjId → Option Entry) → ((id : ObjId) (e : Entry) → entry id ≡ Some e → length e.slots ≤ 2 ^ 12) → (ids : List ObjId)
    → length (flat_map (λ id. slots_of id (entry id)) ids) ≤ length ids * 2 ^ 12
all_slots entry few [] = omega arith
all_slots entry few (id ∷ ids) =
    let joined = length-append (slots_of id (entry id)) (flat_map (λ id. slots_of id (entry id)) ids) in
    let here : length (slots_of id (entry id)) ≤ 2 ^ 12 = by_entry (entry id) refl in
    let rest = all_slots entry few ids in
    omega (arith, joined, here, rest)
  where
    by_entry : (o : Option Entry) → entry id ≡ o → length (slots_of id o) ≤ 2 ^ 12
    by_entry None is = omega arith
    by_entry (Some e) is =
        let all = length-map-range_with_len {X = SlotRef} (λ index. record { holder = id; index = index }) 0 (length e.slots) in
        let fits = few id e is in
        omega (arith, all, fits)

pub caps_bounded : (s : Inside) → IsConsistent s → (id : ObjId) → caps_to (machine_of s) id ≤ 2 ^ 48 * 2 ^ 12
unfolding machine_of
caps_bounded s consistent id =
    let ids : List ObjId = finite.keys s.store in
    let few = caps_to-few (machine_of s) id in
    let listed =
    len-tabulate slot_total slot_apart (λ slot. cap_in (slot_at (entry_of s.store) slot))
    (flat_map (λ id. slots_of id (entry_of s.store id)) ids) in
    let slots = all_slots (entry_of s.store) sized ids in
    let numbered : finite.len s.store ≤ s.next = few_keys s.next s.store consistent.fresh in
    let keys : length ids ≡ finite.len s.store = length-map (finite.entries s.store) (λ e. e.0) ∙ sym (finite.len-entries s.store) in
    let bounded = consistent.bounded in
    omega (arith, few, listed, slots, numbered, keys, bounded)
  where
    sized : (id : ObjId) (e : Entry) → entry_of s.store id ≡ Some e → length e.slots ≤ 2 ^ 12
    sized id e is =
        let its = consistent.sized id e is in
        let fits = few_slots e.object its.1 in
        omega (arith, its.0, fits)

-- an object for which some capability is counted is there
counted_there : (o : Option Entry) → 1 ≤ caps_in o → IsSome o
counted_there None some = absurd (omega (arith, some))
counted_there (Some e) some = refl

pub held_there :
    (s : Inside) → IsSound s → (slot : SlotRef) (held : Cap) → cap_of (machine_of s) slot ≡ Some held
    → IsSome (entry_of s.store held.object)
held_there s sound slot held filled =
    let some = caps_to-some (machine_of s) slot held filled in
    let tallied = sound.tallied held.object in
    counted_there (entry_of s.store held.object) (omega (arith, some, tallied))

pub caps_for_objects :
    (s : Inside) → IsSound s → (slot : SlotRef) (held : Cap) → cap_of (machine_of s) slot ≡ Some held
    → IsSome (object_of (machine_of s) held.object)
caps_for_objects s sound slot held filled =
    subst IsSome (sym ((tells-machine_of s).objects held.object))
    (some_object (entry_of s.store held.object) (held_there s sound slot held filled))
  where
    some_object : (o : Option Entry) → IsSome o → IsSome (object_at o)
    some_object None some = absurd (false≢true some)
    some_object (Some e) some = refl
