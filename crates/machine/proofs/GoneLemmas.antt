-- The slots that go with chosen ones: they are the least closed set, and each of them goes for a reason.
use Rattle.std.specs.{Bool.Decides, FinMap.{contains_key-keys, keys}, List.list_any, Prelude.{◌&&◌, ◌||◌, None, Option, Some, is_some}}
use Rattle.std.proofs.{Common.{◌∙◌, ◌≡◌, Bool, List, ap, false, not, refl, subst, sym, true}, lemmas.Bool.false≢true}
use Rattle.base.specs.declared.ids.{ObjId.ObjId, SlotRef.SlotRef}
use Rattle.machine.specs.{declared.{cap.Cap.Cap, object.Object.{Object}}, Gone.{IsClosedSet, IsGone, IsLeastSet, LosesAll}}
use Rattle.machine.specs.Gone.{given, goes_beside, gone_of, has_slots, holders, is_filled_with, is_for, is_holder, loses_all, some_cap}
use Rattle.machine.specs.{Gone.{stays_for, with_last}, Machine.{Machine, cap_of, object_of, same_id, same_slot}, Rounds.staying}
use Rattle.machine.proofs.{FiniteLemmas.ties_itself, LookUps.{id_apart, id_total, one_id, one_slot}, RoundLemmas.{any_found, any_weaker}}
use Rattle.machine.proofs.RoundLemmas.{both_pass, into_filter, leaves, not_passes, or_second, stays}

pub id_itself : (id : ObjId) → same_id id id ≡ true
id_itself id = ties_itself id_total id_apart id

cap_listed : (m : Machine) (slot : SlotRef) (filling : Cap) → cap_of m slot ≡ Some filling → list_any (same_slot slot) (keys m.caps) ≡ true
unfolding cap_of
cap_listed m slot filling there = sym (contains_key-keys m.caps slot) ∙ ap is_some there

module _ (m : Machine) (test : SlotRef → Cap → Bool) where
  pub some_cap-from :
      (slot : SlotRef) (filling : Cap) → cap_of m slot ≡ Some filling → test slot filling ≡ true → some_cap m test ≡ true
  unfolding some_cap
  some_cap-from slot filling there passes =
      any_weaker (same_slot slot) (λ x. is_filled_with (test x) (cap_of m x)) (keys m.caps)
      (λ x tie. subst (λ (s : SlotRef). is_filled_with (test s) (cap_of m s) ≡ true) (one_slot slot x tie)
      (ap (is_filled_with (test slot)) there ∙ passes))
      (cap_listed m slot filling there)

  pub some_cap-found :
      some_cap m test ≡ true → (slot : SlotRef) × (filling : Cap) × (cap_of m slot ≡ Some filling) × (test slot filling ≡ true)
  unfolding some_cap
  some_cap-found e =
      let found : (slot : SlotRef) × (is_filled_with (test slot) (cap_of m slot) ≡ true) = any_found (λ x. is_filled_with (test x) (cap_of m x)) (keys m.caps) e in
      by_cap found.0 (cap_of m found.0) refl found.1 where
        by_cap :
            (slot : SlotRef) (filling : Option Cap) → cap_of m slot ≡ filling → is_filled_with (test slot) filling ≡ true
            → (at : SlotRef) × (its : Cap) × (cap_of m at ≡ Some its) × (test at its ≡ true)
        by_cap slot None there passes = absurd (false≢true passes)
        by_cap slot (Some filling) there passes = (slot, filling, there, passes)

module _ (m : Machine) (set : SlotRef → Bool) (id : ObjId) where
  loses_all-is : loses_all m set id ≡ true → LosesAll m set id
  loses_all-is e =
      let parts : (some_cap m (is_for id) ≡ true) × (not (some_cap m (stays_for set id)) ≡ true) = both_pass _ _ e in
      let found : (slot : SlotRef) × (filling : Cap) × (cap_of m slot ≡ Some filling) × (same_id filling.object id ≡ true) =
      some_cap-found m (is_for id) parts.0 in
      record {
        last = found.0;
        final = found.1;
        there = found.2;
        its_own = one_id found.1.object id found.3;
        all = λ slot filling there own. by_set slot filling there own (set slot) refl (not_passes _ parts.1);
      } where
        by_set :
            (slot : SlotRef) (filling : Cap) → cap_of m slot ≡ Some filling → filling.object ≡ id → (b : Bool) → set slot ≡ b
            → some_cap m (stays_for set id) ≡ false → b ≡ true
        by_set slot filling there own true is none = refl
        by_set slot filling there own false is none =
            sym none
            ∙ some_cap-from m (stays_for set id) slot filling there
            (ap (λ (x : ObjId). same_id x id && not (set slot)) own ∙ ap (λ tie. tie && not (set slot)) (id_itself id) ∙ ap not is)

  loses_all-from : LosesAll m set id → loses_all m set id ≡ true
  loses_all-from loses =
      ap (λ b. b && not (some_cap m (stays_for set id)))
      (some_cap-from m (is_for id) loses.last loses.final loses.there
      (ap (λ (x : ObjId). same_id x id) loses.its_own ∙ id_itself id))
      ∙ by_found (some_cap m (stays_for set id)) refl where
        by_found : (b : Bool) → some_cap m (stays_for set id) ≡ b → not b ≡ true
        by_found false e = refl
        by_found true e =
            let found : (slot : SlotRef) × (filling : Cap) × (cap_of m slot ≡ Some filling) × (stays_for set id slot filling ≡ true) =
            some_cap-found m (stays_for set id) e in
            let parts : (same_id found.1.object id ≡ true) × (not (set found.0) ≡ true) = both_pass _ _ found.3 in
            absurd
            (false≢true
            (sym (not_passes _ parts.1) ∙ loses.all found.0 found.1 found.2 (one_id found.1.object id parts.0)))

  pub losing_decided : Decides (loses_all m set id) (LosesAll m set id)
  losing_decided = (loses_all-is, loses_all-from)

-- what has a reason is in each closed set
within :
    (m : Machine) (chosen set : SlotRef → Bool) → IsClosedSet m chosen set → {slot : SlotRef} → IsGone m chosen slot
    → set slot ≡ true
within m chosen set closed (given {slot} is) = closed.holds slot is
within m chosen set closed (with_last {slot} holder last final there own all) =
    closed.closes slot holder
    (record {
      last = last;
      final = final;
      there = there;
      its_own = own;
      all = λ each also at its. within m chosen set closed (all each also at its);
    })

-- an object has a capability, and all its capabilities go
record AllGone (m : Machine) (chosen : SlotRef → Bool) (id : ObjId) : Type 0 where
  last : SlotRef
  final : Cap
  there : cap_of m last ≡ Some final
  its_own : final.object ≡ id
  all : (slot : SlotRef) (filling : Cap) → cap_of m slot ≡ Some filling → filling.object ≡ id → IsGone m chosen slot

holder_listed : (m : Machine) (id : ObjId) → is_holder m id ≡ true → list_any (same_id id) (holders m) ≡ true
unfolding holders object_of
holder_listed m id is =
    into_filter same_id one_id (is_holder m) (keys m.objects) id
    (sym (contains_key-keys m.objects id) ∙ present (object_of m id) is) is where
      present : (object : Option Object) → has_slots object ≡ true → is_some object ≡ true
      present None e = e
      present (Some object) e = refl

module _ (m : Machine) (chosen : SlotRef → Bool) where
  abbrev falls : List ObjId → ObjId → Bool
  falls left = loses_all m (goes_beside m chosen left)

  abbrev others : List ObjId
  others = staying falls (holders m)

  abbrev Out : List ObjId → Type 0
  Out left = (x : ObjId) → list_any (same_id x) (holders m) ≡ true → list_any (same_id x) left ≡ false → AllGone m chosen x

  sound_beside : (left : List ObjId) → Out left → (slot : SlotRef) → goes_beside m chosen left slot ≡ true → IsGone m chosen slot
  sound_beside left out slot e = by_chosen (chosen slot) refl e where
    by_chosen :
        (b : Bool) → chosen slot ≡ b → (b || is_holder m slot.holder && not (list_any (same_id slot.holder) left)) ≡ true
        → IsGone m chosen slot
    by_chosen true is there = given is
    by_chosen false is there =
        let parts : (is_holder m slot.holder ≡ true) × (not (list_any (same_id slot.holder) left) ≡ true) = both_pass _ _ there in
        let fallen : AllGone m chosen slot.holder = out slot.holder (holder_listed m slot.holder parts.0) (not_passes _ parts.1) in
        with_last parts.0 fallen.last fallen.final fallen.there fallen.its_own fallen.all

  falling :
      (left : List ObjId) → Out left → (id : ObjId) → list_any (same_id id) (holders m) ≡ true → falls left id ≡ true
      → AllGone m chosen id
  falling left out id listed e =
      let loses : LosesAll m (goes_beside m chosen left) id = (losing_decided m (goes_beside m chosen left) id).0 e in
      record {
        last = loses.last;
        final = loses.final;
        there = loses.there;
        its_own = loses.its_own;
        all = λ each also at its. sound_beside left out each (loses.all each also at its);
      }

  out_gone : Out others
  out_gone = leaves same_id one_id falls (holders m) (AllGone m chosen) falling

  closed_beside : IsClosedSet m chosen (goes_beside m chosen others)
  closed_beside =
      record {
        holds = λ slot is. ap (λ b. b || is_holder m slot.holder && not (list_any (same_id slot.holder) others)) is;
        closes =
            λ slot holder loses.
            or_second (chosen slot) _
            (ap (λ b. b && not (list_any (same_id slot.holder) others)) holder
            ∙ by_place slot loses (list_any (same_id slot.holder) others) refl);
      } where
        by_place :
            (slot : SlotRef) → LosesAll m (goes_beside m chosen others) slot.holder → (b : Bool)
            → list_any (same_id slot.holder) others ≡ b → not b ≡ true
        by_place slot loses false is = refl
        by_place slot loses true is =
            absurd
            (false≢true
            (sym (stays same_id one_id falls (holders m) slot.holder is)
            ∙ (losing_decided m (goes_beside m chosen others) slot.holder).1 loses))

  pub gone_decided : (slot : SlotRef) → Decides (gone_of m chosen slot) (IsGone m chosen slot)
  unfolding gone_of
  gone_decided slot = (sound_beside others out_gone slot, within m chosen (goes_beside m chosen others) closed_beside)

  pub gone_least : IsLeastSet m chosen (gone_of m chosen)
  unfolding gone_of
  gone_least =
      record {
        closed = closed_beside;
        least = λ other closed slot e. within m chosen other closed (sound_beside others out_gone slot e);
      }

-- an object that had a capability and doesn't lose all has one that stays
pub one_stays :
    (m : Machine) (set : SlotRef → Bool) (slot : SlotRef) (held : Cap) → cap_of m slot ≡ Some held
    → loses_all m set held.object ≡ false
    → (at : SlotRef) × (now : Cap) × (cap_of m at ≡ Some now) × (now.object ≡ held.object) × (set at ≡ false)
one_stays m set slot held there keeps = by_stay (some_cap m (stays_for set held.object)) refl where
  had : some_cap m (is_for held.object) ≡ true
  had = some_cap-from m (is_for held.object) slot held there (id_itself held.object)

  by_stay :
      (b : Bool) → some_cap m (stays_for set held.object) ≡ b
      → (at : SlotRef) × (now : Cap) × (cap_of m at ≡ Some now) × (now.object ≡ held.object) × (set at ≡ false)
  by_stay false none =
      absurd
      (false≢true
      (sym keeps ∙ ap (λ b. b && not (some_cap m (stays_for set held.object))) had ∙ ap not none))
  by_stay true some =
      let found : (at : SlotRef) × (now : Cap) × (cap_of m at ≡ Some now) × (stays_for set held.object at now ≡ true) =
      some_cap-found m (stays_for set held.object) some in
      let parts : (same_id found.1.object held.object ≡ true) × (not (set found.0) ≡ true) = both_pass _ _ found.3 in
      (found.0, found.1, found.2, one_id found.1.object held.object parts.0, not_passes _ parts.1)
