-- The tree after a removal: once the chosen slots have left, only slots of the vanishing objects must still leave it.
use Rattle.std.specs.{List.list_any, Prelude.{◌↔◌, Contains, IsTrue, None, Option, Some, nat_lt, slice_index_or}}
use Rattle.std.proofs.Common.{[], ℕ, ◌&&◌, ◌<◌, ◌||◌, ◌∙◌, ◌∷◌, ◌≡◌, ◌⊎◌, Bool, List, ap, arith, false, inl, inr, length, refl, subst}
use Rattle.std.proofs.{Common.{suc, sym, true, zero}, lemmas.{Bool.{Decides.nat_tests, false≢true}, List.Elements.Contains-append_left}}
use Rattle.{std.proofs.lemmas.List.Elements.{Contains-append_right, Contains-push}, base.specs.declared.ids.{ObjId.ObjId, SlotRef.SlotRef}}
use Rattle.machine.specs.{declared.object.Object.{Object, Object as o}, Gone.{IsGone, given, gone_of, has_slots, with_last}}
use Rattle.machine.specs.{Machine.{Machine, has_slot, object_of, parent_of, same_id}, Removal.{parent_after, vanishes}, Tree.IsAlone}
use Rattle.machine.{specs.WellFormed.Descends, proofs.GoneLemmas.{gone_decided, gone_least, losing_decided}}
use Rattle.machine.proofs.{Ids.itself, LookUps.one_id, RoundLemmas.{both_pass, or_second}}
use Rattle.derivation.specs.{OwnSlots.{is_going_slot, is_slot_of}, Removing.HaveLeft, Thinning.IsThinned}
use Rattle.derivation.proofs.{Leavings.{alone_where_left, left_alone}, Thinnings.{thinned_out, thinned_where_left}}

-- a test finds an element of a list that passes, if there is one
pub any_listed :
    (test : ObjId → Bool) (ids : List ObjId) → list_any test ids ≡ true → (id : ObjId) × Contains ids id × (test id ≡ true)
any_listed test [] found = absurd (false≢true found)
any_listed test (first ∷ ids) found = by_test (test first) refl (any_listed test ids) where
  by_test :
      (b : Bool) → test first ≡ b → (list_any test ids ≡ true → (id : ObjId) × Contains ids id × (test id ≡ true))
      → (id : ObjId) × Contains (first ∷ ids) id × (test id ≡ true)
  by_test true is later =
      (first, Contains-append_left (first ∷ []) ids first (Contains-push [] first), is)
  by_test false is later =
      let more = later (sym (ap (λ b. b || list_any test ids) is) ∙ found) in
      (more.0, Contains-append_right (first ∷ []) ids more.0 more.1, more.2)

pub listed_any :
    (test : ObjId → Bool) (ids : List ObjId) (id : ObjId) → Contains ids id → test id ≡ true → list_any test ids ≡ true
listed_any test [] id there passes = let less : there.0 < 0 = there.1 in absurd (omega arith)
listed_any test (first ∷ ids) id there passes = by_place there.0 there.1 there.2 (listed_any test ids id) where
  by_place :
      (k : ℕ) → k < length (first ∷ ids) → slice_index_or (first ∷ ids) k id ≡ id
      → (Contains ids id → test id ≡ true → list_any test ids ≡ true)
      → (test first || list_any test ids) ≡ true
  by_place zero less at later = ap (λ b. b || list_any test ids) (ap test at ∙ passes)
  by_place (suc k) less at later = or_second (test first) (list_any test ids) (later (k, omega arith, at) passes)

-- a slot of an object that is going is there, and its holder is listed
module _ (m : Machine) (slot : SlotRef) (is : is_going_slot m slot ≡ true) where
  found : (id : ObjId) × Contains m.going id × (is_slot_of m id slot ≡ true)
  found = any_listed (λ id. is_slot_of m id slot) m.going is

  parts : (same_id slot.holder found.0 ≡ true) × (has_slot m slot ≡ true)
  parts = both_pass (same_id slot.holder found.0) (has_slot m slot) found.2

  going_there : has_slot m slot ≡ true
  going_there = parts.1

  pub going_listed : Contains m.going slot.holder
  going_listed = subst (λ (id : ObjId). Contains m.going id) (sym (one_id slot.holder found.0 parts.0)) found.1

-- an object that has a slot has slots
none_less : (a : ℕ) → nat_lt a 0 ≡ true → ⊥
none_less a less = grind (arith, nat_tests)

holds_slots : (m : Machine) (slot : SlotRef) → has_slot m slot ≡ true → has_slots (object_of m slot.holder) ≡ true
holds_slots m slot there = by_object (object_of m slot.holder) refl where
  by_object : (object : Option Object) → object_of m slot.holder ≡ object → has_slots object ≡ true
  by_object (Some (o.CNode node)) at = refl
  by_object (Some (o.Tcb thread)) at = refl
  by_object None at = rw at at there
  by_object (Some object) at = absurd (none_less slot.index (rw at at there))

-- a slot that isn't there is alone
not_there_alone :
    (m : Machine) → ((slot parent : SlotRef) → parent_of m slot ≡ Some parent → IsTrue (has_slot m slot))
    → ((slot parent : SlotRef) → parent_of m slot ≡ Some parent → IsTrue (has_slot m parent)) → (slot : SlotRef)
    → has_slot m slot ≡ false → IsAlone m slot
not_there_alone m below above slot missing =
    record {
      root = by_parent (parent_of m slot) refl;
      leaf = λ child at. false≢true (sym missing ∙ above child slot at);
    } where
      by_parent : (parent : Option SlotRef) → parent_of m slot ≡ parent → parent ≡ None
      by_parent None at = refl
      by_parent (Some parent) at = absurd (false≢true (sym missing ∙ below slot parent at))

-- a slot goes since it is chosen, or since its holder vanishes
goes_by :
    (m : Machine) (chosen : SlotRef → Bool) {slot : SlotRef} → IsGone m chosen slot
    → (chosen slot ≡ true) ⊎ (vanishes m chosen slot.holder ≡ true)
goes_by m chosen (given is) = inl is
goes_by m chosen (with_last {slot} holder last final there own all) =
    inr
    ((losing_decided m (gone_of m chosen) slot.holder).1
    (record {
      last = last;
      final = final;
      there = there;
      its_own = own;
      all = λ each held at is. (gone_decided m chosen each).1 (all each held at is);
    }))

module _ (m now : Machine) (chosen : SlotRef → Bool) (acyclic : (slot : SlotRef) → ¬ (Descends m slot slot))
    (thin : IsThinned m (gone_of m chosen) now) (objects : (id : ObjId) → object_of now id ≡ object_of m id)
    (going : (id : ObjId) → Contains now.going id ↔ (vanishes m chosen id ≡ true))
    (alone : (slot : SlotRef) → chosen slot ≡ true → IsAlone now slot)
    (below : (slot parent : SlotRef) → parent_of now slot ≡ Some parent → IsTrue (has_slot now slot))
    (above : (slot parent : SlotRef) → parent_of now slot ≡ Some parent → IsTrue (has_slot now parent)) where
  -- the slots of the objects that are going go
  pub going_slot_goes : (slot : SlotRef) → is_going_slot now slot ≡ true → gone_of m chosen slot ≡ true
  going_slot_goes slot is =
      (gone_least m chosen).closed.closes slot
      (ap has_slots (sym (objects slot.holder)) ∙ holds_slots now slot (going_there now slot is))
      ((losing_decided m (gone_of m chosen) slot.holder).0 ((going slot.holder).0 (going_listed now slot is)))

  -- a slot that goes by its holder is of an object that is going, or in no pair
  pub there_or_alone :
      (slot : SlotRef) (there : Bool) → has_slot now slot ≡ there → vanishes m chosen slot.holder ≡ true
      → (is_going_slot now slot ≡ true) ⊎ IsAlone now slot
  there_or_alone slot true at gone =
      inl
      (listed_any (λ id. is_slot_of now id slot) now.going slot.holder ((going slot.holder).1 gone)
      (ap (λ tie. tie && has_slot now slot) (itself slot.holder) ∙ at))
  there_or_alone slot false at gone = inr (not_there_alone now below above slot at)

  goes_or_alone : (slot : SlotRef) → gone_of m chosen slot ≡ true → (is_going_slot now slot ≡ true) ⊎ IsAlone now slot
  goes_or_alone slot goes =
      elim (goes_by m chosen ((gone_decided m chosen slot).0 goes)) [
        | inl is ↦ inr (alone slot is)
        | inr gone ↦ there_or_alone slot (has_slot now slot) refl gone
      ]

  -- each slot has the parent that the removal gives it, once these slots have left
  module _ (next : Machine) (left : HaveLeft now next (is_going_slot now)) where
    all_alone : (slot : SlotRef) → gone_of m chosen slot ≡ true → IsAlone next slot
    all_alone slot goes =
        elim (goes_or_alone slot goes) [
          | inl is ↦ left_alone now next (is_going_slot now) left slot is
          | inr free ↦ alone_where_left now next (is_going_slot now) left slot free
        ]

    pub tree_after : (slot : SlotRef) → parent_of next slot ≡ parent_after m (gone_of m chosen) slot
    tree_after slot =
        thinned_out m (gone_of m chosen) next
        (thinned_where_left m (gone_of m chosen) now thin next (is_going_slot now) left going_slot_goes) acyclic all_alone slot
