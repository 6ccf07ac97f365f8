-- That the test whether a slot descends from another decides it.
use Rattle.std.specs.{Bool.Decides, FinMap.{contains_key-keys, keys}, List.list_any, Prelude.{◌||◌, None, Option, Some, is_some}}
use Rattle.std.proofs.{Common.{◌∙◌, ◌≡◌, Bool, List, ap, false, not, refl, sym, true}, lemmas.Bool.false≢true}
use Rattle.base.specs.declared.ids.SlotRef.{SlotRef}
use Rattle.machine.specs.{Below.{has_parent_below, is_below, is_child_beside}, Machine.{Machine, parent_of, same_slot}}
use Rattle.machine.{specs.{Rounds.staying, WellFormed.{Descends, child, further}}, proofs.{Exchange.slot_itself, LookUps.one_slot}}
use Rattle.machine.proofs.RoundLemmas.{both_pass, leaves, not_passes, or_second, stays}

pub parent_listed : (m : Machine) (slot : SlotRef) → is_some (parent_of m slot) ≡ list_any (same_slot slot) (keys m.parents)
unfolding parent_of
parent_listed m slot = contains_key-keys m.parents slot

module _ (m : Machine) (above : SlotRef) where
  abbrev others : List SlotRef
  others = staying (has_parent_below m above) (keys m.parents)

  abbrev Out : List SlotRef → Type 0
  Out left =
      (x : SlotRef) → list_any (same_slot x) (keys m.parents) ≡ true → list_any (same_slot x) left ≡ false → Descends m x above

  child_descends : (left : List SlotRef) → Out left → (slot : SlotRef) → is_child_beside m left slot ≡ true → Descends m slot above
  child_descends left out slot is =
      let parts : (is_some (parent_of m slot) ≡ true) × (not (list_any (same_slot slot) left) ≡ true) = both_pass _ _ is in
      out slot (sym (parent_listed m slot) ∙ parts.0) (not_passes _ parts.1)

  falls_descends :
      (left : List SlotRef) → Out left → (slot : SlotRef) → list_any (same_slot slot) (keys m.parents) ≡ true
      → has_parent_below m above left slot ≡ true → Descends m slot above
  falls_descends left out slot listed is = by_parent (parent_of m slot) refl where
    by_tie :
        (parent : SlotRef) → parent_of m slot ≡ Some parent → (tie : Bool) → same_slot parent above ≡ tie
        → (tie || is_child_beside m left parent) ≡ true → Descends m slot above
    by_tie parent e true same there = child (e ∙ ap Some (one_slot parent above same))
    by_tie parent e false same there = further e (child_descends left out parent there)

    by_parent : (over : Option SlotRef) → parent_of m slot ≡ over → Descends m slot above
    by_parent None e = absurd (false≢true (sym (rw e refl) ∙ is))
    by_parent (Some parent) e = by_tie parent e (same_slot parent above) refl (sym (rw e refl) ∙ is)

  -- a slot whose parent is `above` or below it doesn't stay among the others
  is_out : (slot : SlotRef) → has_parent_below m above others slot ≡ true → is_child_beside m others slot ≡ true
  is_out slot falls = by_parent (parent_of m slot) refl where
    by_place : (parent : SlotRef) → (stays_in : Bool) → list_any (same_slot slot) others ≡ stays_in → not stays_in ≡ true
    by_place parent true is =
        absurd (false≢true (sym (stays same_slot one_slot (has_parent_below m above) (keys m.parents) slot is) ∙ falls))
    by_place parent false is = refl

    by_parent : (over : Option SlotRef) → parent_of m slot ≡ over → is_child_beside m others slot ≡ true
    by_parent None e = absurd (false≢true (sym (rw e refl) ∙ falls))
    by_parent (Some parent) e = rw e (by_place parent (list_any (same_slot slot) others) refl)

  falls_when : (slot parent : SlotRef) → parent_of m slot ≡ Some parent → (same_slot parent above || is_child_beside m others parent) ≡ true → has_parent_below m above others slot ≡ true
  falls_when slot parent e is = rw e is

  descends_below : {slot : SlotRef} → Descends m slot above → is_child_beside m others slot ≡ true
  descends_below {slot} (child is) =
      is_out slot (falls_when slot above is (ap (λ tie. tie || is_child_beside m others above) (slot_itself above)))
  descends_below {slot} (further {parent = parent} is d) =
      is_out slot (falls_when slot parent is (or_second (same_slot parent above) _ (descends_below d)))

  pub below_decided : (slot : SlotRef) → Decides (is_below m above slot) (Descends m slot above)
  unfolding is_below
  below_decided slot = (child_descends others out slot, descends_below) where
    out : Out others
    out = leaves same_slot one_slot (has_parent_below m above) (keys m.parents) (λ x. Descends m x above) falls_descends
