-- Slots leave an acyclic tree one by one, in any order: each that stays comes under its nearest ancestor that stays.
use Rattle.std.specs.{FinMap.{Entries.find, entries, get-entries, values}, List.list_any, Prelude.{◌||◌, None, Option, Some, filter}}
use Rattle.std.{specs.Prelude.option_and_then, proofs.Common.{[], ◌∙◌, ◌∷◌, ◌≡◌, Bool, List, ap, cond, false, map, refl, subst, sym, true}}
use Rattle.{std.proofs.lemmas.{Bool.false≢true, Option.{none-some, same_Some}}, base.specs.declared.ids.SlotRef.SlotRef}
use Rattle.machine.specs.Machine.{Machine, parent_of, same_slot, slot_cmp}
use Rattle.machine.specs.{Orphans.{Nearest, climbs, no_ancestor, past, survives, without_nodes}, WellFormed.{Descends, child, further}}
use Rattle.machine.proofs.{Exchange.slot_itself, LookUps.one_slot, RoundLemmas.{in_filter, into_filter, or_second}}

abbrev taken : List SlotRef → SlotRef → Bool
taken nodes slot = list_any (same_slot slot) nodes

-- the tree after these slots have left it
record IsRaised (parent : SlotRef → Option SlotRef) (nodes : List SlotRef) : Type 0 where
  out : (slot : SlotRef) → taken nodes slot ≡ true → without_nodes parent nodes slot ≡ None
  up : (slot : SlotRef) → taken nodes slot ≡ false → Nearest parent (taken nodes) (parent slot) (without_nodes parent nodes slot)

module _ (parent : SlotRef → Option SlotRef) (apart : (gone : SlotRef → Bool) (slot : SlotRef) → ¬ (Nearest parent gone (parent slot) (Some slot))) where
  module _ (nodes : List SlotRef) (node : SlotRef) (raised : IsRaised parent nodes) where
    -- one more leaves, and no way ends at it
    widen : {from to : Option SlotRef} → Nearest parent (taken nodes) from to → ¬ (to ≡ Some node) → Nearest parent (taken (node ∷ nodes)) from to
    widen no_ancestor differs = no_ancestor
    widen (climbs {slot} is rest) differs = climbs (or_second (same_slot slot node) (taken nodes slot) is) (widen rest differs)
    widen (survives {slot} is) differs = survives (by_tie (same_slot slot node) refl) where
      by_tie : (tie : Bool) → same_slot slot node ≡ tie → (tie || taken nodes slot) ≡ false
      by_tie true same = absurd (differs (ap Some (one_slot slot node same)))
      by_tie false same = is

    -- a way that ended at it goes on
    raise :
        {from to : Option SlotRef} → Nearest parent (taken nodes) from to
        → Nearest parent (taken (node ∷ nodes)) from (option_and_then (past node (without_nodes parent nodes node)) to)
    raise no_ancestor = no_ancestor
    raise (climbs {slot} is rest) = climbs (or_second (same_slot slot node) (taken nodes slot) is) (raise rest)
    raise (survives {slot} is) = by_tie (same_slot slot node) refl where
      ends : ¬ (without_nodes parent nodes node ≡ Some node)
      ends e =
          apart (taken nodes) node
          (subst (λ (to : Option SlotRef). Nearest parent (taken nodes) (parent node) to) e
          (raised.up node (by_place (taken nodes node) refl))) where
            by_place : (b : Bool) → taken nodes node ≡ b → b ≡ false
            by_place false at = refl
            by_place true at = absurd (none-some node (sym (raised.out node at) ∙ e))

      by_tie :
          (tie : Bool) → same_slot slot node ≡ tie
          → Nearest parent (taken (node ∷ nodes)) (Some slot) (cond tie (without_nodes parent nodes node) (Some slot))
      by_tie false same = survives (ap (λ tie. tie || taken nodes slot) same ∙ is)
      by_tie true same =
          climbs (ap (λ tie. tie || taken nodes slot) same)
          (subst (λ (s : SlotRef). Nearest parent (taken (node ∷ nodes)) (parent s) (without_nodes parent nodes node))
          (sym (one_slot slot node same))
          (widen (raised.up node (sym (ap (taken nodes) (one_slot slot node same)) ∙ is)) ends))

    one_more : IsRaised parent (node ∷ nodes)
    unfolding without_nodes
    one_more =
        record {
          out = λ slot there. by_tie slot (same_slot slot node) there;
          up = λ slot not_there. by_place slot (same_slot slot node) refl not_there;
        } where
          by_tie :
              (slot : SlotRef) (tie : Bool) → (tie || taken nodes slot) ≡ true
              → cond tie None (option_and_then (past node (without_nodes parent nodes node)) (without_nodes parent nodes slot)) ≡ None
          by_tie slot true there = refl
          by_tie slot false there = ap (option_and_then (past node (without_nodes parent nodes node))) (raised.out slot there)

          by_place :
              (slot : SlotRef) (tie : Bool) → same_slot slot node ≡ tie → (tie || taken nodes slot) ≡ false
              → Nearest parent (taken (node ∷ nodes)) (parent slot)
              (cond tie None (option_and_then (past node (without_nodes parent nodes node)) (without_nodes parent nodes slot)))
          by_place slot true same not_there = absurd (false≢true (sym not_there))
          by_place slot false same not_there = raise (raised.up slot not_there)

  all_raised : (nodes : List SlotRef) → IsRaised parent nodes
  unfolding without_nodes
  all_raised [] = record { out = λ slot there. absurd (false≢true there); up = λ slot not_there. at_once (parent slot) } where
    at_once : (to : Option SlotRef) → Nearest parent (taken []) to to
    at_once None = no_ancestor
    at_once (Some to) = survives refl
  all_raised (node ∷ nodes) = one_more nodes node (all_raised nodes)

-- a way up a tree
pub climbed :
    (m : Machine) (gone : SlotRef → Bool) (low : SlotRef) {from : Option SlotRef} {to : SlotRef}
    → Nearest (parent_of m) gone from (Some to) → parent_of m low ≡ from → Descends m low to
climbed m gone low (survives is) e = child e
climbed m gone low (climbs {slot} is rest) e = further e (climbed m gone slot rest refl)

-- sets that agree on all parents give the same ways
alike :
    (parent : SlotRef → Option SlotRef) (one other : SlotRef → Bool)
    → ((low slot : SlotRef) → parent low ≡ Some slot → one slot ≡ other slot) → (low : SlotRef) {from to : Option SlotRef}
    → Nearest parent one from to → parent low ≡ from → Nearest parent other from to
alike parent one other same low no_ancestor e = no_ancestor
alike parent one other same low (survives {slot} is) e = survives (sym (same low slot e) ∙ is)
alike parent one other same low (climbs {slot} is rest) e =
    climbs (sym (same low slot e) ∙ is) (alike parent one other same slot rest refl)

value_listed :
    (pairs : List (SlotRef × SlotRef)) (q slot : SlotRef) → find slot_cmp q pairs ≡ Some slot
    → list_any (same_slot slot) (map (λ pair. pair.1) pairs) ≡ true
value_listed [] q slot e = absurd (none-some slot e)
value_listed (pair ∷ pairs) q slot e = by_tie (same_slot q pair.0) e (value_listed pairs q slot) where
  by_tie :
      (tie : Bool) → cond tie (Some pair.1) (find slot_cmp q pairs) ≡ Some slot
      → (find slot_cmp q pairs ≡ Some slot → list_any (same_slot slot) (map (λ p. p.1) pairs) ≡ true)
      → (same_slot slot pair.1 || list_any (same_slot slot) (map (λ p. p.1) pairs)) ≡ true
  by_tie true is later =
      ap (λ tie. tie || list_any (same_slot slot) (map (λ p. p.1) pairs))
      (subst (λ (s : SlotRef). same_slot slot s ≡ true) (sym (same_Some pair.1 slot is)) (slot_itself slot))
  by_tie false is later = or_second (same_slot slot pair.1) _ (later is)

parent_is_value :
    (m : Machine) (low slot : SlotRef) → parent_of m low ≡ Some slot → list_any (same_slot slot) (values m.parents) ≡ true
unfolding parent_of
parent_is_value m low slot e = value_listed (entries m.parents) low slot (sym (get-entries m.parents low) ∙ e)

module _ (m : Machine) (acyclic : (slot : SlotRef) → ¬ (Descends m slot slot)) (gone : SlotRef → Bool) where
  abbrev leaving : List SlotRef
  leaving = filter gone (values m.parents)

  not_leaving : (slot : SlotRef) → gone slot ≡ false → taken leaving slot ≡ false
  not_leaving slot stays = by_place (taken leaving slot) refl where
    by_place : (b : Bool) → taken leaving slot ≡ b → b ≡ false
    by_place false is = refl
    by_place true is = sym (in_filter same_slot one_slot gone (values m.parents) slot is) ∙ stays

  leaving_gone : (low slot : SlotRef) → parent_of m low ≡ Some slot → taken leaving slot ≡ gone slot
  leaving_gone low slot e = by_gone (gone slot) refl where
    by_gone : (b : Bool) → gone slot ≡ b → taken leaving slot ≡ b
    by_gone true is = into_filter same_slot one_slot gone (values m.parents) slot (parent_is_value m low slot e) is
    by_gone false is = not_leaving slot is

  pub nearest_stays :
      (slot : SlotRef) → gone slot ≡ false
      → Nearest (parent_of m) gone (parent_of m slot) (without_nodes (parent_of m) leaving slot)
  nearest_stays slot stays =
      alike (parent_of m) (taken leaving) gone leaving_gone slot
      ((all_raised (parent_of m) (λ set low way. acyclic low (climbed m set low way refl)) leaving).up slot
      (not_leaving slot stays)) refl

-- a slot without a parent gets none
pub rootless :
    (parent : SlotRef → Option SlotRef) (nodes : List SlotRef) (slot : SlotRef) → parent slot ≡ None
    → without_nodes parent nodes slot ≡ None
unfolding without_nodes
rootless parent [] slot e = e
rootless parent (node ∷ nodes) slot e = by_tie (same_slot slot node) (rootless parent nodes slot e) where
  by_tie :
      (tie : Bool) → without_nodes parent nodes slot ≡ None
      → cond tie None (option_and_then (past node (without_nodes parent nodes node)) (without_nodes parent nodes slot)) ≡ None
  by_tie true none = refl
  by_tie false none = ap (option_and_then (past node (without_nodes parent nodes node))) none
