-- A removal of one slot begins: the slot leaves the tree and is emptied, and the rest of the removal is under way.
use Rattle.std.{specs.Prelude.None, proofs.Common.{◌∙◌, ◌≡◌, ap, subst, true}}
use Rattle.base.specs.declared.ids.SlotRef.{SlotRef}
use Rattle.machine.specs.{Changes.with_none_going, Gone.given, Machine.{Machine, cap_of, parent_of, same_slot}}
use Rattle.machine.proofs.{FiniteLemmas.ties_itself, LookUps.{one_slot, slot_apart, slot_total}}
use Rattle.removal.{specs.UnderWay.{IsUnderWay, emptied}, proofs.{Beside.way_stays, Emptying.emptied_way, Ending.begun}}
use Rattle.removal.proofs.Turns.{emptied_there}

pub same_caps : (m next : Machine) → next ≡ record m { parents = next.parents } → (q : SlotRef) → cap_of next q ≡ cap_of m q
unfolding cap_of
same_caps m next same q = ap (λ (n : Machine). cap_of n q) same

pub same_parents : (m next : Machine) → next ≡ record m { caps = next.caps; going = next.going } → (q : SlotRef) → parent_of next q ≡ parent_of m q
unfolding parent_of
same_parents m next same q = ap (λ (n : Machine). parent_of n q) same

module _
    (m : Machine) (slot : SlotRef) (apart : Machine) (left : apart ≡ record (emptied (with_none_going m) slot) { parents = apart.parents }) where
  pub chosen_way : IsUnderWay m (same_slot slot) apart 0
  chosen_way =
      way_stays m (same_slot slot) (emptied (with_none_going m) slot) apart 0 left
      (emptied_way m (same_slot slot) 0 (with_none_going m) slot (begun m (same_slot slot)) (given (ties_itself slot_total slot_apart slot)))

  pub chosen_empty : (q : SlotRef) → same_slot slot q ≡ true → cap_of apart q ≡ None
  chosen_empty q same =
      same_caps (emptied (with_none_going m) slot) apart left q
      ∙ subst (λ (s : SlotRef). cap_of (emptied (with_none_going m) slot) s ≡ None) (one_slot slot q same)
      (emptied_there (with_none_going m) slot)
