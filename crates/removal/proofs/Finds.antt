-- All that goes in a removal has been found, once the chosen slots have left the tree and all that goes with them is empty.
use Rattle.std.{specs.Prelude.{None, Option, Some, if◌then◌else◌, is_some}, proofs.Common.{◌∙◌, ◌≡◌, Bool, ap, cond, false}}
use Rattle.{std.proofs.{Common.{refl, subst, sym, true}, lemmas.Bool.false≢true}, base.specs.declared.ids.SlotRef.SlotRef}
use Rattle.machine.specs.{Below.is_below, Gone.gone_of, Machine.{Machine, parent_of, same_slot}, Orphans.{Nearest, no_ancestor, survives}}
use Rattle.machine.{specs.WellFormed.{IsWellFormed, child, further}, proofs.{Exchange.slot_itself, GoneLemmas.gone_least, LookUps.one_slot}}
use Rattle.{steps.proofs.BelowLemmas.below_decided, objects.specs.Pairs.AreFilled}
use Rattle.derivation.specs.Removing.{HasParents, HaveLeft, parent_without}
use Rattle.derivation.proofs.{Leavings.{left_alike, left_alone, node_left}, Thinnings.{thinned_alike, thinned_at_first, thinned_where_left}}
use Rattle.removal.specs.{Sweeping.IsSwept, UnderWay.{AreEmptied, AreGoing}}

-- a machine with the tree of another
abbrev with_tree : Machine → Machine → Machine
with_tree m now = record m { parents = now.parents }

tree_of : (m now : Machine) (q : SlotRef) → parent_of (with_tree m now) q ≡ parent_of now q
unfolding parent_of
tree_of m now q = refl

pub finds :
    (m : Machine) (chosen : SlotRef → Bool) (now : Machine) → IsWellFormed m → AreEmptied m chosen now → AreGoing now
    → HaveLeft m (with_tree m now) chosen → IsSwept m chosen now
finds m chosen now formed emptied going left =
    let tree : Machine = with_tree m now in
    record {
      formed = formed;
      emptied = emptied;
      going = going;
      thinned =
          thinned_alike m (gone_of m chosen) tree
          (thinned_where_left m (gone_of m chosen) m (thinned_at_first m (gone_of m chosen)) tree chosen left
          (gone_least m chosen).closed.holds)
          now (λ q. sym (tree_of m now q));
      alone =
          λ slot is.
          let free = left_alone m tree chosen left slot is in
          record {
            root = sym (tree_of m now slot) ∙ free.root;
            leaf = λ child at. free.leaf child (tree_of m now child ∙ at);
          };
    }

-- all pairs are of filled slots before the removal
pub formed_filled : (m : Machine) → IsWellFormed m → AreFilled m
formed_filled m formed =
    record {
      below = λ slot parent at. ap is_some (formed.slots.child_filled slot parent at).1;
      above = λ slot parent at. ap is_some (formed.slots.parent_filled slot parent at).1;
    }

-- one slot has left the tree

same_turned : (a b : SlotRef) → same_slot a b ≡ same_slot b a
same_turned a b = by_ties (same_slot a b) (same_slot b a) refl refl where
  by_ties : (one other : Bool) → same_slot a b ≡ one → same_slot b a ≡ other → one ≡ other
  by_ties true true e f = refl
  by_ties false false e f = refl
  by_ties true false e f = absurd (false≢true (sym f ∙ subst (λ (s : SlotRef). same_slot b s ≡ true) (sym (one_slot a b e)) (slot_itself b)))
  by_ties false true e f = absurd (false≢true (sym e ∙ subst (λ (s : SlotRef). same_slot a s ≡ true) (sym (one_slot b a f)) (slot_itself a)))

pub one_found :
    (m : Machine) (slot : SlotRef) (now : Machine) → IsWellFormed m → AreEmptied m (same_slot slot) now → AreGoing now
    → ((q : SlotRef) → parent_of now q ≡ parent_without m slot q) → IsSwept m (same_slot slot) now
one_found m slot now formed emptied going parents =
    let has : HasParents m (with_tree m now) (parent_without m slot) =
    record { rest = refl; parents = λ q. tree_of m now q ∙ parents q } in
    finds m (same_slot slot) now formed emptied going
    (left_alike m (with_tree m now) (λ q. same_slot q slot) (same_slot slot) (λ q. same_turned q slot)
    (node_left m (with_tree m now) slot (λ at. formed.slots.acyclic slot (child at)) has))

-- all that descends from a slot has left the tree

pub below_found :
    (m : Machine) (above : SlotRef) (now : Machine) → IsWellFormed m → AreEmptied m (is_below m above) now → AreGoing now
    → ((q : SlotRef) → parent_of now q ≡ (if is_below m above q then None else parent_of m q)) → IsSwept m (is_below m above) now
below_found m above now formed emptied going parents =
    finds m (is_below m above) now formed emptied going
    (record {
      rest = refl;
      out = λ q is. tree_of m now q ∙ parents q ∙ ap (λ b. cond b None (parent_of m q)) is;
      up =
          λ q is.
          subst (λ (to : Option SlotRef). Nearest (parent_of m) (is_below m above) (parent_of m q) to)
          (sym (tree_of m now q ∙ parents q ∙ ap (λ b. cond b None (parent_of m q)) is)) (stays q is (parent_of m q) refl);
    })
  where
    -- a slot above one that doesn't descend doesn't descend either
    stays :
        (q : SlotRef) → is_below m above q ≡ false → (to : Option SlotRef) → parent_of m q ≡ to
        → Nearest (parent_of m) (is_below m above) to to
    stays q apart None at = no_ancestor
    stays q apart (Some parent) at = survives (by_place (is_below m above parent) refl) where
      by_place : (b : Bool) → is_below m above parent ≡ b → b ≡ false
      by_place false is = refl
      by_place true is =
          absurd (false≢true (sym apart ∙ (below_decided m above q).1 (further at ((below_decided m above parent).0 is))))
