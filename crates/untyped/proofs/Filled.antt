-- Empty slots that are filled one after another.
use Rattle.std.{specs.Prelude.{IsSome, IsTrue, None, Option, Some}, proofs.Common.{◌∙◌, ◌≡◌, ◌≢◌, Bool, ap, cond, false, refl, subst, sym}}
use Rattle.{std.proofs.{Common.true, lemmas.{Bool.false≢true, Option.same_Some}}, base.specs.declared.ids.{ObjId.ObjId, SlotRef.SlotRef}}
use Rattle.machine.specs.{declared.cap.Cap.Cap, Machine.{Machine, cap_of, has_slot, object_of, parent_of, same_slot, with_cap, with_parent}}
use Rattle.machine.{specs.Tree.IsAlone, proofs.{Exchange.slot_itself, FiniteLemmas.cond_elsewhere}}
use Rattle.machine.proofs.LookUps.{cap_of-with_cap, cap_of-with_parent, object_of-with_cap, object_of-with_parent}
use Rattle.machine.proofs.LookUps.{one_slot, parent_of-with_cap, parent_of-with_parent, slot_apart, slot_total}

-- a slot that is in no pair of the tree is in none when it is filled
pub filled_alone : (m : Machine) (slot : SlotRef) (held : Cap) → IsAlone m slot → IsAlone (with_cap m slot held) slot
filled_alone m slot held alone =
    record {
      root = parent_of-with_cap m slot held slot ∙ alone.root;
      leaf = λ child is. alone.leaf child (sym (parent_of-with_cap m slot held child) ∙ is);
    }

pub filled_here : (m : Machine) (slot : SlotRef) (held : Cap) → IsSome (cap_of (with_cap m slot held) slot)
filled_here m slot held = rw (cap_of-with_cap m slot held slot, slot_itself slot) refl

pub filled_there :
    (m : Machine) (slot q : SlotRef) (held : Cap) → IsSome (cap_of m q) → IsSome (cap_of (with_cap m slot held) q)
filled_there m slot q held full =
    subst (λ (c : Option Cap). IsSome c) (sym (cap_of-with_cap m slot held q)) (by_tie (same_slot q slot))
  where
    by_tie : (tie : Bool) → IsSome (cond tie (Some held) (cap_of m q))
    by_tie true = refl
    by_tie false = full

module _ (m : Machine) (slot parent : SlotRef) (held : Cap) where
  abbrev filled : Machine
  filled = with_parent (with_cap m slot held) slot parent

  pub slot_stays : (q : SlotRef) → IsTrue (has_slot m q) → IsTrue (has_slot filled q)
  slot_stays q there =
      rw (object_of-with_parent (with_cap m slot held) slot parent q.holder, object_of-with_cap m slot held q.holder) there

  pub object_stays : (q : ObjId) → IsSome (object_of m q) → IsSome (object_of filled q)
  object_stays q there =
      rw (object_of-with_parent (with_cap m slot held) slot parent q, object_of-with_cap m slot held q) there

  pub filling_stays : (q : SlotRef) → IsSome (cap_of m q) → IsSome (cap_of filled q)
  filling_stays q full = rw (cap_of-with_parent (with_cap m slot held) slot parent q) (filled_there m slot q held full)

  pub other_stays : (q : SlotRef) → q ≢ slot → cap_of m q ≡ None → cap_of filled q ≡ None
  other_stays q apart empty =
      cap_of-with_parent (with_cap m slot held) slot parent q
      ∙ cap_of-with_cap m slot held q
      ∙ by_tie (same_slot q slot) refl
    where
      by_tie : (tie : Bool) → same_slot q slot ≡ tie → cond tie (Some held) (cap_of m q) ≡ None
      by_tie true is = absurd (apart (one_slot q slot is))
      by_tie false is = empty

  -- an empty slot stays in no pair of the tree: it isn't the one that is filled, nor its parent, which is filled
  pub alone_stays : IsSome (cap_of m parent) → (q : SlotRef) → q ≢ slot → cap_of m q ≡ None → IsAlone m q → IsAlone filled q
  alone_stays above q apart empty alone =
      record {
        root = paired q ∙ cond_elsewhere slot_total slot_apart q slot _ _ apart ∙ alone.root;
        leaf = λ child is. by_tie child (same_slot child slot) (sym (paired child) ∙ is);
      }
    where
      paired : (k : SlotRef) → parent_of filled k ≡ cond (same_slot k slot) (Some parent) (parent_of m k)
      paired k =
          parent_of-with_parent (with_cap m slot held) slot parent k
          ∙ ap (cond (same_slot k slot) (Some parent)) (parent_of-with_cap m slot held k)

      by_tie : (child : SlotRef) (tie : Bool) → cond tie (Some parent) (parent_of m child) ≡ Some q → ⊥
      by_tie child false is = alone.leaf child is
      by_tie child true is =
          let none : cap_of m parent ≡ None = ap (cap_of m) (same_Some parent q is) ∙ empty in
          false≢true (subst (λ (c : Option Cap). IsSome c) none above)
