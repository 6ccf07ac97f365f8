-- Look-ups after a slot is emptied: it is empty, and the other slots, the objects and the tree are as they were.
use Rattle.std.{specs.{FinMap.FinMap, Prelude.{◌==◌, None, Option, Some}}, proofs.Common.{◌∙◌, ◌≡◌, Bool, ap, cond, false, refl, sym, true}}
use Rattle.base.specs.declared.ids.{ObjId.ObjId, SlotRef.SlotRef}
use Rattle.machine.specs.{declared.cap.Cap.Cap, Changes.with_going, Counts.caps_to}
use Rattle.{machine.specs.Machine.{Machine, cap_of, parent_of, slot_cmp, without_cap}, removal.specs.UnderWay.emptied}

module _ (m : Machine) (slot : SlotRef) where
  pub rest-emptied : emptied m slot ≡ record m { caps = (emptied m slot).caps; going = (emptied m slot).going }
  unfolding emptied with_going without_cap
  rest-emptied = by_cap (cap_of m slot) refl where
    by_count :
        (id : ObjId) (b : Bool)
        → cond b (with_going (without_cap m slot) id) (without_cap m slot)
        ≡ record m {
          caps = (cond b (with_going (without_cap m slot) id) (without_cap m slot)).caps;
          going = (cond b (with_going (without_cap m slot) id) (without_cap m slot)).going;
        }
    by_count id true = refl
    by_count id false = refl

    by_cap :
        (found : Option Cap) → cap_of m slot ≡ found
        → emptied m slot ≡ record m { caps = (emptied m slot).caps; going = (emptied m slot).going }
    by_cap None is = rw is refl
    by_cap (Some held) is = rw is (by_count held.object (caps_to (without_cap m slot) held.object == 0))

  pub parents-emptied : (q : SlotRef) → parent_of (emptied m slot) q ≡ parent_of m q
  unfolding parent_of
  parents-emptied q = ap (λ (n : Machine). parent_of n q) rest-emptied

  -- a slot is emptied alike whatever the tree
  emptied_beside :
      (links : FinMap slot_cmp SlotRef) → emptied (record m { parents = links }) slot ≡ record (emptied m slot) { parents = links }
  unfolding emptied with_going without_cap cap_of caps_to
  emptied_beside links = by_cap (cap_of m slot) refl where
    by_count :
        (id : ObjId) (b : Bool)
        → cond b (with_going (without_cap (record m { parents = links }) slot) id) (without_cap (record m { parents = links }) slot)
        ≡ record (cond b (with_going (without_cap m slot) id) (without_cap m slot)) { parents = links }
    by_count id true = refl
    by_count id false = refl

    by_cap :
        (found : Option Cap) → cap_of m slot ≡ found
        → emptied (record m { parents = links }) slot ≡ record (emptied m slot) { parents = links }
    by_cap None is = rw is refl
    by_cap (Some held) is = rw is (by_count held.object (caps_to (without_cap m slot) held.object == 0))

-- a slot is emptied once it has left the tree
pub emptied_apart :
    (m apart next : Machine) (slot : SlotRef) → apart ≡ record m { parents = apart.parents } → next ≡ emptied apart slot
    → next ≡ record (emptied m slot) { parents = next.parents }
emptied_apart m apart next slot left is =
    let now : next ≡ record (emptied m slot) { parents = apart.parents } =
    is ∙ ap (λ (n : Machine). emptied n slot) left ∙ emptied_beside m slot apart.parents in
    now ∙ ap (λ (n : Machine). let changed : Machine = record (emptied m slot) { parents = n.parents } in changed) (sym now)
