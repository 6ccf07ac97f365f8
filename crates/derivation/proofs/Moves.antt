-- A place in the derivation tree that is taken over in two steps: together they exchange the two slots.
use Rattle.std.{specs.FinMap.{Entries.find, entries, get-entries, get-from_entries}, proofs.Common.{[], ◌∙◌, ◌∷◌, ◌≡◌, ◌≢◌, Bool}}
use Rattle.std.proofs.Common.{IsSome, IsTrue, List, None, Option, Some, ap, cond, false, if◌then◌else◌, map, option_map, refl, sym, true}
use Rattle.{std.proofs.lemmas.{Bool.false≢true, Option.same_Some}, base.specs.declared.ids.{ObjId.ObjId, SlotRef.SlotRef}}
use Rattle.machine.specs.{declared.cap.Cap.Cap, Machine.{Machine, cap_of, has_slot, object_of, parent_of, queue_of, same_slot}}
use Rattle.machine.specs.{Machine.{slot_cmp, with_parent, without_parent, words_of}, Tree.{IsAlone, exchange, under, with_exchanged}}
use Rattle.machine.proofs.Exchange.{exchange_twice, parent_of-with_exchanged, slot_itself}
use Rattle.machine.proofs.LookUps.{object_of-with_parent, one_slot, parent_of-with_parent, same_machine, slot_total}
use Rattle.objects.{specs.Pairs.IsFilledOrGoing, proofs.PairLemmas.{place-with_parent, place-without_parent}}
use Rattle.derivation.{specs.Moving.{handed_over, in_place, lifted}, proofs.Pairs.{apart_slots, parent_of-without_parent}}

-- a change of each value changes what is found
find_in_place :
    (f : SlotRef → SlotRef) (q : SlotRef) (pairs : List (SlotRef × SlotRef))
    → find slot_cmp q (map (λ pair. (pair.0, f pair.1)) pairs) ≡ option_map f (find slot_cmp q pairs)
find_in_place f q [] = refl
find_in_place f q (pair ∷ pairs) =
    ap (cond (same_slot q pair.0) (Some (f pair.1))) (find_in_place f q pairs) ∙ by_tie (same_slot q pair.0) where
      by_tie :
          (tie : Bool)
          → cond tie (Some (f pair.1)) (option_map f (find slot_cmp q pairs))
          ≡ option_map f (cond tie (Some pair.1) (find slot_cmp q pairs))
      by_tie true = refl
      by_tie false = refl

-- who had the one parent has the other, and all else is as it was
pub parent_of-handed_over :
    (m : Machine) (from to q : SlotRef) → parent_of (handed_over m from to) q ≡ option_map (in_place from to) (parent_of m q)
unfolding parent_of handed_over
parent_of-handed_over m from to q =
    get-from_entries slot_total (map (λ pair. (pair.0, in_place from to pair.1)) (entries m.parents)) q
    ∙ find_in_place (in_place from to) q (entries m.parents)
    ∙ ap (option_map (in_place from to)) (sym (get-entries m.parents q))

-- either of the two leads to the second
in_place-to : (from to : SlotRef) → in_place from to to ≡ to
in_place-to from to = by_tie (same_slot to from) where
  by_tie : (tie : Bool) → (if tie then to else to) ≡ to
  by_tie true = refl
  by_tie false = refl

pub in_place-from : (from to : SlotRef) → in_place from to from ≡ to
in_place-from from to = ap (λ tie. if tie then to else from) (slot_itself from)

-- a child that comes from one parent to the other makes no difference once all have been handed over
pub handed_over-step :
    (m : Machine) (from to child : SlotRef) → parent_of m child ≡ Some from
    → handed_over (with_parent (without_parent m child) child to) from to ≡ handed_over m from to
unfolding handed_over with_parent without_parent object_of queue_of words_of cap_of
handed_over-step m from to child is =
    same_machine (handed_over (with_parent (without_parent m child) child to) from to) (handed_over m from to) (λ q. refl) (λ q. refl)
    (λ q. refl) (λ q. refl) same refl refl where
      by_tie :
          (q : SlotRef) (tie : Bool) → same_slot q child ≡ tie
          → option_map (in_place from to) (cond tie (Some to) (cond tie None (parent_of m q)))
          ≡ option_map (in_place from to) (parent_of m q)
      by_tie q true at =
          ap Some (in_place-to from to ∙ sym (in_place-from from to))
          ∙ ap (option_map (in_place from to)) (sym is ∙ ap (parent_of m) (sym (one_slot q child at)))
      by_tie q false at = refl

      same :
          (q : SlotRef)
          → parent_of (handed_over (with_parent (without_parent m child) child to) from to) q ≡ parent_of (handed_over m from to) q
      same q =
          parent_of-handed_over (with_parent (without_parent m child) child to) from to q
          ∙ ap (option_map (in_place from to))
          (parent_of-with_parent (without_parent m child) child to q
          ∙ ap (cond (same_slot q child) (Some to)) (parent_of-without_parent m child q))
          ∙ by_tie q (same_slot q child) refl
          ∙ sym (parent_of-handed_over m from to q)

-- all have been handed over if no children are left
pub handed_over-none :
    (m : Machine) (from to : SlotRef) → ((child : SlotRef) → parent_of m child ≢ Some from) → handed_over m from to ≡ m
unfolding handed_over object_of queue_of words_of cap_of
handed_over-none m from to leaf =
    same_machine (handed_over m from to) m (λ q. refl) (λ q. refl) (λ q. refl) (λ q. refl)
    (λ q. parent_of-handed_over m from to q ∙ as_was (parent_of m q) (leaf q)) refl refl where
      as_was : (parent : Option SlotRef) → parent ≢ Some from → option_map (in_place from to) parent ≡ parent
      as_was None differs = refl
      as_was (Some parent) differs =
          ap (λ tie. Some (if tie then to else parent)) (apart_slots parent from (λ same. differs (ap Some same)))

-- a slot that has no parent may come under one
parent_of-under :
    (m : Machine) (slot : SlotRef) (parent : Option SlotRef) (q : SlotRef) → parent_of m slot ≡ None
    → parent_of (under m slot parent) q ≡ cond (same_slot q slot) parent (parent_of m q)
parent_of-under m slot (Some parent) q root = parent_of-with_parent m slot parent q
parent_of-under m slot None q root = by_tie (same_slot q slot) refl where
  by_tie : (tie : Bool) → same_slot q slot ≡ tie → parent_of m q ≡ cond tie None (parent_of m q)
  by_tie true at = ap (parent_of m) (one_slot q slot at) ∙ root
  by_tie false at = refl

-- the parent of the one slot is that of the other, and all else is as it was
pub parent_of-lifted :
    (m : Machine) (from to q : SlotRef) → parent_of m to ≡ None
    → parent_of (lifted m from to) q ≡ cond (same_slot q to) (parent_of m from) (cond (same_slot q from) None (parent_of m q))
unfolding lifted
parent_of-lifted m from to q root =
    parent_of-under (without_parent m from) to (parent_of m from) q
    (parent_of-without_parent m from to ∙ by_tie (same_slot to from))
    ∙ ap (cond (same_slot q to) (parent_of m from)) (parent_of-without_parent m from q) where
      by_tie : (tie : Bool) → cond tie None (parent_of m to) ≡ None
      by_tie true = refl
      by_tie false = root

module _ (m : Machine) (from to : SlotRef) (alone : IsAlone m to) where
  -- a parent isn't the slot in no pair
  alike : (parent : Option SlotRef) → parent ≢ Some to → option_map (in_place from to) parent ≡ option_map (exchange from to) parent
  alike None differs = refl
  alike (Some parent) differs =
      ap (λ tie. Some (if same_slot parent from then to else if tie then from else parent))
      (sym (apart_slots parent to (λ same. differs (ap Some same))))

  -- by which of the two slots is asked for, the two steps tell what the exchange tells
  both_steps :
      (q : SlotRef) (a b : Bool) → same_slot q from ≡ a → same_slot q to ≡ b
      → option_map (in_place from to) (cond b (parent_of m from) (cond a None (parent_of m q)))
      ≡ option_map (exchange from to) (parent_of m (if a then to else if b then from else q))
  both_steps q true true at there =
      let one : from ≡ to = sym (one_slot q from at) ∙ one_slot q to there in
      ap (option_map (in_place from to)) (ap (parent_of m) one ∙ alone.root)
      ∙ ap (option_map (exchange from to)) (sym alone.root)
  both_steps q true false at there = ap (option_map (exchange from to)) (sym alone.root)
  both_steps q false true at there = alike (parent_of m from) (alone.leaf from)
  both_steps q false false at there = alike (parent_of m q) (alone.leaf q)

  -- so they leave the same pairs
  same_pairs : (q : SlotRef) → parent_of (handed_over (lifted m from to) from to) q ≡ parent_of (with_exchanged m from to) q
  same_pairs q =
      parent_of-handed_over (lifted m from to) from to q
      ∙ ap (option_map (in_place from to)) (parent_of-lifted m from to q alone.root)
      ∙ both_steps q (same_slot q from) (same_slot q to) refl refl
      ∙ sym (parent_of-with_exchanged m from to q)

  -- and what isn't pairs was never changed
  same_rest :
      (parent : Option SlotRef)
      → ((q : SlotRef)
      → parent_of (handed_over (under (without_parent m from) to parent) from to) q ≡ parent_of (with_exchanged m from to) q)
      → handed_over (under (without_parent m from) to parent) from to ≡ with_exchanged m from to
  unfolding handed_over with_exchanged with_parent without_parent object_of queue_of words_of cap_of
  same_rest None pairs =
      same_machine (handed_over (without_parent m from) from to) (with_exchanged m from to) (λ q. refl) (λ q. refl) (λ q. refl)
      (λ q. refl) pairs refl refl
  same_rest (Some parent) pairs =
      same_machine (handed_over (with_parent (without_parent m from) to parent) from to) (with_exchanged m from to) (λ q. refl)
      (λ q. refl) (λ q. refl) (λ q. refl) pairs refl refl

  -- with its parent and its children a place is taken over whole
  pub taken_over : handed_over (lifted m from to) from to ≡ with_exchanged m from to
  unfolding lifted
  taken_over = same_rest (parent_of m from) same_pairs

  -- a slot in no pair has no children, so one that has some is another
  pub apart_lifted : (child : SlotRef) → parent_of (lifted m from to) child ≡ Some from → from ≢ to
  apart_lifted child is same =
      by_tie (same_slot child to) (same_slot child from) (sym (parent_of-lifted m from to child alone.root) ∙ is) where
        root : parent_of m from ≡ None
        root = ap (parent_of m) same ∙ alone.root

        by_tie : (b a : Bool) → cond b (parent_of m from) (cond a None (parent_of m child)) ≡ Some from → ⊥
        by_tie true a there = cc (root, there)
        by_tie false true there = cc
        by_tie false false there = alone.leaf child (there ∙ ap Some same)

-- the pairs of a lifted slot by its parent
pub lifted-some :
    (m : Machine) (from to parent : SlotRef) → parent_of m from ≡ Some parent
    → lifted m from to ≡ with_parent (without_parent m from) to parent
unfolding lifted
lifted-some m from to parent is = ap (under (without_parent m from) to) is

pub lifted-none : (m : Machine) (from to : SlotRef) → parent_of m from ≡ None → lifted m from to ≡ without_parent m from
unfolding lifted
lifted-none m from to is = ap (under (without_parent m from) to) is

-- changes of pairs leave the capabilities
-- slots are there as before

object_of-without_parent : (m : Machine) (slot : SlotRef) (q : ObjId) → object_of (without_parent m slot) q ≡ object_of m q
unfolding object_of without_parent
object_of-without_parent m slot q = refl

pub slot_without_parent : (m : Machine) (slot q : SlotRef) → IsTrue (has_slot m q) → IsTrue (has_slot (without_parent m slot) q)
slot_without_parent m slot q there = rw (object_of-without_parent m slot q.holder) there

pub slot_with_parent : (m : Machine) (slot parent q : SlotRef) → IsTrue (has_slot m q) → IsTrue (has_slot (with_parent m slot parent) q)
slot_with_parent m slot parent q there = rw (object_of-with_parent m slot parent q.holder) there

pub slot_lifted : (m : Machine) (from to q : SlotRef) → IsTrue (has_slot m q) → IsTrue (has_slot (lifted m from to) q)
unfolding lifted
slot_lifted m from to q there = by_parent (parent_of m from) where
  by_parent : (parent : Option SlotRef) → IsTrue (has_slot (under (without_parent m from) to parent) q)
  by_parent None = slot_without_parent m from q there
  by_parent (Some parent) = slot_with_parent (without_parent m from) to parent q (slot_without_parent m from q there)

-- a filled slot is there
pub slot_filled :
    (m : Machine) (slot : SlotRef) → ((q : SlotRef) (held : Cap) → cap_of m q ≡ Some held → IsTrue (has_slot m q))
    → IsSome (cap_of m slot) → IsTrue (has_slot m slot)
slot_filled m slot in_slots filled = by_cap (cap_of m slot) refl filled where
  by_cap : (o : Option Cap) → cap_of m slot ≡ o → IsSome o → IsTrue (has_slot m slot)
  by_cap None is some = absurd (false≢true some)
  by_cap (Some held) is some = in_slots slot held is

-- where slots are filled or going they stay so
pub place_lifted : (m : Machine) (from to q : SlotRef) → IsFilledOrGoing m q → IsFilledOrGoing (lifted m from to) q
unfolding lifted
place_lifted m from to q so = by_parent (parent_of m from) where
  by_parent : (parent : Option SlotRef) → IsFilledOrGoing (under (without_parent m from) to parent) q
  by_parent None = place-without_parent m from q so
  by_parent (Some parent) = place-with_parent (without_parent m from) to parent q (place-without_parent m from q so)

-- a slot that has changed places with one in no pair is in none
pub exchanged_alone : (m : Machine) (from to : SlotRef) → IsAlone m to → IsAlone (with_exchanged m from to) from
exchanged_alone m from to alone =
    record {
      root = parent_of-with_exchanged m from to from ∙ ap (λ s. option_map (exchange from to) (parent_of m s)) turned ∙ ap (option_map (exchange from to)) alone.root;
      leaf =
          λ child at.
          by_parent (exchange from to child) (parent_of m (exchange from to child)) refl
          (sym (parent_of-with_exchanged m from to child) ∙ at);
    } where
      turned : exchange from to from ≡ to
      turned = ap (λ tie. if tie then to else if same_slot from to then from else from) (slot_itself from)

      by_parent : (q : SlotRef) (o : Option SlotRef) → parent_of m q ≡ o → option_map (exchange from to) o ≡ Some from → ⊥
      by_parent q None is at = (let impossible : None ≡ Some from = at in cc)
      by_parent q (Some parent) is at =
          alone.leaf q
          (is
          ∙ ap Some (sym (exchange_twice from to parent) ∙ ap (exchange from to) (same_Some (exchange from to parent) from at) ∙ turned))
