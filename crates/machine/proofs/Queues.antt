-- The threads in a queue that loses its first, or that a thread joins.
use Rattle.std.specs.Prelude.{AllPairs, Contains, None, Option, Some}
use Rattle.std.proofs.{Common.{[], ℕ, ◌∙◌, ◌∷◌, ◌≡◌, ◌≢◌, List, ap, arith, refl, suc, sym}, lemmas.Option.same_Some}
use Rattle.{base.specs.declared.ids.ObjId.ObjId, machine.specs.{Changes.{first_waiting, without_first}, Machine.{Machine, queue_of}}}

pub first_in : (first : ObjId) (others : List ObjId) → Contains (first ∷ others) first
first_in first others = (0, omega arith, refl)

pub other_in : (first : ObjId) (others : List ObjId) (thread : ObjId) → Contains others thread → Contains (first ∷ others) thread
other_in first others thread there = let k : ℕ = there.0 in (suc k, omega arith, there.2)

pub once_first :
    (first : ObjId) (others : List ObjId) → AllPairs (λ a b. a ≢ b) (first ∷ others) → (thread : ObjId) → Contains others thread
    → thread ≢ first
once_first first others once thread there same =
    let k : ℕ = there.0 in once 0 (suc k) thread (omega arith) (omega arith) (sym same ∙ sym there.2)

pub queue_by_first :
    (m : Machine) (id first : ObjId) → first_waiting m id ≡ Some first
    → (others : List ObjId) × (queue_of m id ≡ Some (first ∷ others))
unfolding first_waiting
queue_by_first m id first e = by_queue (queue_of m id) refl where
  by_queue :
      (queue : Option (List ObjId)) → queue_of m id ≡ queue
      → (others : List ObjId) × (queue_of m id ≡ Some (first ∷ others))
  by_queue None is = let some = rw is at e in cc
  by_queue (Some []) is = let some = rw is at e in cc
  by_queue (Some (one ∷ others)) is =
      let some = rw is at e in
      let same : one ≡ first = same_Some one first some in
      (others, is ∙ ap (λ (x : ObjId). Some (x ∷ others)) same)

-- nobody leaves an empty queue
pub nobody_leaves : (m : Machine) (id : ObjId) → first_waiting m id ≡ None → without_first m id ≡ m
unfolding first_waiting without_first
nobody_leaves m id nobody = by_queue (queue_of m id) refl where
  by_queue : (queue : Option (List ObjId)) → queue_of m id ≡ queue → without_first m id ≡ m
  by_queue None is = rw is refl
  by_queue (Some []) is = rw is refl
  by_queue (Some (first ∷ rest)) is = let some = rw is at nobody in cc
