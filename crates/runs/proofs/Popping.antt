-- The first thread of a queue, and the queue after it left.
use Rattle.std.proofs.Common.{[], ℕ, ◌++◌, ◌<◌, ◌∙◌, ◌∷◌, ◌≡◌, List, None, Option, Some, ap, append_assoc, arith, length, refl, sym}
use Rattle.base.specs.declared.ids.ObjId.{ObjId}
use Rattle.machine.{specs.{Changes.{first_waiting, without_first}, Machine.{Machine, queue_of}}, proofs.Ids.at_itself}
use Rattle.machine.proofs.LookUps.{queue_of-with_queue}

-- the queue has a first thread, and the others remain
pub record Leaves (m : Machine) (id thread : ObjId) : Type 0 where
  pub rest : List ObjId
  pub was : queue_of m id ≡ Some (thread ∷ rest)
  pub is : queue_of (without_first m id) id ≡ Some rest

pub popped : (m : Machine) (id thread : ObjId) → first_waiting m id ≡ Some thread → Leaves m id thread
unfolding first_waiting without_first
popped m id thread first = by_queue (queue_of m id) refl where
  by_queue : (queue : Option (List ObjId)) → queue_of m id ≡ queue → Leaves m id thread
  by_queue None e = absurd (let no : None ≡ Some thread = rw e at first in cc)
  by_queue (Some []) e = absurd (let no : None ≡ Some thread = rw e at first in cc)
  by_queue (Some (head ∷ rest)) e =
      let same : Some head ≡ Some thread = rw e at first in
      let one : head ≡ thread = cc in
      record {
        rest = rest;
        was = e ∙ ap (λ (x : ObjId). Some (x ∷ rest)) one;
        is = rw e (queue_of-with_queue m id rest id ∙ at_itself id (Some rest) (queue_of m id));
      }

pub nobody_waits : (m : Machine) (id : ObjId) (threads : List ObjId) → first_waiting m id ≡ None → queue_of m id ≡ Some threads → threads ≡ []
unfolding first_waiting
nobody_waits m id [] first e = refl
nobody_waits m id (head ∷ rest) first e = absurd (let no : Some head ≡ None = rw e at first in cc)

-- the number of threads that wait
abbrev pub count : Option (List ObjId) → ℕ
count None = 0
count (Some threads) = length threads

pub fewer :
    (m : Machine) (id thread : ObjId) (next : Machine) → next ≡ without_first m id → Leaves m id thread
    → count (queue_of next id) < count (queue_of m id)
fewer m id thread next is leaves =
    let new : queue_of next id ≡ Some leaves.rest = ap (λ (n : Machine). queue_of n id) is ∙ leaves.is in
    let short : count (queue_of next id) ≡ length leaves.rest = ap count new in
    let long : count (queue_of m id) ≡ length (thread ∷ leaves.rest) = ap count leaves.was in
    omega arith

pub left_over :
    (m : Machine) (id thread : ObjId) (waiting read : List ObjId) → queue_of m id ≡ Some waiting → (leaves : Leaves m id thread)
    → read ++ waiting ≡ (read ++ thread ∷ []) ++ leaves.rest
left_over m id thread waiting read there leaves =
    let same : Some waiting ≡ Some (thread ∷ leaves.rest) = sym there ∙ leaves.was in
    let one : waiting ≡ thread ∷ leaves.rest = cc in
    ap (λ (q : List ObjId). read ++ q) one ∙ sym (append_assoc read (thread ∷ []) leaves.rest)
