-- The machine after one object was made from untyped memory, look-up by look-up.
use Rattle.std.{specs.{FinMap.{get-insert, insert}, Prelude.{Some, if◌then◌else◌, replicate}}, proofs.Common.{[], ℕ, ◌+◌, ◌∙◌, ◌≡◌}}
use Rattle.{std.proofs.Common.{ap, refl, true}, base.specs.declared.ids.{ObjId.ObjId, SlotRef.SlotRef}}
use Rattle.machine.specs.declared.{cap.Detail.Detail, object.{MemoryKind.MemoryKind, Object.{Object, Object as o}, Untyped.Untyped}}
use Rattle.machine.specs.Machine.{Machine, cap_of, object_of, parent_of, queue_of, same_id, same_slot, with_cap, with_new}
use Rattle.machine.specs.{Machine.{with_object, with_parent, words_of}, Memory.{Source, new_cap, new_detail, new_object}}
use Rattle.machine.{specs.{Memory.{new_size, placed, taken, with_made}, Objects.word_count}, proofs.LookUps.{id_total, slot_total}}

-- the number of the next object
abbrev pub following : Machine → ObjId
following m = record { 0 = m.next }

-- untyped memory with another watermark
abbrev pub marked : Untyped → ℕ → Untyped
marked memory mark = record memory { watermark = mark }

-- an object is new under the next number, its capability is in a slot as a child of the untyped memory's, and the memory has
-- another watermark
pub record MakesObject (m : Machine) (source : Source) (mark : ℕ) (object : Object) (detail : Detail) (slot : SlotRef)
    (next : Machine) : Type 0 where
  pub objects :
      (q : ObjId)
      → object_of next q
      ≡ (if same_id q (following m) then Some object
      else if same_id q source.id then Some (o.Untyped (marked source.memory mark)) else object_of m q)
  pub queues : (q : ObjId) → queue_of next q ≡ (if same_id q (following m) then Some [] else queue_of m q)
  pub words :
      (q : ObjId) → words_of next q ≡ (if same_id q (following m) then Some (replicate (word_count object) 0) else words_of m q)
  pub caps :
      (q : SlotRef)
      → cap_of next q
      ≡ (if same_slot q slot then Some (record { object = following m; detail = detail; original = true }) else cap_of m q)
  pub parents : (q : SlotRef) → parent_of next q ≡ (if same_slot q slot then Some source.slot else parent_of m q)
  pub number : next.next ≡ m.next + 1
  pub going : next.going ≡ m.going

pub made_makes :
    (m : Machine) (source : Source) (kind : MemoryKind) (bits : ℕ) (slot : SlotRef)
    → MakesObject m source (taken (new_size kind bits) source.memory).watermark
    (new_object kind bits (placed (new_size kind bits) source.memory)) (new_detail kind) slot (with_made m source kind bits slot)
unfolding object_of queue_of words_of cap_of parent_of with_object with_new with_cap with_parent with_made
made_makes m source kind bits slot =
    let memory : Object = o.Untyped (taken (new_size kind bits) source.memory) in
    let object : Object = new_object kind bits (placed (new_size kind bits) source.memory) in
    record {
      objects = λ q.
          get-insert id_total (insert m.objects source.id memory) (following m) object q
          ∙ ap (λ found. if same_id q (following m) then Some object else found) (get-insert id_total m.objects source.id memory q);
      queues = λ q. get-insert id_total m.queues (following m) [] q;
      words = λ q. get-insert id_total m.words (following m) (replicate (word_count object) 0) q;
      caps = λ q. get-insert slot_total m.caps slot (new_cap m.next kind) q;
      parents = λ q. get-insert slot_total m.parents slot source.slot q;
      number = refl;
      going = refl;
    }
