-- A machine in which nothing is linked any more to the objects that go: who stays is finalised, and who goes is in no queue, has no one in
-- its own, and can be removed (seL4 manual, "Deletion, Revocation, and Recycling").
use Rattle.std.specs.Prelude.{◌≡◌, Bool, None, false, option_map, true}
use Rattle.base.specs.declared.ids.ObjId.{ObjId}
use Rattle.machine.specs.{Changes.first_waiting, Finalising.{finalised, staying_in}, Machine.{Machine, object_of, queue_of}}
use Rattle.{machine.specs.{Objects.slot_count, Releasing.SameRest}, objects.specs.Waiting.WaitsNowhere}

pub record IsFinalised (old : Machine) (goes : ObjId → Bool) (now : Machine) : Type 0 where
  pub objects : (id : ObjId) → goes id ≡ false → object_of now id ≡ option_map (finalised old goes) (object_of old id)
  pub queues : (id : ObjId) → goes id ≡ false → queue_of now id ≡ option_map (staying_in old goes) (queue_of old id)
  -- an object that goes is still there, with its slots
  pub slots : (id : ObjId) → option_map slot_count (object_of now id) ≡ option_map slot_count (object_of old id)
  pub deserted : (id : ObjId) → goes id ≡ true → first_waiting now id ≡ None
  pub waits_nowhere : (id : ObjId) → goes id ≡ true → WaitsNowhere now id
  pub rest : SameRest old now
