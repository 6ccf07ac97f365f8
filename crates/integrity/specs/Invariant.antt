-- Machines of a run from an accepted table: they are well formed, belong to the table and are confined, only keepers hold capabilities
-- for CNodes, and only labels that may idle wait for messages without a context or are lent one; and what of this holds between the
-- parts of a step ('seL4 Enforces Integrity', section 4, the invariants of a run).
use Rattle.std.specs.Prelude.{ℕ, ◌<◌, ◌≡◌, None, Some}
use Rattle.base.specs.declared.ids.{ObjId.ObjId, SlotRef.SlotRef}
use Rattle.machine.specs.{declared.{cap.Cap.Cap, object.Object.Object}, Capabilities.kind_of_detail, Layout.Layout, Machine.Machine}
use Rattle.machine.specs.{Machine.{cap_of, object_of, queue_of, words_of}, WellFormed.{IsWellFormed, kind_of}}
use Rattle.policy.specs.Domain.{EdgeTest}
use Rattle.integrity.specs.{Confined.IsConfined, Keeping.{BorrowersMayIdle, KeepersHoldNodes, WaitersMayIdle}, OfTable.IsOfTable}

pub record IsSound (t : Layout) (allowed : EdgeTest) (m : Machine) : Type 0 where
  pub well_formed : IsWellFormed m
  pub of_table : IsOfTable t m
  pub confined : IsConfined t allowed m
  pub nodes : KeepersHoldNodes t allowed m
  pub idlers : WaitersMayIdle t allowed m
  pub borrowers : BorrowersMayIdle t allowed m

-- nobody waits at an object, it has no words, and its slots are empty
pub record IsBare (m : Machine) (id : ObjId) : Type 0 where
  pub queue : queue_of m id ≡ None
  pub words : words_of m id ≡ None
  pub slots : (index : ℕ) → cap_of m (record { holder = id; index = index }) ≡ None

-- what also holds between the parts of a step, when links and ranges needn't agree
pub record IsHeld (t : Layout) (allowed : EdgeTest) (m : Machine) : Type 0 where
  pub of_table : IsOfTable t m
  pub confined : IsConfined t allowed m
  pub nodes : KeepersHoldNodes t allowed m
  pub idlers : WaitersMayIdle t allowed m
  pub borrowers : BorrowersMayIdle t allowed m
  -- the object of a capability is present, and is of the kind that the capability says
  pub kinds :
      (slot : SlotRef) (held : Cap) → cap_of m slot ≡ Some held → kind_of m held.object ≡ Some (kind_of_detail held.detail)
  -- numbers in use are below the next
  pub numbered : (id : ObjId) (object : Object) → object_of m id ≡ Some object → id.0 < m.next
  -- an absent object has nothing
  pub bare : (id : ObjId) → object_of m id ≡ None → IsBare m id
