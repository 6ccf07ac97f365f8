-- Machines that are alike to a label: what the label's calls can tell apart is the same in both, and its calls keep it so (confine's own).
use Rattle.std.specs.Prelude.{ℕ, ◌≡◌, Some, true}
use Rattle.base.specs.declared.{ids.ObjId.ObjId, kind.Kind.TheVariants.Send}
use Rattle.machine.specs.{declared.thread.Tcb.Tcb, Authority.label_of, Layout.Layout, Machine.Machine, WellFormed.{IsSending, IsThread}}
use Rattle.{machine.specs.WellFormed.WaitsAt, integrity.specs.Shrinks.IsSame, reach.specs.Extents.Limits, flows.specs.Flowing.DependsOn}

-- two threads wait in the same way: both send, or neither does
abbrev pub WaitAlike : Tcb → Tcb → Type 0
WaitAlike one other = (IsSending one.state → IsSending other.state) × (IsSending other.state → IsSending one.state)

-- the machines are alike to a label
pub record IsAlikeTo (t : Layout) (limits : Limits) (a : ℕ) (m n : Machine) : Type 0 where
  -- each object that is of the label, or that it sees, is the same in both
  pub seen : (id : ObjId) (l : ℕ) → label_of t m id ≡ Some l → DependsOn limits a l → IsSame m n id
  -- a thread that waits, in both, at an endpoint to which the label sends waits there in the same way in both
  pub meets :
      (id thread : ObjId) (one other : Tcb) (l : ℕ) → label_of t m id ≡ Some l → limits.test a Send l ≡ true → IsThread m thread one
      → IsThread n thread other → WaitsAt one.state id → WaitsAt other.state id → WaitAlike one other

-- an object is alike in both: it is the same, and so is the object at which it waits, if it is a thread that waits
pub record IsAlikeAt (m n : Machine) (id : ObjId) : Type 0 where
  pub same : IsSame m n id
  pub waits : (thread : Tcb) (end : ObjId) → IsThread m id thread → WaitsAt thread.state end → IsSame m n end

-- each object that is alike in both before is the same in both after
abbrev pub KeepsAlike : Machine → Machine → Machine → Machine → Type 0
KeepsAlike m n next after = (id : ObjId) → IsAlikeAt m n id → IsSame next after id
