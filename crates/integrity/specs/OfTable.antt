-- States of a run from a table's boot state, and what each keeps of the table: each object has a label, and initial objects keep the
-- declared kind and address ('seL4 Enforces Integrity', section 3: the labelling of a state; confine's own for made objects).
use Rattle.std.specs.Prelude.{ℕ, ◌<◌, ◌≡◌, ◌≢◌, ◌≤◌, Some, length}
use Rattle.base.specs.declared.ids.ObjId.{ObjId}
use Rattle.machine.specs.declared.{layout.Initial.Initial, object.{Object.{Object, Object as o}, Untyped.Untyped}, thread.Tcb.Tcb}
use Rattle.machine.specs.declared.object.ObjectKind.TheVariants as kind
use Rattle.machine.specs.{Authority.{label_at, label_of, context_lent}, Layout.{Layout, initial_of}, Machine.{Machine, object_of}}
use Rattle.machine.specs.Objects.{address_of, end_of, kind_of_object}

pub record IsOfTable (t : Layout) (m : Machine) : Type 0 where
  -- each present object has a label
  pub labelled : (id : ObjId) (object : Object) → object_of m id ≡ Some object → (label : ℕ) × (label_of t m id ≡ Some label)
  -- an initial object keeps its kind and its address
  pub initial :
      (id : ObjId) (object : Object) (declared : Initial) → object_of m id ≡ Some object → initial_of t id ≡ Some declared
      → (kind_of_object object ≡ kind_of_object declared.object) × (address_of object ≡ address_of declared.object)
  -- untyped memory gives its label to what is made of it, wherever in its range that lies
  pub ranged :
      (id : ObjId) (memory : Untyped) (label address : ℕ) → object_of m id ≡ Some (o.Untyped memory)
      → label_of t m id ≡ Some label
      → memory.base ≤ address → address < end_of (o.Untyped memory) → label_at t address ≡ Some label
  -- an initial object lies in no initial untyped memory but itself, so it has the label of the memory that it lies in
  pub inside :
      (id : ObjId) (declared : Initial) (label : ℕ) → initial_of t id ≡ Some declared
      → kind_of_object declared.object ≢ kind.Control
      → label_at t (address_of declared.object) ≡ Some label → declared.label ≡ label
  -- the number of a context that a thread lent was given out: no object that is made later gets it, though the context may vanish
  pub lent :
      (id context : ObjId) (thread : Tcb) → object_of m id ≡ Some (o.Tcb thread) → context_lent thread.state ≡ Some context
      → context.0 < m.next
  -- made objects have numbers above those of the initial ones
  pub counted : length t.objects ≤ m.next
