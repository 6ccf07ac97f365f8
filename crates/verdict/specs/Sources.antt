-- The sources of authority in a table or a machine: capabilities in slots, the derivation tree and links, with kinds and labels of objects
-- (compare 'seL4 Enforces Integrity', section 3, the authority of a state).
use Rattle.std.specs.Prelude.{ℕ, Bool, None, Option, Some, false}
use Rattle.base.specs.declared.{ids.{ObjId.ObjId, SlotRef.SlotRef}, kind.Kind.Kind}
use Rattle.machine.specs.{declared.{cap.Cap.Cap, object.{Object.{Object, Object as o}, ObjectKind.ObjectKind}}, Authority.holds_thread}
use Rattle.machine.specs.{Authority.{label_of, context_lent, state_links}, Layout.{Layout, bound_context, declared_label, initial_cap}}
use Rattle.machine.specs.{Layout.initial_parent, Machine.{Machine, cap_of, object_of, parent_of}, WellFormed.kind_of}
use Rattle.table.specs.Rules.{kind_at}

pub record Sources : Type 0 where
  pub cap : SlotRef → Option Cap
  pub parent : SlotRef → Option SlotRef
  pub kind : ObjId → Option ObjectKind
  pub label : ObjId → Option ℕ
  -- the context that a thread is bound to
  pub context : ObjId → Option ObjId
  -- the context that a thread lent
  pub lent : ObjId → Option ObjId
  -- whether a reply holds a thread
  pub holds : ObjId → ObjId → Bool
  -- whether a blocked thread keeps a kind of authority over an object
  pub keeps : ObjId → Kind → ObjId → Bool

-- a table declares no lent context, no reply that holds a thread, and no blocked thread
abbrev pub of_table : Layout → Sources
of_table t = record {
  cap = initial_cap t;
  parent = initial_parent t;
  kind = kind_at t;
  label = declared_label t;
  context = bound_context t;
  lent = λ thread. None;
  holds = λ reply thread. false;
  keeps = λ thread k end. false;
}

abbrev pub own_context_in : Option Object → Option ObjId
own_context_in (Some (o.Tcb tcb)) = tcb.context
own_context_in _ = None

abbrev pub lent_context_in : Option Object → Option ObjId
lent_context_in (Some (o.Tcb tcb)) = context_lent tcb.state
lent_context_in _ = None

abbrev pub holds_in : Option Object → ObjId → Bool
holds_in (Some (o.Reply answers)) thread = holds_thread answers.state thread
holds_in _ thread = false

abbrev pub keeps_in : Option Object → Kind → ObjId → Bool
keeps_in (Some (o.Tcb tcb)) k end = state_links tcb.state k end
keeps_in _ k end = false

abbrev pub of_machine : Layout → Machine → Sources
of_machine t m = record {
  cap = cap_of m;
  parent = parent_of m;
  kind = kind_of m;
  label = label_of t m;
  context = λ thread. own_context_in (object_of m thread);
  lent = λ thread. lent_context_in (object_of m thread);
  holds = λ reply. holds_in (object_of m reply);
  keeps = λ thread. keeps_in (object_of m thread);
}
