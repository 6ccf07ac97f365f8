-- Labels that may act: those with a thread that can run at boot, and those that a label that may act controls (confine's own;
-- compare 'seL4 Enforces Integrity', section 4, where the thread that acts may be of any label).
use Rattle.std.specs.Prelude.{ℕ, ◌≡◌, ◌⊎◌, Some, true}
use Rattle.base.specs.declared.{ids.ObjId.ObjId, kind.Kind.Kind as authority}
use Rattle.machine.specs.declared.{layout.Initial.Initial, object.Object.Object as o, thread.{RunState.RunState as state, Tcb.Tcb}}
use Rattle.machine.specs.declared.object.ObjectKind.TheVariants as kind
use Rattle.machine.specs.{Layout.{Layout, bound_context, initial_of}, Objects.kind_of_object}
use Rattle.policy.specs.{Change.ActorTest, Domain.EdgeTest}

-- a label acts from boot on: it has an initial thread that is ready, and that the table binds to a context
pub record Starts (t : Layout) (a : ℕ) : Type 0 where
  pub id : ObjId
  pub initial : Initial
  pub declares : initial_of t id ≡ Some initial
  pub labelled : initial.label ≡ a
  pub thread : Tcb
  pub is_thread : initial.object ≡ o.Tcb thread
  pub ready : thread.state ≡ state.Ready
  pub context : ObjId
  pub runs : bound_context t id ≡ Some context

-- a label may act: it acts from boot on, or a label that may act controls it, and so can start its threads or make new ones
pub data MayAct (t : Layout) (allowed : EdgeTest) : ℕ → Type 0 where
  starts : {a : ℕ} → Starts t a → MayAct t allowed a
  started : {a b : ℕ} → MayAct t allowed b → allowed b authority.Control a ≡ true → MayAct t allowed a

-- a label may have threads: the table declares a thread of it, or untyped memory, of which threads can be made
pub record MayHaveThreads (t : Layout) (a : ℕ) : Type 0 where
  pub id : ObjId
  pub initial : Initial
  pub declares : initial_of t id ≡ Some initial
  pub labelled : initial.label ≡ a
  pub is_source : (kind_of_object initial.object ≡ kind.Tcb) ⊎ (kind_of_object initial.object ≡ kind.Untyped)

-- a test holds of each label that may act and may have threads
abbrev pub HoldsOfActors : Layout → EdgeTest → ActorTest → Type 0
HoldsOfActors t allowed acts = (a : ℕ) → MayAct t allowed a → MayHaveThreads t a → acts a ≡ true
