-- Threads in every state of a run from an accepted table: those whose label may not act sleep, and each caller that a reply holds has
-- called where a server of that reply receives (confine's own).
use Rattle.std.specs.Prelude.{ℕ, ◌<◌, ◌≡◌, ◌⊎◌, None, Some, true}
use Rattle.base.specs.declared.{ids.ObjId.ObjId, kind.Kind.Kind as authority}
use Rattle.machine.specs.declared.{object.{Object.Object as o, Reply.Reply}, thread.{RunState.RunState as state, Tcb.Tcb}}
use Rattle.machine.specs.{Authority.label_of, Layout.Layout, Machine.{Machine, object_of}}
use Rattle.{policy.specs.{Change.ActorTest, Domain.EdgeTest}, integrity.specs.Acting.{HoldsOfActors, MayAct, MayHaveThreads}}
use Rattle.machine.specs.declared.object.ReplyState.TheVariants as answers

-- a thread is inactive, or ready and bound to no context
abbrev pub IsAsleep : Tcb → Type 0
IsAsleep thread = (thread.state ≡ state.Inactive) ⊎ ((thread.state ≡ state.Ready) × (thread.context ≡ None))

-- a thread sleeps, or is of a label that may act
abbrev pub SleepsOrActs : Layout → EdgeTest → Machine → ObjId → Tcb → Type 0
SleepsOrActs t allowed m id thread = IsAsleep thread ⊎ ((a : ℕ) → label_of t m id ≡ Some a → MayAct t allowed a)

-- each thread whose label may not act sleeps
abbrev pub OthersSleep : Layout → EdgeTest → Machine → Type 0
OthersSleep t allowed m = (id : ObjId) (thread : Tcb) → object_of m id ≡ Some (o.Tcb thread) → SleepsOrActs t allowed m id thread

-- threads of a label may call where a server receives that names a reply of another label
pub record IsServed (t : Layout) (allowed : EdgeTest) (reply caller : ℕ) : Type 0 where
  pub server : ℕ
  pub names : allowed server authority.Reply reply ≡ true
  pub serves : MayAct t allowed server
  pub threads : MayHaveThreads t server
  pub endpoint : ℕ
  pub receives : allowed server authority.Receive endpoint ≡ true
  pub calls : allowed caller authority.Call endpoint ≡ true

-- a caller that a reply holds was made, and its label is so served
abbrev pub IsHeldAfterCall : Layout → EdgeTest → Machine → ObjId → Reply → Type 0
IsHeldAfterCall t allowed m id reply =
    (thread : ObjId) → reply.state ≡ answers.Called thread
    → (thread.0 < m.next)
    × ((holder caller : ℕ) → label_of t m id ≡ Some holder → label_of t m thread ≡ Some caller → IsServed t allowed holder caller)

abbrev pub CallersAreServed : Layout → EdgeTest → Machine → Type 0
CallersAreServed t allowed m = (id : ObjId) (reply : Reply) → object_of m id ≡ Some (o.Reply reply) → IsHeldAfterCall t allowed m id reply

-- the label of a step may act, and the machine where the step begins is such a state; with a test that holds of all that may act
pub record IsAwake (t : Layout) (allowed : EdgeTest) (began : Machine) (a : ℕ) : Type 0 where
  pub acting : MayAct t allowed a
  pub others : OthersSleep t allowed began
  pub served : CallersAreServed t allowed began
  pub acts : ActorTest
  pub actors : HoldsOfActors t allowed acts
  pub actor : acts a ≡ true
