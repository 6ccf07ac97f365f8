-- Objects that stay as they were, and objects that shrink: those that only lose capabilities, waiting threads and links
-- ('seL4 Enforces Integrity', section 4, where deletion may reach the objects of others).
use Rattle.std.specs.Prelude.{[], ℕ, ◌∷◌, ◌≡◌, ◌⊎◌, List, None, Option, Some}
use Rattle.base.specs.declared.ids.ObjId.{ObjId}
use Rattle.machine.specs.declared.{object.{Context.Context, Object.{Object, Object as o}, Reply.Reply}, thread.RunState.RunState}
use Rattle.machine.specs.declared.object.ReplyState.TheVariants as reply
use Rattle.machine.specs.declared.thread.Inbox.TheVariants as inbox
use Rattle.machine.specs.{declared.thread.{RunState.RunState as state, Tcb.Tcb}, Machine.{Machine, cap_of, object_of, queue_of, words_of}}

-- an object's content, the threads that wait at it, its words and what its slots hold are as they were, and so is its absence
pub record IsSame (m next : Machine) (id : ObjId) : Type 0 where
  pub content : object_of next id ≡ object_of m id
  pub queue : queue_of next id ≡ queue_of m id
  pub words : words_of next id ≡ words_of m id
  pub slots : (index : ℕ) → cap_of next (record { holder = id; index = index }) ≡ cap_of m (record { holder = id; index = index })

abbrev pub IsBlocked : RunState → Type 0
IsBlocked (state.Sending _) = Unit {0}
IsBlocked (state.Receiving _) = Unit {0}
IsBlocked (state.Waiting _) = Unit {0}
IsBlocked (state.Called _) = Unit {0}
IsBlocked _ = ⊥

-- a thread goes on as it was, or its wait ended: it was aborted and may run, or was halted and keeps its inbox
pub data Stops (old new : Tcb) : Type 0 where
  goes_on : new.state ≡ old.state → new.inbox ≡ old.inbox → Stops old new
  aborted : IsBlocked old.state → new.state ≡ state.Ready → new.inbox ≡ inbox.Aborted → Stops old new
  halted : IsBlocked old.state → new.state ≡ state.Inactive → new.inbox ≡ old.inbox → Stops old new

-- a link is as it was, or gone
abbrev pub LosesLink : Option ObjId → Option ObjId → Type 0
LosesLink old new = (new ≡ old) ⊎ (new ≡ None)

-- a content only loses links; pending words, watermarks, cores, budgets and periods are as before
pub data Lessens (old new : Object) : Type 0 where
  as_it_was : new ≡ old → Lessens old new
  -- a thread loses its wait, its context, or both
  released :
      (was is : Tcb) → old ≡ o.Tcb was → new ≡ o.Tcb is → is.address ≡ was.address → Stops was is
      → LosesLink was.context is.context → Lessens old new
  -- a reply loses its thread
  freed :
      (was is : Reply) → old ≡ o.Reply was → new ≡ o.Reply is → is.address ≡ was.address → is.state ≡ reply.Free
      → Lessens old new
  -- a scheduling context loses its thread
  unbound :
      (was is : Context) → old ≡ o.Context was → new ≡ o.Context is → is.address ≡ was.address → is.share ≡ was.share
      → is.thread ≡ None → Lessens old new

-- some of the members of a list, in their order
pub data IsPart : List ObjId → List ObjId → Type 0 where
  ended : IsPart [] []
  stayed : {x : ObjId} {part all : List ObjId} → IsPart part all → IsPart (x ∷ part) (x ∷ all)
  left : {x : ObjId} {part all : List ObjId} → IsPart part all → IsPart part (x ∷ all)

-- an object that is there before and after has lost capabilities, waiting threads and links, if anything
pub record HasLess (m next : Machine) (id : ObjId) : Type 0 where
  pub old : Object
  pub new : Object
  pub was : object_of m id ≡ Some old
  pub is : object_of next id ≡ Some new
  pub content : Lessens old new
  pub waited : List ObjId
  pub waiting : List ObjId
  pub queue_was : queue_of m id ≡ Some waited
  pub queue_is : queue_of next id ≡ Some waiting
  pub queue : IsPart waiting waited
  pub words : words_of next id ≡ words_of m id
  pub slots :
      (index : ℕ)
      → (cap_of next (record { holder = id; index = index }) ≡ cap_of m (record { holder = id; index = index }))
      ⊎ (cap_of next (record { holder = id; index = index }) ≡ None)

-- an object shrinks: it vanishes, or has less
abbrev pub Shrinks : Machine → Machine → ObjId → Type 0
Shrinks m next id = (object_of next id ≡ None) ⊎ HasLess m next id
