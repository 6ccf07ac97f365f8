-- Sights of one object compared: all parts the same, or less in the second than in the first (confine's own).
use Rattle.std.specs.Prelude.{ℕ, ◌≡◌, ◌⊎◌, List, None, Option, Some}
use Rattle.machine.specs.declared.{cap.Cap.Cap, object.{Context.Context, Reply.Reply}, thread.Tcb.Tcb}
use Rattle.{integrity.specs.Shrinks.{IsPart, Lessens, LosesLink, Stops}, runs.specs.{declared.sight.Sight.Sight, Sights.held_at}}
use Rattle.machine.specs.declared.object.ReplyState.TheVariants as reply

-- the parts of two sights are the same
pub record IsSameSight (was is : Sight) : Type 0 where
  pub content : is.content ≡ was.content
  pub queue : is.queue.items ≡ was.queue.items
  pub words : is.words.items ≡ was.words.items
  pub slots : is.slots.items ≡ was.slots.items

-- two sights are the same, or nothing was there before and after
abbrev pub AreAlike : Option Sight → Option Sight → Type 0
AreAlike None None = Unit {0}
AreAlike (Some was) (Some is) = IsSameSight was is
AreAlike _ _ = ⊥

-- each slot holds what it held, or nothing
abbrev pub LoseCaps : List (Option Cap) → List (Option Cap) → Type 0
LoseCaps was is = (index : ℕ) → (held_at is index ≡ held_at was index) ⊎ (held_at is index ≡ None)

-- a sight has no more than another
pub record IsLess (was is : Sight) : Type 0 where
  pub content : Lessens was.content is.content
  pub queue : IsPart is.queue.items was.queue.items
  pub words : is.words.items ≡ was.words.items
  pub slots : LoseCaps was.slots.items is.slots.items

-- afterwards nothing is there, or less than before
abbrev pub HaveLess : Option Sight → Option Sight → Type 0
HaveLess _ None = Unit {0}
HaveLess None (Some _) = ⊥
HaveLess (Some was) (Some is) = IsLess was is

-- a thread lost its wait, its context, or both
pub record IsReleased (was is : Tcb) : Type 0 where
  pub address : is.address ≡ was.address
  pub stops : Stops was is
  pub context : LosesLink was.context is.context

-- a reply lost its thread
pub record IsFreed (was is : Reply) : Type 0 where
  pub address : is.address ≡ was.address
  pub state : is.state ≡ reply.Free

-- a scheduling context lost its thread
pub record IsUnbound (was is : Context) : Type 0 where
  pub address : is.address ≡ was.address
  pub share : is.share ≡ was.share
  pub thread : is.thread ≡ None
