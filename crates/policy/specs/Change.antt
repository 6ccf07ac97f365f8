-- The labels whose objects a label may change if only threads of some labels act: a bound within full authority (the integrity property of
-- 'seL4 Enforces Integrity', section 4, restated for this profile; the labels that act, and the narrower cases, are confine's own).
use Rattle.std.specs.Prelude.{ℕ, ◌≡◌, Bool, false, true}
use Rattle.base.specs.declared.kind.Kind.{Kind, TheVariants.{Await, Call, Context, Control, Grant, Holds, Notify, Receive, Reply}}
use Rattle.{base.specs.declared.kind.Kind.TheVariants.{Runs, SchedControl, Send, Write}, policy.specs.{Domain.EdgeTest, Sharp.MayIdle}}

abbrev pub ActorTest : Type 0
ActorTest = ℕ → Bool

-- the kinds by which a label changes the object itself, which isn't a context
abbrev pub is_changing : Kind → Bool
is_changing Control = true
is_changing Send = true
is_changing Receive = true
is_changing Notify = true
is_changing Await = true
is_changing Write = true
is_changing Reply = true
is_changing _ = false

-- b may be lent a context: it may wait for a message without one, and names a reply
pub record MayBorrow (test : EdgeTest) (b : ℕ) : Type 0 where
  pub idles : MayIdle test b
  pub reply : ℕ
  pub names : test b Reply reply ≡ true

-- a may lend a context by a call: a label that acts and may be lent one receives its calls
pub record MayLend (test : EdgeTest) (acts : ActorTest) (a : ℕ) : Type 0 where
  pub endpoint : ℕ
  pub calls : test a Call endpoint ≡ true
  pub receiver : ℕ
  pub receives : test receiver Receive endpoint ≡ true
  pub serves : acts receiver ≡ true
  pub borrows : MayBorrow test receiver

pub data MayChangeContext (test : EdgeTest) (acts : ActorTest) (a l : ℕ) : Type 0 where
  -- a context's share of a core
  configures : (core : ℕ) → test a Context l ≡ true → test a SchedControl core ≡ true → MayChangeContext test acts a l
  -- the thread that a context is bound to
  binds : (thread : ℕ) → test a Context l ≡ true → test a Control thread ≡ true → MayChangeContext test acts a l
  -- a context that a runs on goes by a call to a thread that waits without one, or by an answer back to the thread that lent it
  lends : test a Runs l ≡ true → MayLend test acts a → MayChangeContext test acts a l
  returns : test a Runs l ≡ true → MayBorrow test a → MayChangeContext test acts a l

-- this reply may hold threads of l that called: a server that names the reply receives their calls
pub record MayHoldCaller (test : EdgeTest) (acts : ActorTest) (reply l : ℕ) : Type 0 where
  pub holds : test reply Holds l ≡ true
  pub server : ℕ
  pub names : test server Reply reply ≡ true
  pub serves : acts server ≡ true
  pub endpoint : ℕ
  pub receives : test server Receive endpoint ≡ true
  pub calls : test l Call endpoint ≡ true
  pub waits : acts l ≡ true

-- a may answer calls of l
pub record MayAnswer (test : EdgeTest) (acts : ActorTest) (a l : ℕ) : Type 0 where
  pub reply : ℕ
  pub uses : test a Reply reply ≡ true
  pub called : MayHoldCaller test acts reply l

-- the ways in which a thread of a may change objects of l; only threads of labels that act wait
pub data WayToChange (test : EdgeTest) (acts : ActorTest) (a l : ℕ) : Type 0 where
  -- its own objects
  own : l ≡ a → WayToChange test acts a l
  -- an object that it has a capability to
  modifies : (kind : Kind) → is_changing kind ≡ true → test a kind l ≡ true → WayToChange test acts a l
  -- a context
  shares : MayChangeContext test acts a l → WayToChange test acts a l
  -- threads that wait at an endpoint or a notification that it uses
  sends : (endpoint : ℕ) → test a Send endpoint ≡ true → test l Receive endpoint ≡ true → acts l ≡ true → WayToChange test acts a l
  receives : (endpoint : ℕ) → test a Receive endpoint ≡ true → test l Send endpoint ≡ true → acts l ≡ true → WayToChange test acts a l
  notifies :
      (notification : ℕ) → test a Notify notification ≡ true → test l Await notification ≡ true → acts l ≡ true
      → WayToChange test acts a l
  -- replies of labels that receive its calls
  links : (endpoint receiver : ℕ) → test a Send endpoint ≡ true → test a Call endpoint ≡ true → test receiver Receive endpoint ≡ true
      → acts receiver ≡ true → test receiver Reply l ≡ true → WayToChange test acts a l
  -- where labels that receive its capabilities keep them
  grants : (endpoint receiver : ℕ) → test a Grant endpoint ≡ true → test receiver Receive endpoint ≡ true → acts receiver ≡ true
      → test receiver Control l ≡ true → WayToChange test acts a l
  -- threads that called, and are held by a reply that it uses
  replies : MayAnswer test acts a l → WayToChange test acts a l

-- a has an edge of a kind to l, and one of another kind to some label
abbrev pub IsBeside : EdgeTest → Kind → Kind → ℕ → ℕ → Type 0
IsBeside test kind other a l = (test a kind l ≡ true) × ((end : ℕ) × (test a other end ≡ true))

-- a may change objects of l: a acts, and there is a way
pub record MayChange (test : EdgeTest) (acts : ActorTest) (a l : ℕ) : Type 0 where
  pub actor : acts a ≡ true
  pub way : WayToChange test acts a l
