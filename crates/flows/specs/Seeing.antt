-- The objects on which a call of a label's thread depends: what it returns, whether the thread waits, and whom it meets (confine's own).
use Rattle.std.specs.Prelude.{ℕ, ◌≡◌, ◌≢◌, true}
use Rattle.base.specs.declared.kind.Kind.{Kind, TheVariants.{Await, Call, Context, Control, Notify}}
use Rattle.base.specs.declared.kind.Kind.TheVariants.{Read, Receive, Reply, Runs, Send, Space}
use Rattle.{policy.specs.{Change.{ActorTest, MayAnswer}, Domain.EdgeTest}, reach.specs.Extents.Limits}

-- threads of a label act, and may wait for this notification
abbrev pub MayWaitFor : EdgeTest → ActorTest → ℕ → ℕ → Type 0
MayWaitFor test acts notification a = (acts a ≡ true) × (test a Await notification ≡ true)

-- threads of two labels may wait for this notification
pub record IsContested (test : EdgeTest) (acts : ActorTest) (notification : ℕ) : Type 0 where
  pub one : ℕ
  pub other : ℕ
  pub differ : one ≢ other
  pub waits : MayWaitFor test acts notification one
  pub also : MayWaitFor test acts notification other

-- the ways in which a call of a thread of a depends on objects of l; only threads of labels that act wait
pub data WayToSee (test : EdgeTest) (acts : ActorTest) (a l : ℕ) : Type 0 where
  -- its own: its state, its inbox and its links
  own : l ≡ a → WayToSee test acts a l
  -- a notification that it polls or waits for: the word that it gets, and whether it's blocked
  awaits : test a Await l ≡ true → WayToSee test acts a l
  -- a frame that it reads: the word
  reads : test a Read l ≡ true → WayToSee test acts a l
  -- a context that it runs on: whether that has a core, without which it makes no call
  runs : test a Runs l ≡ true → WayToSee test acts a l
  -- an endpoint to which it sends: whether a thread waits there, so whether it's blocked
  sends : test a Send l ≡ true → WayToSee test acts a l
  -- an endpoint at which it receives: whether a sender waits, and which is the first
  receives : test a Receive l ≡ true → WayToSee test acts a l
  -- a sender that waits there: its message, and whether that is a call
  senders : (endpoint : ℕ) → test a Receive endpoint ≡ true → test l Send endpoint ≡ true → acts l ≡ true → WayToSee test acts a l
  -- a receiver that waits for its call: the reply that it names, and whether it has a context
  receivers : (endpoint : ℕ) → test a Call endpoint ≡ true → test l Receive endpoint ≡ true → acts l ≡ true → WayToSee test acts a l
  -- a reply that it uses: which thread that holds, and the context that was lent
  replies : test a Reply l ≡ true → WayToSee test acts a l
  -- a caller that such a reply holds: its state
  callers : MayAnswer test acts a l → WayToSee test acts a l
  -- a context that it binds: whether that has a thread
  binds : (thread : ℕ) → test a Context l ≡ true → test a Control thread ≡ true → WayToSee test acts a l
  -- a thread to which it binds a context: whether that has one
  bound : (context : ℕ) → test a Control l ≡ true → test a Context context ≡ true → WayToSee test acts a l
  -- the CNodes in which it finds its capabilities
  finds : test a Space l ≡ true → WayToSee test acts a l
  -- a notification that it signals, where threads of two labels may wait: which is the first
  wakes : test a Notify l ≡ true → IsContested test acts l → WayToSee test acts a l

-- a sees objects of l: a acts, and there is a way. A label that doesn't act sees nothing
pub record Sees (limits : Limits) (a l : ℕ) : Type 0 where
  pub actor : limits.acts a ≡ true
  pub way : WayToSee limits.test limits.acts a l
