-- The labels whose objects a label may make smaller if only threads of some labels act: a bound within cut and full authority
-- (the deletions that 'seL4 Enforces Integrity', section 4, allows; the ways are confine's own).
use Rattle.std.specs.Prelude.{ℕ, ◌≡◌, Bool, false, true}
use Rattle.base.specs.declared.kind.Kind.{Kind, TheVariants.{Await, Context, Control, Derive, Holds, Receive, Reply, Reset, Runs}}
use Rattle.{base.specs.declared.kind.Kind.TheVariants.{SchedControl, Send, Space}, policy.specs.{Change.ActorTest, Domain.EdgeTest}}

-- the kinds of edges from a controlled label to one that loses something: a copy of a capability (derive), the last capability to an
-- object (space, reset, schedcontrol; other kinds that lead to it give more), or the thread of a context (runs)
abbrev pub is_removed : Kind → Bool
is_removed Derive = true
is_removed Space = true
is_removed Runs = true
is_removed Reset = true
is_removed SchedControl = true
is_removed _ = false

-- the kinds of what a thread waits for
abbrev pub is_waiting : Kind → Bool
is_waiting Send = true
is_waiting Receive = true
is_waiting Await = true
is_waiting _ = false

-- what a may take through a label that it controls
pub data TakesByControl (test : EdgeTest) (acts : ActorTest) (a l : ℕ) : Type 0 where
  -- objects joined to what is removed
  removes : (controlled : ℕ) (kind : Kind) → is_removed kind ≡ true → test a Control controlled ≡ true → test controlled kind l ≡ true
      → TakesByControl test acts a l
  -- the reply that holds a thread that called
  releases : (caller : ℕ) → test a Control caller ≡ true → acts caller ≡ true → test l Holds caller ≡ true → TakesByControl test acts a l
  -- threads that wait for what is deleted, and the replies that they name
  wakes : (controlled end : ℕ) (kind : Kind) → is_waiting kind ≡ true → test a Control controlled ≡ true → test controlled Reset end ≡ true
      → test l kind end ≡ true → acts l ≡ true → TakesByControl test acts a l
  drops : (controlled endpoint receiver : ℕ) → test a Control controlled ≡ true → test controlled Reset endpoint ≡ true
      → test receiver Receive endpoint ≡ true → acts receiver ≡ true → test receiver Reply l ≡ true → TakesByControl test acts a l

-- this reply may hold threads of l that wait to receive and name it
pub record MayHoldReceiver (test : EdgeTest) (acts : ActorTest) (reply l : ℕ) : Type 0 where
  pub holds : test reply Holds l ≡ true
  pub names : test l Reply reply ≡ true
  pub waits : acts l ≡ true

-- a may use a reply that threads of l name and wait with
pub record MayHalt (test : EdgeTest) (acts : ActorTest) (a l : ℕ) : Type 0 where
  pub reply : ℕ
  pub uses : test a Reply reply ≡ true
  pub held : MayHoldReceiver test acts reply l

-- the ways in which objects of l may shrink by what a thread of a does; only threads of labels that act wait
pub data WayToShrink (test : EdgeTest) (acts : ActorTest) (a l : ℕ) : Type 0 where
  -- a context loses its thread, and the thread its context
  unbinds : test a Context l ≡ true → WayToShrink test acts a l
  stops : (context : ℕ) → test a Context context ≡ true → test l Runs context ≡ true → WayToShrink test acts a l
  -- a thread that waits with a reply that a uses is halted, and leaves the queue in which it waits
  halts : MayHalt test acts a l → WayToShrink test acts a l
  ends : (reply receiver : ℕ) → test a Reply reply ≡ true → test receiver Reply reply ≡ true → acts receiver ≡ true
      → test receiver Receive l ≡ true → WayToShrink test acts a l
  -- the reply of a thread that receives a message from a is free then
  frees : (endpoint receiver : ℕ) → test a Send endpoint ≡ true → test receiver Receive endpoint ≡ true → acts receiver ≡ true
      → test receiver Reply l ≡ true → WayToShrink test acts a l
  -- what a takes through a label that it controls
  controls : TakesByControl test acts a l → WayToShrink test acts a l

-- objects of l may shrink by what a does: a acts, and there is a way
pub record MayShrink (test : EdgeTest) (acts : ActorTest) (a l : ℕ) : Type 0 where
  pub actor : acts a ≡ true
  pub way : WayToShrink test acts a l

-- a has no edge of this kind
abbrev pub HasNone : EdgeTest → ℕ → Kind → Type 0
HasNone test a kind = (to : ℕ) → test a kind to ≡ false

-- a may send to a label that receives with a reply of l
pub record MaySendTo (test : EdgeTest) (a l : ℕ) : Type 0 where
  pub endpoint : ℕ
  pub sends : test a Send endpoint ≡ true
  pub receiver : ℕ
  pub receives : test receiver Receive endpoint ≡ true
  pub names : test receiver Reply l ≡ true
