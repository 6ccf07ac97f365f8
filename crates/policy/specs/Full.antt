-- Full authority: the labels on whose objects the acts of a label may have any effect
-- (the integrity property of 'seL4 Enforces Integrity', section 4, restated for this profile).
use Rattle.std.specs.Prelude.{ℕ, ◌≡◌, Bool, false, true}
use Rattle.base.specs.declared.kind.Kind.{Kind, TheVariants.{Await, Context, Control, Grant, Holds, Notify, Receive}}
use Rattle.{base.specs.declared.kind.Kind.TheVariants.{Reply, Runs, Send, Write}, policy.specs.Domain.EdgeTest}

-- the kinds whose use changes the object itself; of a context, binding it and running on it
abbrev pub is_modifying : Kind → Bool
is_modifying Control = true
is_modifying Send = true
is_modifying Receive = true
is_modifying Notify = true
is_modifying Await = true
is_modifying Write = true
is_modifying Reply = true
is_modifying Context = true
is_modifying Runs = true
is_modifying _ = false

pub data IsFull (test : EdgeTest) (a l : ℕ) : Type 0 where
  -- its own objects
  own : l ≡ a → IsFull test a l
  -- objects that it has a capability to, or runs on
  modifies : (kind : Kind) → is_modifying kind ≡ true → test a kind l ≡ true → IsFull test a l
  -- threads that wait at an endpoint or a notification that it uses
  sends : (endpoint : ℕ) → test a Send endpoint ≡ true → test l Receive endpoint ≡ true → IsFull test a l
  receives : (endpoint : ℕ) → test a Receive endpoint ≡ true → test l Send endpoint ≡ true → IsFull test a l
  notifies : (notification : ℕ) → test a Notify notification ≡ true → test l Await notification ≡ true → IsFull test a l
  -- replies of labels that receive from it
  links : (endpoint receiver : ℕ) → test a Send endpoint ≡ true → test receiver Receive endpoint ≡ true
      → test receiver Reply l ≡ true → IsFull test a l
  -- where labels that receive its capabilities keep them
  grants : (endpoint receiver : ℕ) → test a Grant endpoint ≡ true → test receiver Receive endpoint ≡ true
      → test receiver Control l ≡ true → IsFull test a l
  -- the threads that its replies hold
  replies : (reply : ℕ) → test a Reply reply ≡ true → test reply Holds l ≡ true → IsFull test a l
