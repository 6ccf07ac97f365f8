-- The ways in which labels may change others: the sets of labels by which they are found (confine's own).
use Rattle.std.specs.Prelude.{ℕ, ◌<◌, ◌↔◌, ◌≡◌, List, length, true}
use Rattle.base.specs.{declared.{edge.Edge.Edge, kind.Kind.{Kind, TheVariants.{Await, Receive, Send}}, labels.Labels.Labels}, Labels.is_in}
use Rattle.base.specs.declared.label.TheConstants.Label as Label
use Rattle.policy.specs.{Change.{ActorTest, MayBorrow, MayHoldCaller, MayLend}, Domain.EdgeTest, Policy.allows}
use Rattle.summary.specs.Sources.{SourcesOf, row_at}

-- the edges of a policy, and the labels whose threads make calls
pub record WaysOf : Type 0 where
  pub edges : List Edge
  pub actors : Labels

-- the row of each label has the labels whose threads its replies may hold
pub record IsCallers (test : EdgeTest) (acts : ActorTest) (rows : List Labels) : Type 0 where
  pub count : length rows ≡ Label.COUNT
  pub each : (reply : ℕ) → reply < Label.COUNT → (l : ℕ) → (is_in (row_at rows reply) l ≡ true) ↔ MayHoldCaller test acts reply l

-- a reply of the set may hold threads of a label
pub record IsHeldBy (test : EdgeTest) (acts : ActorTest) (replies : Labels) (l : ℕ) : Type 0 where
  pub reply : ℕ
  pub among : is_in replies reply ≡ true
  pub called : MayHoldCaller test acts reply l

-- the sets are those of these edges and these labels
pub record IsWays (edges : List Edge) (actors : Labels) (sending receiving waiting : SourcesOf) (rows : List Labels) (lending borrowing : Labels) :
    Type 0 where
  pub senders : sending ≡ record { edges = edges; kind = Send }
  pub receivers : receiving ≡ record { edges = edges; kind = Receive }
  pub waiters : waiting ≡ record { edges = edges; kind = Await }
  pub callers : IsCallers (allows edges) (is_in actors) rows
  pub lenders : (a : ℕ) → (is_in lending a ≡ true) ↔ MayLend (allows edges) (is_in actors) a
  pub borrowers : (b : ℕ) → (is_in borrowing b ≡ true) ↔ MayBorrow (allows edges) b
