-- Closed policies: the edges that a policy must have so that no run leads out of it. Each rule has two parts: where it asks for an edge,
-- and that the edge is there (the well-formed policies of 'seL4 Enforces Integrity', section 3, restated for this profile).
use Rattle.std.specs.Prelude.{ℕ, ◌≡◌, ◌≢◌, ◌⊎◌, Bool, false, true}
use Rattle.base.specs.declared.kind.Kind.{Kind, TheVariants.{Call, Context, Control, Derive, Grant, Holds, Receive, Reply, Runs}}
use Rattle.base.specs.{declared.kind.Kind.TheVariants.{SchedControl, Space}, Kinds.is_structural}
use Rattle.policy.specs.Domain.{EdgeTest, IsInDomain, SubjectsAgree}

-- the kinds that control gives: space, and every kind of use except schedcontrol
abbrev pub IsGivenByControl : Kind → Type 0
IsGivenByControl kind = (kind ≡ Space) ⊎ ((is_structural kind ≡ false) × (kind ≢ SchedControl))

-- an edge that control gives
pub record ControlGives (test : EdgeTest) (a : ℕ) (kind : Kind) (b : ℕ) : Type 0 where
  pub controls : test a Control b ≡ true
  pub given : IsGivenByControl kind

-- P2: a label that controls another has its space, and may do everything to it but configure its core
abbrev pub ControlGivesAll : EdgeTest → Type 0
ControlGivesAll test = (a : ℕ) (kind : Kind) (b : ℕ) → ControlGives test a kind b → test a kind b ≡ true

-- b may get capabilities from a, by a grant over some endpoint
pub record MayBeGranted (test : EdgeTest) (a b : ℕ) : Type 0 where
  pub endpoint : ℕ
  pub grants : test a Grant endpoint ≡ true
  pub receives : test b Receive endpoint ≡ true

-- an edge of a's that b may get to use
pub record GrantGives (test : EdgeTest) (a b : ℕ) (kind : Kind) (to : ℕ) : Type 0 where
  pub granted : MayBeGranted test a b
  pub of_use : is_structural kind ≡ false
  pub has : test a kind to ≡ true

-- P3: a label that may be granted a's capabilities may do what a may
abbrev pub GrantShares : EdgeTest → Type 0
GrantShares test = (a b : ℕ) (kind : Kind) (to : ℕ) → GrantGives test a b kind to → test b kind to ≡ true

-- two labels in the domain of one
pub record ShareDomain (test : EdgeTest) (parent child : ℕ) : Type 0 where
  pub subject : ℕ
  pub of_parent : IsInDomain test subject parent
  pub of_child : IsInDomain test subject child

-- P4: within a domain, capabilities may be derived
abbrev pub DeriveInDomain : EdgeTest → Type 0
DeriveInDomain test = (x y : ℕ) → ShareDomain test x y → test x Derive y ≡ true

-- capabilities may come to be derived, by a grant or in two steps
pub data ComesToDerive (test : EdgeTest) (parent child : ℕ) : Type 0 where
  granted : (giver taker : ℕ) → MayBeGranted test giver taker → IsInDomain test giver parent → IsInDomain test taker child
      → ComesToDerive test parent child
  derived : (middle : ℕ) → test parent Derive middle ≡ true → test middle Derive child ≡ true → ComesToDerive test parent child

-- P5: a label has derive to each label to which its capabilities may come to be derived
abbrev pub DeriveByGrant : EdgeTest → Type 0
DeriveByGrant test = (x y : ℕ) → ComesToDerive test x y → test x Derive y ≡ true

abbrev pub MayBind : EdgeTest → ℕ → ℕ → Type 0
MayBind test a s = test a Context s ≡ true

-- P6: a label that may bind a context may run on it
abbrev pub ContextRuns : EdgeTest → Type 0
ContextRuns test = (a s : ℕ) → MayBind test a s → test a Runs s ≡ true

-- a reply may come to hold a thread: of a label that may use the reply, or of one that calls such a label
pub data ComesToHold (test : EdgeTest) (reply thread : ℕ) : Type 0 where
  server : test thread Reply reply ≡ true → ComesToHold test reply thread
  caller : (server endpoint : ℕ) → test server Reply reply ≡ true → test thread Call endpoint ≡ true
      → test server Receive endpoint ≡ true → ComesToHold test reply thread

-- P7: a reply has holds to each label whose threads it may come to hold
abbrev pub ReplyHolds : EdgeTest → Type 0
ReplyHolds test = (reply thread : ℕ) → ComesToHold test reply thread → test reply Holds thread ≡ true

-- a label may be lent a context: it receives from an endpoint at which a label calls that runs on the context
pub record MayBeLent (test : EdgeTest) (borrower context : ℕ) : Type 0 where
  pub lender : ℕ
  pub endpoint : ℕ
  pub calls : test lender Call endpoint ≡ true
  pub receives : test borrower Receive endpoint ≡ true
  pub runs : test lender Runs context ≡ true

-- P8: a label that may be lent a context may run on it
abbrev pub LentRuns : EdgeTest → Type 0
LentRuns test = (borrower context : ℕ) → MayBeLent test borrower context → test borrower Runs context ≡ true

-- a rule asks for an edge that is missing
pub record IsLacking (Asked : Type 0) (edge : Bool) : Type 0 where
  pub asked : Asked
  pub missing : edge ≡ false

pub record IsClosed (test : EdgeTest) : Type 0 where
  pub subjects_agree : SubjectsAgree test
  pub control_gives_all : ControlGivesAll test
  pub grant_shares : GrantShares test
  pub derive_in_domain : DeriveInDomain test
  pub derive_by_grant : DeriveByGrant test
  pub context_runs : ContextRuns test
  pub reply_holds : ReplyHolds test
  pub lent_runs : LentRuns test
