-- Sharply closed policies: the edges that a policy must have so that no run leads out of it, if it is known which labels keep capabilities
-- for CNodes. Only their threads receive, copy, move and make capabilities. A closed policy is sharply closed, whichever labels keep
-- (the rules are confine's own; compare the well-formed policies of 'seL4 Enforces Integrity', section 3).
use Rattle.std.specs.Prelude.{ℕ, ◌≡◌, Bool, false, true}
use Rattle.base.specs.declared.kind.Kind.{Kind, TheVariants.{Call, Context, Control, Derive, Holds, Receive, Reply, Runs}}
use Rattle.base.specs.Kinds.{is_structural}
use Rattle.policy.specs.{Closed.{ControlGives, GrantGives, MayBeGranted}, Domain.{EdgeTest, IsInDomain, ShareUse}}

-- the labels that keep capabilities for CNodes
abbrev pub Keepers : Type 1
Keepers = ℕ → Type 0

-- whether a label keeps them
abbrev pub KeeperTest : Type 0
KeeperTest = ℕ → Bool

-- the labels of which a test holds
abbrev pub Told : KeeperTest → Keepers
Told keeps a = keeps a ≡ true

-- S1: a label has the edges of use of each label in its domain: it finds capabilities there, or controls that label and may remove all of
-- its capabilities
abbrev pub UsesRise : EdgeTest → Type 0
UsesRise test = (a b : ℕ) (kind : Kind) → ShareUse test a b kind → (to : ℕ) → test b kind to ≡ true → test a kind to ≡ true

-- a label may put its capabilities into the CNodes of another: it keeps, and controls it
pub record MayPut (test : EdgeTest) (Keeps : Keepers) (a b : ℕ) : Type 0 where
  pub keeps : Keeps a
  pub controls : test a Control b ≡ true

-- S1, the other half: a label that a keeper controls has the keeper's edges of use
abbrev pub UsesFall : EdgeTest → Keepers → Type 0
UsesFall test Keeps =
    (a b : ℕ) (kind : Kind) (to : ℕ) → MayPut test Keeps a b → is_structural kind ≡ false → test a kind to ≡ true
    → test b kind to ≡ true

-- S2: a keeper that controls a label has its space, and may do everything to it but configure its core
abbrev pub KeepersHaveAll : EdgeTest → Keepers → Type 0
KeepersHaveAll test Keeps = (a : ℕ) (kind : Kind) (b : ℕ) → Keeps a → ControlGives test a kind b → test a kind b ≡ true

-- S3: a keeper that may be granted a's capabilities may do what a may
abbrev pub KeepersAreGranted : EdgeTest → Keepers → Type 0
KeepersAreGranted test Keeps =
    (a b : ℕ) (kind : Kind) (to : ℕ) → Keeps b → GrantGives test a b kind to → test b kind to ≡ true

-- S4: each label in a keeper's domain has derive to each label that the keeper controls
abbrev pub KeepersDerive : EdgeTest → Keepers → Type 0
KeepersDerive test Keeps = (a x y : ℕ) → IsInDomain test a x → MayPut test Keeps a y → test x Derive y ≡ true

-- S5: each label in the domain of a label whose capabilities a keeper may be granted has derive to each label that the keeper controls
abbrev pub GrantsDerive : EdgeTest → Keepers → Type 0
GrantsDerive test Keeps =
    (a b x y : ℕ) → MayBeGranted test a b → IsInDomain test a x → MayPut test Keeps b y → test x Derive y ≡ true

-- S5, the other half: two derive edges in a row need a third
abbrev pub DerivesOn : EdgeTest → Type 0
DerivesOn test = (x y z : ℕ) → test x Derive y ≡ true → test y Derive z ≡ true → test x Derive z ≡ true

-- S6: a label that another controls may run on each context that the other may bind
abbrev pub BoundRun : EdgeTest → Type 0
BoundRun test = (a b s : ℕ) → test a Context s ≡ true → test a Control b ≡ true → test b Runs s ≡ true

-- a label may receive with a reply
pub record MayServe (test : EdgeTest) (server reply endpoint : ℕ) : Type 0 where
  pub names : test server Reply reply ≡ true
  pub receives : test server Receive endpoint ≡ true

-- S7: a reply may hold the threads of a label that may receive with it
abbrev pub HoldsServers : EdgeTest → Type 0
HoldsServers test = (server reply endpoint : ℕ) → MayServe test server reply endpoint → test reply Holds server ≡ true

-- S7, the other half: the reply may hold the threads that may call where that label receives
abbrev pub HoldsCallers : EdgeTest → Type 0
HoldsCallers test =
    (server reply endpoint caller : ℕ) → MayServe test server reply endpoint → test caller Call endpoint ≡ true
    → test reply Holds caller ≡ true

-- a thread of a label may wait for a message without a context: it may run on a context that some label may take from it
pub record MayIdle (test : EdgeTest) (b : ℕ) : Type 0 where
  pub context : ℕ
  pub runs : test b Runs context ≡ true
  pub owner : ℕ
  pub owns : test owner Context context ≡ true

-- S8: a label that may receive with a reply, and may wait without a context, may run on the contexts on which its callers may run
abbrev pub LendsToServers : EdgeTest → Type 0
LendsToServers test =
    (server reply endpoint caller context : ℕ) → MayServe test server reply endpoint → MayIdle test server
    → test caller Call endpoint ≡ true → test caller Runs context ≡ true → test server Runs context ≡ true

pub record IsSharplyClosed (test : EdgeTest) (Keeps : Keepers) : Type 0 where
  pub uses_rise : UsesRise test
  pub uses_fall : UsesFall test Keeps
  pub keepers_have_all : KeepersHaveAll test Keeps
  pub keepers_are_granted : KeepersAreGranted test Keeps
  pub keepers_derive : KeepersDerive test Keeps
  pub grants_derive : GrantsDerive test Keeps
  pub derives_on : DerivesOn test
  pub bound_run : BoundRun test
  pub holds_servers : HoldsServers test
  pub holds_callers : HoldsCallers test
  pub lends_to_servers : LendsToServers test
