-- The edges that the sharp rules ask for, and the policies that have them all (confine's own).
use Rattle.std.specs.Prelude.{ℕ, ◌≡◌, false, true}
use Rattle.base.specs.declared.kind.Kind.{Kind, TheVariants.{Call, Context, Control, Derive, Holds, Runs}}
use Rattle.base.specs.Kinds.{is_structural}
use Rattle.policy.specs.{Closed.{ControlGives, IsLacking, MayBeGranted}, Domain.{EdgeTest, IsInDomain}, Sharp.{Keepers, MayIdle, MayPut, MayServe}}

-- all that the giver may do, the taker may do: it finds the giver's capabilities or has them put into its CNodes (S1), or it keeps and may
-- be granted them (S3)
pub data SharesSharply (test : EdgeTest) (Keeps : Keepers) (giver taker : ℕ) : Type 0 where
  finds : IsInDomain test taker giver → SharesSharply test Keeps giver taker
  puts : MayPut test Keeps giver taker → SharesSharply test Keeps giver taker
  grants : Keeps taker → MayBeGranted test giver taker → SharesSharply test Keeps giver taker

-- an edge that a label has from one that shares with it, or has by control as a keeper (S2)
pub data IsSharplyGiven (test : EdgeTest) (Keeps : Keepers) (Shares : ℕ → Type 0) (from : ℕ) (kind : Kind) (to : ℕ) : Type 0 where
  shared : (giver : ℕ) → Shares giver → is_structural kind ≡ false → test giver kind to ≡ true
      → IsSharplyGiven test Keeps Shares from kind to
  controlled : Keeps from → ControlGives test from kind to → IsSharplyGiven test Keeps Shares from kind to

-- a keeper that controls the child finds capabilities of the parent (S4) or is granted them (S5); or two derive edges lead there (S5)
pub data DerivesSharply (test : EdgeTest) (Keeps : Keepers) (parent child : ℕ) : Type 0 where
  put : (a : ℕ) → IsInDomain test a parent → MayPut test Keeps a child → DerivesSharply test Keeps parent child
  granted : (giver taker : ℕ) → MayBeGranted test giver taker → IsInDomain test giver parent → MayPut test Keeps taker child
      → DerivesSharply test Keeps parent child
  derived : (middle : ℕ) → test parent Derive middle ≡ true → test middle Derive child ≡ true
      → DerivesSharply test Keeps parent child

-- a label may be lent a context: it may idle, and may receive with a reply where a label calls that runs on the context
pub record IsLentSharply (test : EdgeTest) (b context : ℕ) : Type 0 where
  pub idles : MayIdle test b
  pub reply : ℕ
  pub endpoint : ℕ
  pub serves : MayServe test b reply endpoint
  pub lender : ℕ
  pub calls : test lender Call endpoint ≡ true
  pub runs : test lender Runs context ≡ true

-- a label may be bound to a context (S6), or be lent it (S8)
pub data RunsSharply (test : EdgeTest) (b context : ℕ) : Type 0 where
  bound : (a : ℕ) → test a Context context ≡ true → test a Control b ≡ true → RunsSharply test b context
  lent : IsLentSharply test b context → RunsSharply test b context

-- a reply may hold a label that may receive with it, or one that may call there (S7)
pub data HoldsSharply (test : EdgeTest) (reply thread : ℕ) : Type 0 where
  server : (endpoint : ℕ) → MayServe test thread reply endpoint → HoldsSharply test reply thread
  caller : (b endpoint : ℕ) → MayServe test b reply endpoint → test thread Call endpoint ≡ true → HoldsSharply test reply thread

-- an edge that the rules on its kind ask for, of a label with which some share
abbrev pub IsAskedAmong : EdgeTest → Keepers → (ℕ → Type 0) → ℕ → Kind → ℕ → Type 0
IsAskedAmong test Keeps Shares from Derive to = DerivesSharply test Keeps from to
IsAskedAmong test Keeps Shares from Runs to = RunsSharply test from to
IsAskedAmong test Keeps Shares from Holds to = HoldsSharply test from to
IsAskedAmong test Keeps Shares from kind to = IsSharplyGiven test Keeps Shares from kind to

-- an edge that a sharply closed policy has if it has the edges of this one
abbrev pub IsSharplyAsked : EdgeTest → Keepers → ℕ → Kind → ℕ → Type 0
IsSharplyAsked test Keeps from kind to = IsAskedAmong test Keeps (λ giver. SharesSharply test Keeps giver from) from kind to

-- an edge that is asked for and missing
abbrev pub IsMissingAmong : EdgeTest → Keepers → (ℕ → Type 0) → ℕ → Kind → ℕ → Type 0
IsMissingAmong test Keeps Shares from kind to = IsLacking (IsAskedAmong test Keeps Shares from kind to) (test from kind to)

-- no edge of this kind is missing at this label, with which some share
abbrev pub IsSettledAmong : EdgeTest → Keepers → (ℕ → Type 0) → ℕ → Kind → Type 0
IsSettledAmong test Keeps Shares from kind = (to : ℕ) → IsAskedAmong test Keeps Shares from kind to → test from kind to ≡ true

-- no edge of this kind is missing at this label
abbrev pub IsSharplySettled : EdgeTest → Keepers → ℕ → Kind → Type 0
IsSharplySettled test Keeps from kind = (to : ℕ) → IsSharplyAsked test Keeps from kind to → test from kind to ≡ true
