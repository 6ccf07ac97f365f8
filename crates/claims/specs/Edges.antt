-- The search for the first edge that a claim excludes, label by label (confine's own).
use Rattle.std.specs.Prelude.{ℕ, ◌<◌, ◌≡◌, false, true}
use Rattle.base.specs.{declared.{edge.Edge.Edge, kind.Kind.Kind, labels.Labels.Labels}, Kinds.kind_number, Labels.is_in}
use Rattle.{machine.specs.Layout.Layout, policy.specs.Domain.EdgeTest}
use Rattle.claims.specs.{declared.claim.Claim.Claim, Holding.{PairComesBefore, Excludes, IsReading}}

-- the first edge of a kind from this label to one of these
pub record IsFirstOfKind (test : EdgeTest) (a : ℕ) (kind : Kind) (objects : Labels) (edge : Edge) : Type 0 where
  pub by : edge.from ≡ a
  pub of_kind : edge.kind ≡ kind
  pub among : is_in objects edge.to ≡ true
  pub has : test a kind edge.to ≡ true
  pub first : (l : ℕ) → is_in objects l ≡ true → l < edge.to → test a kind l ≡ false

-- there is none
abbrev pub LacksKind : EdgeTest → ℕ → Kind → Labels → Type 0
LacksKind test a kind objects = (l : ℕ) → is_in objects l ≡ true → test a kind l ≡ false

-- the first edge by which this label reads one of these
pub record IsFirstRead (test : EdgeTest) (a : ℕ) (objects : Labels) (edge : Edge) : Type 0 where
  pub by : edge.from ≡ a
  pub reads : IsReading edge.kind
  pub among : is_in objects edge.to ≡ true
  pub has : test a edge.kind edge.to ≡ true
  pub first : (kind : Kind) (l : ℕ) → IsReading kind → is_in objects l ≡ true
      → PairComesBefore (kind_number kind) l (kind_number edge.kind) edge.to → test a kind l ≡ false

-- there is none
abbrev pub LacksReads : EdgeTest → ℕ → Labels → Type 0
LacksReads test a objects = (kind : Kind) (l : ℕ) → IsReading kind → is_in objects l ≡ true → test a kind l ≡ false

-- the first edge from this label that a claim excludes
pub record IsFirstEdgeBy (t : Layout) (test : EdgeTest) (claim : Claim) (a : ℕ) (edge : Edge) : Type 0 where
  pub by : edge.from ≡ a
  pub excluded : Excludes t claim a edge.kind edge.to
  pub has : test a edge.kind edge.to ≡ true
  pub first : (kind : Kind) (l : ℕ) → Excludes t claim a kind l → PairComesBefore (kind_number kind) l (kind_number edge.kind) edge.to
      → test a kind l ≡ false

-- there is none
abbrev pub LacksEdgesOf : Layout → EdgeTest → Claim → ℕ → Type 0
LacksEdgesOf t test claim a = (kind : Kind) (l : ℕ) → Excludes t claim a kind l → test a kind l ≡ false
