-- The labels that keep capabilities for CNodes, given the labels that hold some at boot (confine's own).
use Rattle.std.specs.Prelude.{ℕ, ◌≡◌, ◌⊎◌, false, true}
use Rattle.{base.specs.declared.kind.Kind.TheVariants.{Control, Space}, policy.specs.{Domain.EdgeTest, Sharp.KeeperTest}}

-- a label keeps capabilities: it holds some at boot, finds them with a label that keeps, or may be handed them by one
pub data KeepsFrom (test : EdgeTest) (holds : KeeperTest) : ℕ → Type 0 where
  held : {a : ℕ} → holds a ≡ true → KeepsFrom test holds a
  finds : {a b : ℕ} → KeepsFrom test holds b → test a Space b ≡ true → KeepsFrom test holds a
  handed : {a b : ℕ} → KeepsFrom test holds b → test b Control a ≡ true → KeepsFrom test holds a

-- a label that finds capabilities with a label that keeps by a test
pub record FindsThere (test : EdgeTest) (keeps : KeeperTest) (a : ℕ) : Type 0 where
  pub keeper : ℕ
  pub is_keeper : keeps keeper ≡ true
  pub finds : test a Space keeper ≡ true

-- a label that is controlled by one that keeps by a test
pub record IsHanded (test : EdgeTest) (keeps : KeeperTest) (a : ℕ) : Type 0 where
  pub keeper : ℕ
  pub is_keeper : keeps keeper ≡ true
  pub controls : test keeper Control a ≡ true

-- a label that doesn't keep by the test, but does by one step from those that do
pub record KeepsNext (test : EdgeTest) (keeps : KeeperTest) (a : ℕ) : Type 0 where
  pub joined : FindsThere test keeps a ⊎ IsHanded test keeps a
  pub missing : keeps a ≡ false
