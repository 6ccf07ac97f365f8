-- The domain of a label: the labels in which it finds its capabilities, which are one subject with it
-- ('seL4 Enforces Integrity', section 3, where a policy maps the objects of one subject to one label).
use Rattle.std.specs.Prelude.{ℕ, ◌≡◌, ◌⊎◌, Bool, false, true}
use Rattle.base.specs.{declared.kind.Kind.{Kind, TheVariants.{Control, Space}}, Kinds.is_structural}

-- whether a policy has an edge from a label, of a kind, to a label
abbrev pub EdgeTest : Type 0
EdgeTest = ℕ → Kind → ℕ → Bool

-- x is in the domain of a: its CNodes are a's capability space, or a controls it
abbrev pub IsInDomain : EdgeTest → ℕ → ℕ → Type 0
IsInDomain test a x = (test a Space x ≡ true) ⊎ (test a Control x ≡ true)

-- a kind of use, and two labels of one domain
pub record ShareUse (test : EdgeTest) (a b : ℕ) (kind : Kind) : Type 0 where
  pub domain : IsInDomain test a b
  pub of_use : is_structural kind ≡ false

-- P1: labels of one domain may do the same
abbrev pub SubjectsAgree : EdgeTest → Type 0
SubjectsAgree test = (a b : ℕ) (kind : Kind) → ShareUse test a b kind → (to : ℕ) → test a kind to ≡ test b kind to
