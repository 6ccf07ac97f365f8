-- Cut authority: the labels whose objects may shrink when a label deletes capabilities
-- (the deletions that 'seL4 Enforces Integrity', section 4, allows, restated for this profile).
use Rattle.std.specs.Prelude.{ℕ, ◌≡◌, ◌⊎◌, Bool, false, true}
use Rattle.base.specs.declared.kind.Kind.{Kind, TheVariants.{Await, Control, Derive, Holds, Receive, Reply, Runs, Send, Space}}
use Rattle.{base.specs.Kinds.is_structural, policy.specs.Domain.EdgeTest}

-- the kinds along which objects are linked: threads to what they wait at, run on or have as their space, replies to threads
abbrev pub is_link : Kind → Bool
is_link Send = true
is_link Receive = true
is_link Await = true
is_link Reply = true
is_link Space = true
is_link Runs = true
is_link Holds = true
is_link _ = false

-- at most one step along a link, either way
pub data IsNear (test : EdgeTest) (x y : ℕ) : Type 0 where
  stays : x ≡ y → IsNear test x y
  along : (kind : Kind) → is_link kind ≡ true → test x kind y ≡ true → IsNear test x y
  against : (kind : Kind) → is_link kind ≡ true → test y kind x ≡ true → IsNear test x y

-- a may remove capabilities there: at most one control edge leads there, then at most one derive edge
pub record IsBase (test : EdgeTest) (a base : ℕ) : Type 0 where
  pub controlled : ℕ
  pub control : (a ≡ controlled) ⊎ (test a Control controlled ≡ true)
  pub derive : (controlled ≡ base) ⊎ (test controlled Derive base ≡ true)

-- the kinds by which a capability leads to its object
abbrev pub IsHolding : Kind → Type 0
IsHolding kind = (is_structural kind ≡ false) ⊎ (kind ≡ Space)

-- from where a may remove capabilities, to the label of a capability's object, and on to l by at most two links
pub record IsCut (test : EdgeTest) (a l : ℕ) : Type 0 where
  pub base : ℕ
  pub based : IsBase test a base
  pub reached : ℕ
  pub edge : (base ≡ reached) ⊎ ((kind : Kind) × (IsHolding kind) × (test base kind reached ≡ true))
  pub near : ℕ
  pub one : IsNear test reached near
  pub two : IsNear test near l
