-- Closing a policy in steps: the edges that the rules of closed policies ask for, and how missing ones are added (confine's own).
use Rattle.std.specs.Prelude.{ℕ, ◌<◌, ◌≡◌, ◌⊎◌, Bool, List, false, true}
use Rattle.base.specs.declared.{edge.Edge.Edge, kind.Kind.{Kind, TheVariants.{Derive, Holds, Runs}}, labels.Labels.Labels}
use Rattle.base.specs.declared.label.TheConstants.Label as Label
use Rattle.base.specs.{Kinds.is_structural, Labels.is_in}
use Rattle.policy.specs.{declared.broken.Broken.Broken as broken, Broken.Asks, Closed.{ControlGives, IsClosed, IsLacking, MayBeGranted}}
use Rattle.policy.specs.{Closing.IsWithin, Domain.{EdgeTest, IsInDomain}, Policy.allows}

-- the taker may do what the giver may: they are of one domain, or the taker may be granted the giver's capabilities
pub data Shares (test : EdgeTest) (giver taker : ℕ) : Type 0 where
  of_its_domain : IsInDomain test giver taker → Shares test giver taker
  of_their_domain : IsInDomain test taker giver → Shares test giver taker
  by_grant : MayBeGranted test giver taker → Shares test giver taker

-- an edge that its label shares with another, or has by control
pub data IsGiven (test : EdgeTest) (from : ℕ) (kind : Kind) (to : ℕ) : Type 0 where
  shared : (giver : ℕ) → Shares test giver from → is_structural kind ≡ false → test giver kind to ≡ true → IsGiven test from kind to
  controlled : ControlGives test from kind to → IsGiven test from kind to

-- an edge that closed policies have if they have the edges of this one, by the rules that ask for edges of its kind
abbrev pub IsAskedFor : EdgeTest → ℕ → Kind → ℕ → Type 0
IsAskedFor test from Derive to = Asks test (broken.DomainLacks from to) ⊎ Asks test (broken.DeriveLacks from to)
IsAskedFor test from Runs to = Asks test (broken.ContextLacks from to) ⊎ Asks test (broken.LentLacks from to)
IsAskedFor test from Holds to = Asks test (broken.ReplyLacks from to)
IsAskedFor test from kind to = IsGiven test from kind to

abbrev pub IsMissing : EdgeTest → ℕ → Kind → ℕ → Type 0
IsMissing test from kind to = IsLacking (IsAskedFor test from kind to) (test from kind to)

abbrev pub IsSettled : EdgeTest → ℕ → Kind → Type 0
IsSettled test from kind = (to : ℕ) → IsAskedFor test from kind to → test from kind to ≡ true

-- the edges of a kind from a label to each of a set are added, and no other
pub record Joins (old new : List Edge) (from : ℕ) (kind : Kind) (labels : Labels) : Type 0 where
  pub kept : IsWithin (allows old) (allows new)
  pub joined : (to : ℕ) → to < Label.COUNT → is_in labels to ≡ true → allows new from kind to ≡ true
  pub only : (start : ℕ) (way : Kind) (end : ℕ) → allows new start way end ≡ true
      → (allows old start way end ≡ true) ⊎ ((start ≡ from) × (way ≡ kind) × (is_in labels end ≡ true))

-- an edge that is in one policy, and not in another
pub record IsNew (old new : List Edge) : Type 0 where
  pub from : ℕ
  pub kind : Kind
  pub to : ℕ
  pub absent : allows old from kind to ≡ false
  pub present : allows new from kind to ≡ true

-- edges are added that every closed policy with the old ones has; and whether any is
pub record Grows (old new : List Edge) (changed : Bool) : Type 0 where
  pub kept : IsWithin (allows old) (allows new)
  pub forced : (other : EdgeTest) → IsClosed other → IsWithin (allows old) other → IsWithin (allows new) other
  pub added : changed ≡ true → IsNew old new
  pub same : changed ≡ false → new ≡ old
