-- The least sharply closed policy that has some edges; its keepers are the labels that keep capabilities for CNodes by its own edges
-- (confine's own).
use Rattle.{std.specs.Prelude.{Bool, List}, base.specs.{declared.{edge.Edge.Edge, labels.Labels.Labels}, Labels.is_in}}
use Rattle.policy.specs.{Closing.IsWithin, Domain.EdgeTest, Policy.allows, Settling.Grows, Sharp.{IsSharplyClosed, KeeperTest, Told}}
use Rattle.sharp.specs.Keeping.{KeepsFrom}

-- the least sharply closed policy that has the edges
pub record IsLeastSharp (edges : List Edge) (holds : KeeperTest) (policy : List Edge) : Type 0 where
  pub closed : IsSharplyClosed (allows policy) (KeepsFrom (allows policy) holds)
  pub has : IsWithin (allows edges) (allows policy)
  pub least : (other : EdgeTest) → IsSharplyClosed other (KeepsFrom other holds) → IsWithin (allows edges) other
      → IsWithin (allows policy) other

-- edges are added that every sharply closed policy with the old ones has, for these keepers; and whether there are any
pub record GrowsSharply (keeping : Labels) (old new : List Edge) (changed : Bool) : Type 0 where
  pub grows : Grows old new changed
  pub forced : (other : EdgeTest) → IsSharplyClosed other (Told (is_in keeping)) → IsWithin (allows old) other
      → IsWithin (allows new) other
