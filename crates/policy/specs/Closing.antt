-- Closing a policy: the least closed policy that has some edges (the closed policies are those of `Closed`; compare
-- 'seL4 Enforces Integrity', section 3, well-formed policies; closing one is confine's own).
use Rattle.std.specs.Prelude.{ℕ, ◌≡◌, List, true}
use Rattle.{base.specs.declared.{edge.Edge.Edge, kind.Kind.Kind}, policy.specs.{Closed.IsClosed, Domain.EdgeTest, Policy.allows}}

-- every edge of the one is an edge of the other
abbrev pub IsWithin : EdgeTest → EdgeTest → Type 0
IsWithin one other = (from : ℕ) (kind : Kind) (to : ℕ) → one from kind to ≡ true → other from kind to ≡ true

-- a closed policy that has the edges, and that is within every closed policy that has them
pub record IsLeastClosed (edges policy : List Edge) : Type 0 where
  pub closed : IsClosed (allows policy)
  pub has : IsWithin (allows edges) (allows policy)
  pub least : (other : EdgeTest) → IsClosed other → IsWithin (allows edges) other → IsWithin (allows policy) other
