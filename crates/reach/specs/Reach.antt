-- The reach of a capability table: the least sharply closed policy that has all authority of the boot state, with the labels that may keep
-- capabilities for CNodes, those that may idle, and those whose threads make calls (confine's own; compare the policies that have all
-- authority of an initial state in 'seL4 Enforces Integrity', section 3).
use Rattle.std.specs.Prelude.{ℕ, ◌↔◌, ◌≡◌, List, true}
use Rattle.base.specs.{declared.{edge.Edge.Edge, labels.Labels.Labels}, Labels.is_in}
use Rattle.{machine.specs.{Boot.IsBoot, Layout.Layout, Machine.Machine}, table.specs.Rules.IsLawful}
use Rattle.policy.specs.{Closing.IsWithin, Domain.EdgeTest, Policy.allows, Sharp.MayIdle}
use Rattle.{integrity.specs.{Confined.IsConfined, Keeping.{IsSharp, MayKeep}}, reach.specs.Acting.IsActor}

-- the policy has all authority of the table's boot state
abbrev pub HasBootAuthority : Layout → EdgeTest → Type 0
HasBootAuthority t allowed = (boot : Machine) → IsBoot t boot → IsConfined t allowed boot

-- a sharply closed policy that has all authority of the boot state, and that is within every such policy
pub record IsReach (t : Layout) (edges : List Edge) : Type 0 where
  pub sharp : IsSharp t (allows edges)
  pub boot : HasBootAuthority t (allows edges)
  pub least : (allowed : EdgeTest) → IsSharp t allowed → HasBootAuthority t allowed → IsWithin (allows edges) allowed

-- a table with such a policy, and the labels that keep, that may idle and whose threads make calls by it
pub record TableReach : Type 0 where
  pub table : Layout
  pub policy : List Edge
  pub keepers : Labels
  pub idlers : Labels
  pub actors : Labels

pub record IsTableReach (reach : TableReach) : Type 0 where
  pub lawful : IsLawful reach.table
  pub least : IsReach reach.table reach.policy
  pub keepers : (a : ℕ) → (is_in reach.keepers a ≡ true) ↔ MayKeep reach.table (allows reach.policy) a
  pub idlers : (b : ℕ) → (is_in reach.idlers b ≡ true) ↔ MayIdle (allows reach.policy) b
  pub actors : (a : ℕ) → (is_in reach.actors a ≡ true) ↔ IsActor reach.table (allows reach.policy) a

-- the reach is that of this table
pub record IsReachOf (t : Layout) (reach : TableReach) : Type 0 where
  pub of_table : reach.table ≡ t
  pub is : IsTableReach reach
