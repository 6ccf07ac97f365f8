-- Extents to which a label goes with another by the reach of a table, and what every run then keeps (compare integrity in 'seL4 Enforces
-- Integrity', section 4; told of two labels it is confine's own).
use Rattle.{std.specs.Prelude.{ℕ, List}, base.specs.{declared.{edge.Edge.Edge, labels.Labels.Labels}, Labels.is_in}}
use Rattle.{machine.specs.Layout.Layout, policy.specs.{Change.{ActorTest, MayChange}, Domain.EdgeTest, NarrowTake.MayShrink, Policy.allows}}
use Rattle.integrity.specs.Apart.{NeverChanges, OnlyTakes}
use Rattle.reach.specs.{declared.extent.Extent.{Extent, Extent as extent}, Reach.TableReach}

-- the bounds of threads: the edges of a policy, and the labels whose threads make calls
pub record Limits : Type 0 where
  pub test : EdgeTest
  pub acts : ActorTest

-- the limits by these edges, if threads of these labels make calls
abbrev pub limits_by : List Edge → Labels → Limits
limits_by edges actors = record { test = allows edges; acts = is_in actors }

-- the limits by the reach of a table
abbrev pub limits_of : TableReach → Limits
limits_of reach = limits_by reach.policy reach.actors

-- threads of a label may change objects of another, or make them smaller

abbrev pub MayChangeIn : Limits → ℕ → ℕ → Type 0
MayChangeIn limits a l = MayChange limits.test limits.acts a l

abbrev pub MayShrinkIn : Limits → ℕ → ℕ → Type 0
MayShrinkIn limits a l = MayShrink limits.test limits.acts a l

-- a label goes this far with another, and no further
abbrev pub GoesTo : Limits → ℕ → ℕ → Extent → Type 0
GoesTo limits a l extent.Full = MayChangeIn limits a l
GoesTo limits a l extent.Take = (¬ MayChangeIn limits a l) × MayShrinkIn limits a l
GoesTo limits a l extent.Nothing = (¬ MayChangeIn limits a l) × (¬ MayShrinkIn limits a l)

-- what no step of a label's threads does to another label's objects, by the extent
abbrev pub KeepsTo : Layout → ℕ → ℕ → Extent → Type 0
KeepsTo t a l extent.Full = Unit {0}
KeepsTo t a l extent.Take = OnlyTakes t a l
KeepsTo t a l extent.Nothing = NeverChanges t a l
