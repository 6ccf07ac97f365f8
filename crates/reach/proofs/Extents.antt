-- Extents by the reach of a table: what every run keeps by them.
use Rattle.{std.proofs.Common.ℕ, base.specs.Labels.is_in, policy.specs.Policy.allows}
use Rattle.integrity.{specs.{Apart.{NeverChanges, OnlyTakes}, Safe.KeepsNarrowBounds}, proofs.Aparts.{never_changes, only_takes}}
use Rattle.reach.specs.{declared.extent.Extent.{Extent, Extent as extent}, Extents.{GoesTo, KeepsTo, MayChangeIn, MayShrinkIn, limits_of}}
use Rattle.reach.{specs.Reach.{IsTableReach, TableReach}, proofs.LeastReach.actors_told}

module _ (reach : TableReach) (is : IsTableReach reach) (bounds : KeepsNarrowBounds reach.table (allows reach.policy)) where
  pub apart :
      (a l : ℕ) → ¬ MayChangeIn (limits_of reach) a l → ¬ MayShrinkIn (limits_of reach) a l → NeverChanges reach.table a l
  apart a l change shrink =
      never_changes reach.table (allows reach.policy) (is_in reach.actors) (actors_told reach is) a l bounds change shrink

  pub takes : (a l : ℕ) → ¬ MayChangeIn (limits_of reach) a l → OnlyTakes reach.table a l
  takes a l change = only_takes reach.table (allows reach.policy) (is_in reach.actors) (actors_told reach is) a l bounds change

  pub kept_to : (a l : ℕ) (far : Extent) → GoesTo (limits_of reach) a l far → KeepsTo reach.table a l far
  kept_to a l extent.Full goes = tt
  kept_to a l extent.Take goes = takes a l goes.0
  kept_to a l extent.Nothing goes = apart a l goes.0 goes.1
