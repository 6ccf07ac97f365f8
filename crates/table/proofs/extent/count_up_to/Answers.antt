-- Starts rise, so a partition point counts those up to an address.
use Rattle.std.proofs.{Common.{nat_le, rules}, lemmas.Bool.{leb-false, leb-true}}
use Rattle.{std.proofs.lemmas.List.Sorted.{IsPartitionPoint-from_clause, IsPartitionedBy-leb}, table.proofs.ApartLemmas.starts_rise}
use Rattle.table.proofs.extent.count_up_to.Goals as goal

pub returns-clause-parted : goal.returns-clause-parted
returns-clause-parted c =
    let parted =
    IsPartitionPoint-from_clause (λ other. nat_le other.start c.args.address) _ _ c.partition_point.ensures.partitioned
    (IsPartitionedBy-leb (λ extent. extent.start) _ c.args.address (starts_rise _ c.requires)) (λ a r f' k. search rules) in
    (λ k d low below. leb-true _ _ (parted.0 k d low below), λ k d from within. leb-false _ _ (parted.1 k d from within))
