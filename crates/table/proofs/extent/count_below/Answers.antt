-- Starts rise, so a partition point counts those below an address.
use Rattle.std.proofs.{Common.{nat_lt, rules}, lemmas.Bool.{ltb-false, ltb-true}}
use Rattle.{std.proofs.lemmas.List.Sorted.{IsPartitionPoint-from_clause, IsPartitionedBy-ltb}, table.proofs.ApartLemmas.starts_rise}
use Rattle.table.proofs.extent.count_below.Goals as goal

pub returns-clause-parted : goal.returns-clause-parted
returns-clause-parted c =
    let parted =
    IsPartitionPoint-from_clause (λ other. nat_lt other.start c.args.address) _ _ c.partition_point.ensures.partitioned
    (IsPartitionedBy-ltb (λ extent. extent.start) _ c.args.address (starts_rise _ c.requires)) (λ a r f' k. search rules) in
    (λ k d low below. ltb-true _ _ (parted.0 k d low below), λ k d from within. ltb-false _ _ (parted.1 k d from within))
