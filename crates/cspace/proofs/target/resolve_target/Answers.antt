-- The lookup of a target ends where the chain does.
use Rattle.cspace.proofs.{RadixLemmas.takes_bits, TargetLemmas.{target_either, target_failed_where, target_found_where, target_not_missing}}
use Rattle.cspace.proofs.TargetLemmas.{target_one_way}
use Rattle.cspace.proofs.target.resolve_target.Goals as goal

pub returns : goal.returns
returns c =
    let m = c.args.state.now in
    let from = c.args.from in
    let index = c.args.index in
    let depth = c.args.depth in
    let value = c.walk_target.ensures in
    let takes = takes_bits m c.cnodes_take_bits.ensures in
    record {
      value = value;
      found = target_found_where m from index depth _ takes value;
      failed = target_failed_where m from index depth _ takes value;
      either = target_either m from index depth takes;
      unique = λ slot other. target_one_way m from index depth slot other takes;
      never_missing = target_not_missing m from index depth _ takes value;
    }
