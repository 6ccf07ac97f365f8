-- A lookup is a walk from the thread's root, and ends where the chain does.
use Rattle.std.proofs.Common.{◌∙◌, ◌≡◌, Err, ap, arith, sym}
use Rattle.base.specs.declared.refusal.{Cause.TheVariants.FailedLookup, LookupFailure.TheVariants.InvalidRoot}
use Rattle.machine.specs.Lookup.{counted, lookup_of}
use Rattle.cspace.{specs.Strings.level_shown, proofs.{EndLemmas.{failed_where, found_where, not_missing, one_way}, LookupLemmas.ends}}
use Rattle.cspace.proofs.{RadixLemmas.takes_bits, RootLemmas.{counted-shown, failed-cases, lookup_of-none, lookup_of-some}}
use Rattle.cspace.proofs.walk.resolve.Goals as goal

pub returns-in_default : goal.returns-in_default
returns-in_default c =
    let m = c.args.state.now in
    let takes = takes_bits m c.cnodes_take_bits.ensures in
    let value : Err (FailedLookup InvalidRoot) ≡ lookup_of m c.args.thread c.args.address =
    sym (lookup_of-none m c.args.thread c.args.address (sym c.in_default.ensures)) in
    record {
      value = value;
      found = found_where m c.args.thread c.args.address _ takes value;
      failed = failed_where m c.args.thread c.args.address _ takes value;
      either = ends m c.args.thread c.args.address takes;
      unique = λ slot other left remainder. one_way m c.args.thread c.args.address slot other left remainder takes;
      never_missing = not_missing m c.args.thread c.args.address _ takes value;
    }

pub returns : goal.returns
returns c =
    let m = c.args.state.now in
    let takes = takes_bits m c.cnodes_take_bits.ensures in
    let value : c.map_err.result ≡ lookup_of m c.args.thread c.args.address =
    failed-cases c.walk.result c.map_err.result c.map_err.ensures.cases ∙ sym (counted-shown c.args.address c.walk.result)
    ∙ ap counted (c.walk.ensures 65 (omega arith))
    ∙ sym (lookup_of-some m c.args.thread c.args.address (level_shown c.in-Some.root) (sym c.in-Some.ensures)) in
    record {
      value = value;
      found = found_where m c.args.thread c.args.address _ takes value;
      failed = failed_where m c.args.thread c.args.address _ takes value;
      either = ends m c.args.thread c.args.address takes;
      unique = λ slot other left remainder. one_way m c.args.thread c.args.address slot other left remainder takes;
      never_missing = not_missing m c.args.thread c.args.address _ takes value;
    }
