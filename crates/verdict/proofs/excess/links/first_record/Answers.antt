-- That the first place is at the first kind that has one.
use Rattle.std.proofs.{Common.arith, lemmas.Option.slice_get-get_or}
use Rattle.policy.{specs.Policy.allows, proofs.{KindNumbers.all_kinds, Places.{least_here, none_at_all, none_more}}}
use Rattle.verdict.proofs.OutsidePlaces.{kept_kinds}
use Rattle.verdict.proofs.excess.links.first_record.Goals as goal

pub returns-in-Some : goal.returns-in-Some
returns-in-Some c =
    least_here (kept_kinds c.args.table.now (allows c.args.policy.now) c.args.state.now c.args.thread c.args.from c.requires) c.loop-kind.kind-index _
    (slice_get-get_or all_kinds c.loop-kind.kind-index _ (omega arith)) c.loop-kind.invariant c.in-Some.denial c.in-Some.ensures

pub loop-kind-preserved : goal.loop-kind-preserved
loop-kind-preserved c =
    none_more (kept_kinds c.args.table.now (allows c.args.policy.now) c.args.state.now c.args.thread c.args.from c.requires) c.loop-kind.kind-index _
    (slice_get-get_or all_kinds c.loop-kind.kind-index _ (omega arith)) c.loop-kind.invariant c.in_default.ensures

pub returns : goal.returns
returns c =
    none_at_all (kept_kinds c.args.table.now (allows c.args.policy.now) c.args.state.now c.args.thread c.args.from c.requires) c.loop-kind.kind-index (omega arith)
    c.loop-kind.invariant
