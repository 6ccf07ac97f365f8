use Rattle.{policy.specs.Policy.allows, verdict.proofs.OutsidePlaces.{least_lacking, record_by}}
use Rattle.verdict.proofs.excess.links.record_at.Goals as goal

pub returns : goal.returns
returns c =
    let t = c.args.table.now in
    let allowed = allows c.args.policy.now in
    let m = c.args.state.now in
    least_lacking t allowed m
    (record_by t allowed m c.args.thread c.args.from c.requires c.args.kind c.kept_by.result c.kept_by.ensures c.in_ok-end.end c.in_ok-end.was)
    c.missing_label.result c.missing_label.ensures c.in_ok-label.label c.in_ok-label.was
