use Rattle.{policy.specs.Policy.allows, verdict.proofs.OutsidePlaces.{holding_by, least_lacking}}
use Rattle.verdict.proofs.excess.links.holding_at.Goals as goal

pub returns : goal.returns
returns c =
    let t = c.args.table.now in
    let allowed = allows c.args.policy.now in
    let m = c.args.state.now in
    least_lacking t allowed m
    (holding_by t allowed m c.args.reply c.args.from c.requires c.held_by.result c.held_by.ensures c.in_ok-thread.thread c.in_ok-thread.was)
    c.missing_label.result c.missing_label.ensures c.in_ok-missing_label.field-0 c.in_ok-missing_label.was
