use Rattle.std.proofs.Common.{◌∙◌, sym}
use Rattle.{policy.specs.Policy.allows, verdict.proofs.OutsidePlaces.{capability_by, least_lacking, not_given}}
use Rattle.verdict.proofs.excess.slots.capability_at.Goals as goal

pub returns-then-not-gives : goal.returns-then-not-gives
returns-then-not-gives c =
    not_given c.args.table.now (allows c.args.policy.now) c.args.state.now c.args.slot.holder c.args.from c.requires.from c.args.slot.index
    c.args.kind c.args.held.now c.requires.held (sym c.gives.ensures ∙ c.if-not-gives.true)

pub returns : goal.returns
returns c =
    let t = c.args.table.now in
    let allowed = allows c.args.policy.now in
    let m = c.args.state.now in
    least_lacking t allowed m
    (capability_by t allowed m c.args.slot.holder c.args.from c.requires.from c.args.slot.index c.args.kind c.args.held.now c.requires.held
    c.requires.node (sym c.gives.ensures ∙ c.if-not-gives.false))
    c.missing_label.result c.missing_label.ensures c.in_ok-label.label c.in_ok-label.was
