use Rattle.std.proofs.Common.{◌∙◌, ap, not, sym}
use Rattle.{policy.{specs.Policy.allows, proofs.Stepping.some_common}, sharp.proofs.AskedSets.lent_told}
use Rattle.sharp.proofs.asked.lent.Goals as goal

pub returns : goal.returns
returns c =
    let reply = some_common c.first.result c.row.result (c.is_none.ensures ∙ ap not c.if-is_none.false) c.first.ensures.some in
    lent_told (allows c.args.policy.now) c.args.label reply.0 _ _ _ (sym (c.row.ensures reply.0) ∙ reply.1)
    ((c.idlers.ensures c.args.label).0 (sym c.has.ensures ∙ c.if-not-has.false)) c.row-2.ensures c.sources-callers.ensures c.targets.ensures
