use Rattle.std.proofs.{Common.{◌∙◌, Bool, ap, filter, not, rules}, lemmas.Fn.filter_same}
use Rattle.{base.specs.declared.edge.Edge.Edge, policy.specs.Policy.allows}
use Rattle.report.proofs.closing.missing_edges.Goals as goal

pub returns : goal.returns
returns c =
    let lacked : Edge → Bool = λ edge. not (allows c.args.policy.now edge.from edge.kind edge.to) in
    record { missing = filter_same _ lacked _ (λ x b f' k. search rules) _ _ c.retain.ensures.filtered ∙ ap (filter lacked) c.in_ok-missing.ensures }
