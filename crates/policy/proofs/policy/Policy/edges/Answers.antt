use Rattle.std.proofs.{Common.{◌∙◌, ap, arith, false, subst, sym, true}, lemmas.List.append-nil}
use Rattle.policy.{specs.Policy.JoinsBelow, proofs.{Members.{Has, listed, one_more}, policy.Policy.edges.Goals.in-Some+else-contains}}
use Rattle.policy.proofs.policy.Policy.edges.Goals.{in-Some+then-contains+in_ok-push, in_default}
use Rattle.policy.proofs.policy.Policy.edges.Goals as goal

pub loop-number-preserved : goal.loop-number-preserved
loop-number-preserved c = elim c.match-edge_numbered.branch [
  | in-Some+then-contains+in_ok-push w ↦
      one_more (Has c.args.self.now) c.from-labels.result c.loop-number.number w.in-Some.edge true c.loop-number.edges.items c.match-edge_numbered.edges.items w.in-Some.ensures.1
      (sym w.contains.ensures ∙ w.if-contains.true) c.loop-number.invariant (ap (λ edges. edges.items) w.edges-is ∙ w.in_ok-push.ensures.items)
  | in-Some+else-contains w ↦
      one_more (Has c.args.self.now) c.from-labels.result c.loop-number.number w.in-Some.edge false c.loop-number.edges.items c.match-edge_numbered.edges.items w.in-Some.ensures.1
      (sym w.contains.ensures ∙ w.if-contains.false) c.loop-number.invariant (ap (λ edges. edges.items) w.edges-is ∙ sym (append-nil c.loop-number.edges.items))
  | in_default w ↦ absurd (w.in_default.ensures (omega arith))
]

pub returns : goal.returns
returns c =
    c.loop-number.invariant
    ∙ listed c.args.self.now c.edges_rise.ensures.rising c.from-labels.result
    (subst (λ n. JoinsBelow n c.args.self.now) (sym c.from-labels.ensures) c.span.ensures.joins) c.loop-number.number (omega (arith, c.loop-number.auto.number-end))
