use Rattle.std.proofs.Common.{arith}
use Rattle.policy.{specs.{Policy.allows, Walks.Leads}, proofs.Leading.{first_at_label, one_label_more}}
use Rattle.policy.proofs.policy.Policy.first_edge.Goals.{in-Some+in_default-first_edge_of, in_default}
use Rattle.policy.proofs.policy.Policy.first_edge.Goals as goal
use mathlib.Core.Bool.{false≢true}

pub returns-in-Some-first_edge_of : goal.returns-in-Some-first_edge_of
returns-in-Some-first_edge_of c =
    first_at_label (Leads (allows c.args.self.now) c.args.step.now c.args.from c.args.goals) c.loop-number.number c.in-Some.start c.in-Some.ensures.value
    c.loop-number.invariant c.in-Some-first_edge_of.edge c.in-Some-first_edge_of.ensures

pub loop-number-preserved : goal.loop-number-preserved
loop-number-preserved c = elim c.match-new.branch [
  | in-Some+in_default-first_edge_of w ↦
      one_label_more (Leads (allows c.args.self.now) c.args.step.now c.args.from c.args.goals) c.loop-number.number w.in-Some.start w.in-Some.ensures.value
      c.loop-number.invariant w.in_default-first_edge_of.ensures
  | in_default w ↦ absurd (false≢true (w.in_default.ensures.valid.1 (omega arith)))
]
