use Rattle.{std.{specs.Prelude.List, proofs.Common.subst}, base.specs.{declared.labels.Labels.Labels, Labels.is_in}}
use Rattle.policy.{specs.Policy.allows, proofs.Gathering.Tells}
use Rattle.summary.{specs.{Sources.IsJoint, Ways.{IsHeldBy, WaysOf}}, proofs.Waiting.joint_callers}
use Rattle.summary.proofs.ways.Ways.answered.Goals as goal

pub returns : goal.returns
returns c l =
    let rows = c.self.inside.callers.items in
    let replies = c.args.replies in
    subst (λ (w : WaysOf). Tells (is_in c.join.result l) (IsHeldBy (allows w.edges) (is_in w.actors) replies l)) c.self.view_is
    (joint_callers c.self.inside.policy.now (is_in c.self.inside.actors) rows replies l (is_in c.join.result l) c.edges_rise.ensures.labels c.self.invariant.callers
    (subst (λ (rows : List Labels). Tells (is_in c.join.result l) (IsJoint rows replies l)) c.deref.ensures.value (c.join.ensures l)))
