use Rattle.std.{specs.Prelude.List, proofs.Common.{[], ◌∷◌, subst}}
use Rattle.base.specs.{declared.labels.Labels.Labels, Labels.is_in}
use Rattle.policy.{specs.{Policy.allows, Steps.IsSource}, proofs.Gathering.Tells}
use Rattle.summary.{specs.Sources.{IsJoint, SourcesOf}, proofs.Waiting.joint_sources}
use Rattle.summary.proofs.sources.Sources.of.Goals as goal

pub returns : goal.returns
returns c from =
    let rows = c.self.inside.rows.items in
    let ends = c.args.ends in
    subst (λ (s : SourcesOf). Tells (is_in c.join.result from) (IsSource (allows s.edges) (s.kind ∷ []) ends from)) c.self.view_is
    (joint_sources c.self.inside.policy.now c.self.inside.kind rows ends from (is_in c.join.result from) c.edges_rise.ensures.labels c.self.invariant
    (subst (λ (rows : List Labels). Tells (is_in c.join.result from) (IsJoint rows ends from)) c.deref.ensures.value (c.join.ensures from)))
