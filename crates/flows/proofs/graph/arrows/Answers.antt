-- The arrows are the flows by objects of the label itself, or of none that acts, and those by objects of the other label.
use Rattle.std.proofs.Common.{◌&&◌, ◌↔◌, ◌∙◌, ◌≡◌, ap, not, subst, true}
use Rattle.{base.specs.{declared.labels.Labels.Labels, Labels.is_in}, reach.specs.{Extents.limits_of, Reach.TableReach}}
use Rattle.flows.{specs.Flowing.FlowsBeside, proofs.Arrows.arrows_told}
use Rattle.flows.proofs.graph.arrows.Goals as goal

pub returns : goal.returns
returns c y =
    let reach = c.args.reach.now in
    let from = c.args.from in
    let beside = c.next_beside-beside.result in
    arrows_told (limits_of reach) from c.difference-others.result
    (λ l. c.difference-others.ensures l
    ∙ ap (λ (labels : Labels). is_in labels l && not (is_in c.only.result l)) c.actors.ensures.actors
    ∙ ap (λ b. is_in reach.actors l && not b) (c.only.ensures l)) y (is_in beside y) (is_in c.changed_by-changed.result y)
    (is_in c.shrunk_by-shrunk.result y) (is_in c.union.result y) (is_in c.union-2.result y)
    (subst (λ (r : TableReach). (is_in beside y ≡ true) ↔ FlowsBeside (limits_of r) (is_in c.difference-others.result) from y) c.requires
    (c.next_beside-beside.ensures y))
    (c.changed_by-changed.ensures.changed y) (c.shrunk_by-shrunk.ensures.shrunk y) (c.union.ensures y) (c.union-2.ensures y)
