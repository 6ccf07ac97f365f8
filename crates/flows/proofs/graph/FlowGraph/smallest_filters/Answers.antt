-- The sets that leave no way in the graph are those through which all flows go.
use Rattle.std.{specs.Result.IfOk, proofs.{Common.{◌&&◌, ◌==◌, ◌||◌, ◌∙◌, ◌≡◌, List, ap, arith, not, subst}, lemmas.Result.IfOk-weaker}}
use Rattle.{base.specs.{declared.labels.Labels.Labels, Labels.is_in}, reach.specs.{Extents.limits_of, Reach.TableReach}}
use Rattle.flows.specs.{Flowing.{FlowLeads, FlowLeads.starts}, Smallest.{IsFilterSet, IsSmallest}, Ways.Separates}
use Rattle.flows.proofs.Fewest.{separates_flows, smallest_alike}
use Rattle.flows.proofs.graph.FlowGraph.smallest_filters.Goals as goal

pub returns-then-number : goal.returns-then-number
returns-then-number c set filters =
    let same : c.args.from ≡ c.args.to = omega arith in
    filters.through (subst (λ n. FlowLeads (limits_of c.args.self.now) (is_in set) c.args.from n) same starts)

pub returns : goal.returns
returns c =
    let reach = c.self.inside.reach.now in
    let rows = c.self.inside.rows.items in
    let from = c.args.from in
    let to = c.args.to in
    let others = c.difference-others.result in
    subst (λ (r : TableReach). IfOk c.fewest.result (IsSmallest (IsFilterSet (limits_of r) from to) c.args.most)) c.self.view_is
    (IfOk-weaker c.fewest.result (IsSmallest (Separates rows from to others) c.args.most) (IsSmallest (IsFilterSet (limits_of reach) from to) c.args.most)
    (smallest_alike (Separates rows from to others) (IsFilterSet (limits_of reach) from to)
    (separates_flows (limits_of reach) rows c.self.invariant from to others
    (λ l. c.difference-others.ensures l
    ∙ ap (λ (labels : Labels). is_in labels l && not (is_in c.union-ends.result l)) c.actors.ensures.actors
    ∙ ap (λ b. is_in reach.actors l && not b)
    (c.union-ends.ensures l ∙ ap (λ b. b || is_in c.only-2.result l) (c.only.ensures l) ∙ ap (λ b. (l == from) || b) (c.only-2.ensures l))))
    c.args.most)
    (subst (λ (all : List Labels). IfOk c.fewest.result (IsSmallest (Separates all from to others) c.args.most)) c.deref.ensures.value c.fewest.ensures))
