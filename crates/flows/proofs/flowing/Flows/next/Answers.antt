use Rattle.{base.specs.Labels.is_in, reach.specs.Extents.limits_of, flows.proofs.FlowSets.flows_beside_none}
use Rattle.flows.proofs.flowing.Flows.next.Goals as goal

pub returns : goal.returns
returns c y =
    flows_beside_none (limits_of c.args.self.now) c.none.result c.none.ensures c.args.from y (is_in c.next_beside.result y) (c.next_beside.ensures y)
