-- The text says that nothing flows, or tells the smallest sets and a chain.
use Rattle.std.{specs.Option.MatchOption, proofs.Common.{◌≡◌, codes, rules, subst}}
use Rattle.{base.specs.Labels.is_in, reach.specs.{Extents.limits_of, Reach.TableReach}}
use Rattle.flows.specs.{Chains.IsChain, Flowing.GoesThrough, Smallest.{IsFilterSet, IsSmallest}}
use Rattle.summary.specs.declared.flow.TheConstants.{MOST_SETS}
use Rattle.summary.{specs.FlowText.{IsFlowText.{none, some}, reached_text}, proofs.Avoiding.none_avoided}
use Rattle.summary.proofs.flow.flow_text.Goals as goal

pub returns-in-Some : goal.returns-in-Some
returns-in-Some c =
    let from = c.args.from in
    let to = c.args.to in
    let avoided = c.avoided-avoided.result in
    let flows = c.in_ok-flows.flows in
    let sets = c.in_ok-smallest.smallest in
    let links = c.in-Some.links.items in
    let chain : IsChain (limits_of flows) (is_in avoided) from links to =
    subst
    (λ found. MatchOption found (GoesThrough (limits_of flows) (is_in avoided) from to) (λ links. IsChain (limits_of flows) (is_in avoided) from links.items to))
    c.in-Some.is c.in_ok-links.ensures in
    let text : c.into_bytes.result.items ≡ reached_text c.args.reach.now.table sets links = search rules in
    some sets avoided links
    (subst (λ (r : TableReach). IsSmallest (IsFilterSet (limits_of r) from to) MOST_SETS sets) c.in_ok-graph.ensures c.in_ok-smallest.ensures)
    c.avoided-avoided.ensures
    (subst (λ (r : TableReach). IsChain (limits_of r) (is_in avoided) from links to) c.in_ok-flows.ensures chain) text

pub returns : goal.returns
returns c =
    let from = c.args.from in
    let to = c.args.to in
    let avoided = c.avoided-avoided.result in
    let flows = c.in_ok-flows.flows in
    let limits = limits_of c.args.reach.now in
    let goes : GoesThrough (limits_of flows) (is_in avoided) from to =
    subst
    (λ found. MatchOption found (GoesThrough (limits_of flows) (is_in avoided) from to) (λ links. IsChain (limits_of flows) (is_in avoided) from links.items to))
    c.in-None.is c.in_ok-links.ensures in
    let through : GoesThrough limits (is_in avoided) from to =
    subst (λ (r : TableReach). GoesThrough (limits_of r) (is_in avoided) from to) c.in_ok-flows.ensures goes in
    let smallest : IsSmallest (IsFilterSet limits from to) MOST_SETS c.in_ok-smallest.smallest =
    subst (λ (r : TableReach). IsSmallest (IsFilterSet (limits_of r) from to) MOST_SETS c.in_ok-smallest.smallest) c.in_ok-graph.ensures
    c.in_ok-smallest.ensures in
    let text : c.into_bytes-in-None.result.items ≡ codes "none\n" = search rules in
    none avoided (none_avoided limits from to MOST_SETS c.in_ok-smallest.smallest avoided smallest c.avoided-avoided.ensures through) through text
