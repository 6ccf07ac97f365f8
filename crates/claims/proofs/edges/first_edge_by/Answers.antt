-- The first edge that `readers` excludes is one by which a label that it bars reads.
use Rattle.{machine.specs.Layout.Layout, table.specs.Names.AreLabelsOf, policy.specs.Policy.allows}
use Rattle.claims.specs.Edges.{IsFirstEdgeBy, IsFirstRead, LacksEdgesOf, LacksReads}
use Rattle.claims.proofs.{FirstEdge.{if_some, readers_first, readers_lack}, Promised.if_none}
use Rattle.claims.proofs.edges.first_edge_by.Goals as goal

pub returns-in-Readers-clause-some : goal.returns-in-Readers-clause-some
returns-in-Readers-clause-some c =
    let test = allows c.args.policy.now in
    let claim = c.args.claim.now in
    if_some c.first_read.result (IsFirstRead test c.args.actor c.objects_of_only.result)
    (λ edge. (t : Layout) → AreLabelsOf t c.args.labels → IsFirstEdgeBy t test claim c.args.actor edge)
    (λ edge found t are.
    readers_first t test c.args.actor c.objects_of_only.result claim _ _ c.in-Readers.is c.others_of-others.result
    (c.others_of-others.ensures t are) c.objects_of_only.ensures edge found)
    c.first_read.ensures.some

pub returns-in-Readers-clause-none : goal.returns-in-Readers-clause-none
returns-in-Readers-clause-none c =
    let test = allows c.args.policy.now in
    let claim = c.args.claim.now in
    if_none c.first_read.result (LacksReads test c.args.actor c.objects_of_only.result)
    ((t : Layout) → AreLabelsOf t c.args.labels → LacksEdgesOf t test claim c.args.actor)
    (λ lacks t are.
    readers_lack t test c.args.actor c.objects_of_only.result claim _ _ c.in-Readers.is c.others_of-others.result
    (c.others_of-others.ensures t are) c.objects_of_only.ensures lacks)
    c.first_read.ensures.none
