-- A claim holds if no failure is told of it.
use Rattle.{std.proofs.Common.subst, machine.specs.Layout.Layout, table.specs.Names.AreLabelsOf}
use Rattle.{policy.specs.Policy.allows, reach.specs.Extents.{Limits, limits_of}}
use Rattle.claims.specs.{Holding.{Holds, HoldsOnEdges, HoldsOnPairs}, Rows.AreRowsByLabel}
use Rattle.claims.proofs.Promised.{ends_hold, if_none, only_holds, readers_hold, within_holds, without_holds}
use Rattle.claims.proofs.deciding.failure_of.Goals as goal

pub returns-in-AtMost-clause-none : goal.returns-in-AtMost-clause-none
returns-in-AtMost-clause-none c =
    let table = c.args.reach.now.table in
    let its = limits_of c.args.reach.now in
    let claim = c.args.claim.now in
    if_none c.pair_failure.result
    ((t : Layout) (limits : Limits) → AreLabelsOf t c.args.labels → AreRowsByLabel limits c.args.rows.now → HoldsOnPairs t limits claim)
    (Holds table its claim) (λ holds. ends_hold table its claim _ _ _ c.in-AtMost.is (holds table its c.requires.labels c.requires.rows))
    c.pair_failure.ensures.none

pub returns-in-Only-clause-none : goal.returns-in-Only-clause-none
returns-in-Only-clause-none c =
    let table = c.args.reach.now.table in
    let its = limits_of c.args.reach.now in
    let claim = c.args.claim.now in
    if_none c.pair_failure-in-Only.result
    ((t : Layout) (limits : Limits) → AreLabelsOf t c.args.labels → AreRowsByLabel limits c.args.rows.now → HoldsOnPairs t limits claim)
    (Holds table its claim) (λ holds. only_holds table its claim _ _ c.in-Only.is (holds table its c.requires.labels c.requires.rows))
    c.pair_failure-in-Only.ensures.none

pub returns-in-Within-clause-none : goal.returns-in-Within-clause-none
returns-in-Within-clause-none c =
    let table = c.args.reach.now.table in
    let its = limits_of c.args.reach.now in
    let claim = c.args.claim.now in
    if_none c.pair_failure-in-Within.result
    ((t : Layout) (limits : Limits) → AreLabelsOf t c.args.labels → AreRowsByLabel limits c.args.rows.now → HoldsOnPairs t limits claim)
    (Holds table its claim) (λ holds. within_holds table its claim _ _ c.in-Within.is (holds table its c.requires.labels c.requires.rows))
    c.pair_failure-in-Within.ensures.none

pub returns-in-Readers-clause-none : goal.returns-in-Readers-clause-none
returns-in-Readers-clause-none c =
    let table = c.args.reach.now.table in
    let its = limits_of c.args.reach.now in
    let claim = c.args.claim.now in
    if_none c.edge_failure.result ((t : Layout) → AreLabelsOf t c.args.labels → HoldsOnEdges t (allows c.policy.result.now) claim)
    (Holds table its claim)
    (λ holds. readers_hold table its claim _ _ c.in-Readers.is
    (subst (λ edges. HoldsOnEdges table (allows edges) claim) c.policy.ensures.policy (holds table c.requires.labels)))
    c.edge_failure.ensures.none

pub returns-in-Without-clause-none : goal.returns-in-Without-clause-none
returns-in-Without-clause-none c =
    let table = c.args.reach.now.table in
    let its = limits_of c.args.reach.now in
    let claim = c.args.claim.now in
    if_none c.edge_failure-in-Without.result
    ((t : Layout) → AreLabelsOf t c.args.labels → HoldsOnEdges t (allows c.policy-in-Without.result.now) claim)
    (Holds table its claim)
    (λ holds. without_holds table its claim _ _ _ c.in-Without.is
    (subst (λ edges. HoldsOnEdges table (allows edges) claim) c.policy-in-Without.ensures.policy (holds table c.requires.labels)))
    c.edge_failure-in-Without.ensures.none
