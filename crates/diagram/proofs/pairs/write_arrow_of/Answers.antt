-- That each arrow has the first edge of the reason for an authority.
use Rattle.std.proofs.Common.{◌<◌, ◌∙◌, List, length, string_bytes, subst, sym}
use Rattle.base.specs.declared.edge.Edge.{Edge}
use Rattle.policy.specs.{ActorReasons.{IsChangeBy, IsShrinkBy, IsWhyAmong}, Places.IsLeast, Reasons.reason_place}
use Rattle.reach.specs.Extents.{limits_by}
use Rattle.diagram.proofs.PairArrows.{adds_dashed, adds_itself, adds_nothing, adds_solid, differ, change_reason_there, shrink_reason_there}
use Rattle.diagram.proofs.pairs.write_arrow_of.Goals as goal
use mathlib.Core.Bool.{false≢true}

pub returns-then-eq : goal.returns-then-eq
returns-then-eq c =
    adds_itself (limits_by c.args.policy.now c.args.actors) c.args.table.now c.args.actor c.args.object (string_bytes c.args.text.now)
    (sym c.eq.ensures ∙ c.if-eq.true)

pub returns-then-not-may_shrink : goal.returns-then-not-may_shrink
returns-then-not-may_shrink c =
    adds_nothing (limits_by c.args.policy.now c.args.actors) c.args.table.now c.args.actor c.args.object (string_bytes c.args.text.now)
    (sym c.eq.ensures ∙ c.if-eq.false)
    (λ may. false≢true (sym c.if-not-changes.true ∙ c.may_change-changes.ensures.1 may))
    (λ may. false≢true (sym c.if-not-may_shrink.true ∙ c.may_shrink.ensures.1 may))

pub write_arrow-requires : goal.write_arrow-requires
write_arrow-requires c =
    let limits = limits_by c.args.policy.now c.args.actors in
    let a = c.args.actor in
    let l = c.args.object in
    let why = subst (IsWhyAmong limits.test limits.acts a l) c.in-Full.is c.in_ok-edges.ensures in
    let there = change_reason_there limits a l c.in-Full.edges.items (differ a l (sym c.eq.ensures ∙ c.if-eq.false)) why.has in
    subst (λ (edges : List Edge). 0 < length edges) (sym c.deref.ensures.value) there

pub write_arrow-requires-in-Take : goal.write_arrow-requires-in-Take
write_arrow-requires-in-Take c =
    let limits = limits_by c.args.policy.now c.args.actors in
    let a = c.args.actor in
    let l = c.args.object in
    let why = subst (IsWhyAmong limits.test limits.acts a l) c.in-Take.is c.in_ok-edges.ensures in
    let there = shrink_reason_there limits a l c.in-Take.edges.items why.1.has in
    subst (λ (edges : List Edge). 0 < length edges) (sym c.deref-in-Take.ensures.value) there

pub returns-in_ok-write_arrow-in-Full : goal.returns-in_ok-write_arrow-in-Full
returns-in_ok-write_arrow-in-Full c =
    let limits = limits_by c.args.policy.now c.args.actors in
    let a = c.args.actor in
    let l = c.args.object in
    let why = subst (IsWhyAmong limits.test limits.acts a l) c.in-Full.is c.in_ok-edges.ensures in
    adds_solid limits c.args.table.now a l c.deref.result.now (string_bytes c.args.text.now) (string_bytes c.write_arrow.new.text)
    (sym c.eq.ensures ∙ c.if-eq.false)
    (subst (IsLeast reason_place (IsChangeBy limits.test limits.acts a l)) (sym c.deref.ensures.value) why)
    c.in_ok-write_arrow-in-Full.ensures

pub returns-in_ok-write_arrow-in-Take : goal.returns-in_ok-write_arrow-in-Take
returns-in_ok-write_arrow-in-Take c =
    let limits = limits_by c.args.policy.now c.args.actors in
    let a = c.args.actor in
    let l = c.args.object in
    let why = subst (IsWhyAmong limits.test limits.acts a l) c.in-Take.is c.in_ok-edges.ensures in
    adds_dashed limits c.args.table.now a l c.deref-in-Take.result.now (string_bytes c.args.text.now)
    (string_bytes c.write_arrow-in-Take.new.text) (sym c.eq.ensures ∙ c.if-eq.false) why.0
    (subst (IsLeast reason_place (IsShrinkBy limits.test limits.acts a l)) (sym c.deref-in-Take.ensures.value) why.1)
    c.in_ok-write_arrow-in-Take.ensures

pub returns-in-Nothing : goal.returns-in-Nothing
returns-in-Nothing c =
    let limits = limits_by c.args.policy.now c.args.actors in
    let a = c.args.actor in
    let l = c.args.object in
    let why = subst (IsWhyAmong limits.test limits.acts a l) c.in-Nothing.is c.in_ok-edges.ensures in
    adds_nothing limits c.args.table.now a l (string_bytes c.args.text.now) (sym c.eq.ensures ∙ c.if-eq.false) why.0 why.1
