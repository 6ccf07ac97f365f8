use Rattle.{std.proofs.Common.{refl, subst}, base.specs.Labels.is_in}
use Rattle.policy.specs.{ActorReasons.{IsChangeBy, IsShrinkBy, change_edges, shrink_edges}, Policy.allows, Walks.FindsWalk}
use Rattle.policy.proofs.policy.Policy.why_among.Goals as goal

pub returns-in-Some-2 : goal.returns-in-Some-2
returns-in-Some-2 c =
    let test = allows c.args.self.now in
    let acts = is_in c.args.actors in
    let none = subst (FindsWalk (IsChangeBy test acts c.args.actor c.args.object)) c.in_default.is c.in_ok-edges.ensures in (
      λ may. none (change_edges may.way) (may, refl),
      subst (FindsWalk (IsShrinkBy test acts c.args.actor c.args.object)) c.in-Some-2.is c.in_ok-edges-2.ensures,
    )

pub returns-in-None : goal.returns-in-None
returns-in-None c =
    let test = allows c.args.self.now in
    let acts = is_in c.args.actors in
    let no_change = subst (FindsWalk (IsChangeBy test acts c.args.actor c.args.object)) c.in_default.is c.in_ok-edges.ensures in
    let no_shrink = subst (FindsWalk (IsShrinkBy test acts c.args.actor c.args.object)) c.in-None.is c.in_ok-edges-2.ensures in
    (λ may. no_change (change_edges may.way) (may, refl), λ may. no_shrink (shrink_edges may.way) (may, refl))
