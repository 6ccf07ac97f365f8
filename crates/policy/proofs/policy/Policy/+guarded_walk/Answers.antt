use Rattle.std.proofs.{Common.{◌∙◌, subst, sym}, lemmas.Bool.{eq-eqb, eqb-true}}
use Rattle.policy.specs.{Guarded.IsGuardedWalk, Places.IsLeast, Policy.allows, Reasons.reason_place, Walks.FindsWalk}
use Rattle.policy.proofs.{GuardedWalking.{goes_nowhere, least_turn, no_turn, stays_there}, policy.Policy.+guarded_walk.Goals.{else-eq, then-eq}}
use Rattle.policy.proofs.policy.Policy.+guarded_walk.Goals as goal
use mathlib.Core.Bool.{false≢true}

pub returns-in_default : goal.returns-in_default
returns-in_default t c =
    let test = allows c.args.self.now in
    let turns = c.args.turns.now in
    let from = c.args.from in
    let to = c.args.to in
    elim c.if-eq.branch [
      | then-eq w ↦
          subst (FindsWalk (IsGuardedWalk test turns from to)) (sym w.result-is)
          (subst (IsLeast reason_place (IsGuardedWalk test turns from to)) (sym w.new.ensures.items)
          (stays_there test turns c.in_default.ensures.cases from to (eqb-true from to (sym c.eq.ensures ∙ w.if-eq.true))))
      | else-eq w ↦
          subst (FindsWalk (IsGuardedWalk test turns from to)) (sym w.result-is)
          (goes_nowhere test turns c.in_default.ensures.cases from to (λ same. false≢true (sym w.if-eq.false ∙ c.eq.ensures ∙ eq-eqb from to same)))
    ]

pub returns-in_default-first_edge : goal.returns-in_default-first_edge
returns-in_default-first_edge t c =
    no_turn (allows c.args.self.now) c.in-Some.turn.now c.in-Some.rest.now c.guarded_reaching.result c.guarded-goals.result c.args.to
    c.guarded_reaching.ensures c.guarded-goals.ensures c.args.turns.now c.in-Some.ensures.cases.0 c.args.from c.in_default-first_edge.ensures

pub returns : goal.returns
returns t c =
    let test = allows c.args.self.now in
    let rest = c.in-Some.rest.now in
    let to = c.args.to in
    let edges = c.in-Some-2.edges.items in
    let first = c.in-Some-first_edge.ensures in
    let tail = subst (FindsWalk (IsGuardedWalk test rest c.end.result to)) c.in-Some-2.is c.in_ok-edges.ensures in
    subst (IsLeast reason_place (IsGuardedWalk test c.args.turns.now c.args.from to)) (sym c.in_ok-insert.ensures.items)
    (least_turn test c.in-Some.turn.now rest c.guarded_reaching.result c.guarded-goals.result to c.guarded_reaching.ensures c.guarded-goals.ensures
    c.args.turns.now c.in-Some.ensures.cases.0 c.args.from c.in-Some-first_edge.edge edges first.0 first.1
    (subst (λ next. IsLeast reason_place (IsGuardedWalk test rest next to) edges) c.end.ensures tail))
