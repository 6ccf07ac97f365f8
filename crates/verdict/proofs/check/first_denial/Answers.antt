-- That the first denial is by the policy's own rules, or else at a slot, or else of a binding.
use Rattle.{std.proofs.Common.subst, policy.specs.{Places.FindsLeast, Policy.allows}}
use Rattle.verdict.{specs.{Slots.BreaksSlots, Verdict.place_of}, proofs.FirstOfSet.{at_bindings, at_slots}}
use Rattle.verdict.proofs.check.first_denial.Goals as goal

pub returns-in-Some-2-clause-least : goal.returns-in-Some-2-clause-least
returns-in-Some-2-clause-least g c =
    let t = c.args.table.now in
    let allowed = allows c.args.policy.now in
    at_slots c.args.rules t allowed c.in_default.ensures c.in-Some-2.denial
    (subst (FindsLeast place_of (BreaksSlots t allowed)) c.in-Some-2.is c.in_ok-denial.ensures.least)

pub returns-clause-least : goal.returns-clause-least
returns-clause-least g c =
    let t = c.args.table.now in
    let allowed = allows c.args.policy.now in
    at_bindings c.args.rules t allowed c.in_default.ensures
    (subst (FindsLeast place_of (BreaksSlots t allowed)) c.in_default-2.is c.in_ok-denial.ensures.least) c.first_binding.result
    c.first_binding.ensures
