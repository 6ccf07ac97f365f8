-- That the result is the lesser of a thread's context and the context that it lent, of those whose edge is lacking.
use Rattle.std.{specs.Prelude.◌↔◌, proofs.Common.{[], ◌∷◌, ◌≡◌, Option, Some, subst, sym}}
use Rattle.{base.specs.declared.ids.ObjId.ObjId, policy.specs.{Places.FindsLeast, Policy.allows}}
use Rattle.verdict.specs.{declared.denial.Denial.Denial, Outside.LiesUnder, Rules.a4, Verdict.place_of}
use Rattle.verdict.proofs.OutsidePlaces.{IsLacked, least_binding, no_binding}
use Rattle.verdict.proofs.excess.links.binding_at.Goals as goal

pub returns : goal.returns
returns c =
    let t = c.args.table.now in
    let allowed = allows c.args.policy.now in
    let m = c.args.state.now in
    let id = c.args.thread in
    let from = c.args.from in
    let bound = c.lacking-bound.result in
    let lent = c.lacking-lent.result in
    least_binding t allowed m id from c.requires bound lent c.lesser.result
    (subst (λ (looked : Option ObjId). (end : ObjId) → (bound ≡ Some end) ↔ IsLacked t allowed m id from c.requires looked end)
    c.context_of.ensures c.lacking-bound.ensures)
    (subst (λ (looked : Option ObjId). (end : ObjId) → (lent ≡ Some end) ↔ IsLacked t allowed m id from c.requires looked end)
    c.lent_context.ensures c.lacking-lent.ensures)
    c.lesser.ensures.is_one c.lesser.ensures.is_lesser c.in_ok-context.context c.in_ok-context.was

pub returns-in_err-context : goal.returns-in_err-context
returns-in_err-context c =
    let t = c.args.table.now in
    let allowed = allows c.args.policy.now in
    let m = c.args.state.now in
    let id = c.args.thread in
    let from = c.args.from in
    let bound = c.lacking-bound.result in
    let lent = c.lacking-lent.result in
    subst (λ (found : Option Denial). FindsLeast place_of (LiesUnder t allowed m (a4 ∷ id.0 ∷ [])) found) (sym c.from_residual.ensures)
    (no_binding t allowed m id from c.requires bound lent c.lesser.result
    (subst (λ (looked : Option ObjId). (end : ObjId) → (bound ≡ Some end) ↔ IsLacked t allowed m id from c.requires looked end)
    c.context_of.ensures c.lacking-bound.ensures)
    (subst (λ (looked : Option ObjId). (end : ObjId) → (lent ≡ Some end) ↔ IsLacked t allowed m id from c.requires looked end)
    c.lent_context.ensures c.lacking-lent.ensures)
    c.lesser.ensures.is_one c.lesser.ensures.is_lesser c.in_err-context.was)
