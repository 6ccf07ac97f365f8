-- A refusal tells as much of a lookup as the cause for which it is written.
use Rattle.std.proofs.{Common.{◌∙◌, Err, Ok, ap, refl}, lemmas.Result.err_from_is_err_and}
use Rattle.cspace.proofs.TargetLemmas.{target_refused_failed, target_refused_found}
use Rattle.cspace.proofs.target.lookup_target.Goals as goal

pub returns-in_err-resolve_target-clause-found : goal.returns-in_err-resolve_target-clause-found
returns-in_err-resolve_target-clause-found c = λ slot.
    let p = err_from_is_err_and c.from_residual.result c.from_residual.ensures.1 in
    target_refused_found c.args.state.now c.args.from c.args.index c.args.depth (Err c.in_err-resolve_target.field-0.0)
    c.from_residual.result (p.1 ∙ ap Err p.2) slot (c.in_err-resolve_target.ensures.found slot)

pub returns-in_err-resolve_target-clause-failed : goal.returns-in_err-resolve_target-clause-failed
returns-in_err-resolve_target-clause-failed c = λ cause.
    let p = err_from_is_err_and c.from_residual.result c.from_residual.ensures.1 in
    target_refused_failed c.args.state.now c.args.from c.args.index c.args.depth (Err c.in_err-resolve_target.field-0.0)
    c.from_residual.result (p.1 ∙ ap Err p.2) cause c.in_err-resolve_target.ensures.failed

pub returns-clause-found : goal.returns-clause-found
returns-clause-found c = λ slot.
    target_refused_found c.args.state.now c.args.from c.args.index c.args.depth (Ok c.in_ok-resolve_target.field-0)
    (Ok c.in_ok-resolve_target.field-0) refl slot (c.in_ok-resolve_target.ensures.found slot)

pub returns-clause-failed : goal.returns-clause-failed
returns-clause-failed c = λ cause.
    target_refused_failed c.args.state.now c.args.from c.args.index c.args.depth (Ok c.in_ok-resolve_target.field-0)
    (Ok c.in_ok-resolve_target.field-0) refl cause c.in_ok-resolve_target.ensures.failed
