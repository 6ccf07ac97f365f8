-- A refusal tells as much of a lookup as the cause for which it is written.
use Rattle.std.proofs.{Common.{◌∙◌, Err, Ok, ap, refl}, lemmas.Result.err_from_is_err_and}
use Rattle.cspace.{specs.Chain.{Fails, Finds}, proofs.EndLemmas.{refused_failed, refused_found}}
use Rattle.cspace.proofs.walk.lookup.Goals as goal

pub returns-in_err-resolve-clause-found : goal.returns-in_err-resolve-clause-found
returns-in_err-resolve-clause-found c = λ slot left.
    let p = err_from_is_err_and c.from_residual.result c.from_residual.ensures.1 in
    refused_found (Finds c.args.state.now c.args.thread c.args.address slot left) (Err c.in_err-resolve.field-0.0)
    c.from_residual.result (p.1 ∙ ap Err p.2) (slot, left) (c.in_err-resolve.ensures.found slot left)

pub returns-in_err-resolve-clause-failed : goal.returns-in_err-resolve-clause-failed
returns-in_err-resolve-clause-failed c = λ failure.
    let p = err_from_is_err_and c.from_residual.result c.from_residual.ensures.1 in
    refused_failed (Fails c.args.state.now c.args.thread c.args.address failure) (Err c.in_err-resolve.field-0.0)
    c.from_residual.result (p.1 ∙ ap Err p.2) failure (c.in_err-resolve.ensures.failed failure)

pub returns-clause-found : goal.returns-clause-found
returns-clause-found c = λ slot left.
    refused_found (Finds c.args.state.now c.args.thread c.args.address slot left) (Ok c.in_ok-resolve.field-0)
    (Ok c.in_ok-resolve.field-0) refl (slot, left) (c.in_ok-resolve.ensures.found slot left)

pub returns-clause-failed : goal.returns-clause-failed
returns-clause-failed c = λ failure.
    refused_failed (Fails c.args.state.now c.args.thread c.args.address failure) (Ok c.in_ok-resolve.field-0)
    (Ok c.in_ok-resolve.field-0) refl failure (c.in_ok-resolve.ensures.failed failure)
