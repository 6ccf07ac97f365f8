-- A retype that was made is a step, and so is one that was refused.
use Rattle.{std.proofs.Common.{subst, sym}, base.specs.declared.refusal.Refusal.Refusal}
use Rattle.machine.specs.{declared.call.Outcome.{Outcome, TheVariants.Refused}, Step.Step}
use Rattle.{steps.proofs.Steps.made_steps, kernel.proofs.Makings.unmade_is}
use Rattle.kernel.proofs.calls.settle_retype.Goals as goal

pub returns-in-Ok-clause-stepped : goal.returns-in-Ok-clause-stepped
returns-in-Ok-clause-stepped c =
    let m = c.args.state.now in
    let next = c.make_with_memory.new.state in
    subst (λ (outcome : Outcome). Step m c.args.event.now outcome next) (sym c.from.ensures)
    (made_steps m c.args.event.now c.in-Ok.made next c.in-Ok.ensures)

pub returns-in-Err-clause-stepped : goal.returns-in-Err-clause-stepped
returns-in-Err-clause-stepped c =
    let m = c.args.state.now in
    let next = c.make_with_memory.new.state in
    subst (λ (refusal : Refusal). Step m c.args.event.now (Refused refusal) next) (sym c.from-in-Err.ensures)
    (unmade_is m next c.args.event.now c.in-Err.unmade c.requires.with_memory c.in-Err.ensures)
