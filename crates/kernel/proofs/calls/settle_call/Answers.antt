-- A call that was made is a step, and so is one that was refused.
use Rattle.{std.proofs.Common.{subst, sym}, base.specs.declared.refusal.Refusal.Refusal}
use Rattle.machine.specs.{declared.call.{Made.TheVariants.{Blocked, Done}, Outcome.TheVariants.Refused}, Step.Step}
use Rattle.{steps.proofs.Steps.made_steps, kernel.proofs.Makings.refused_by_row}
use Rattle.kernel.proofs.calls.settle_call.Goals as goal

pub returns-in-Ok-Blocked-clause-stepped : goal.returns-in-Ok-Blocked-clause-stepped
returns-in-Ok-Blocked-clause-stepped c =
    made_steps c.args.state.now c.args.event.now Blocked c.make.new.state (rw c.in-Ok-Blocked.field-0-is at c.in-Ok-Blocked.ensures)

pub returns-in-Err-clause-stepped : goal.returns-in-Err-clause-stepped
returns-in-Err-clause-stepped c =
    let m = c.args.state.now in
    let next = c.make.new.state in
    subst (λ (refusal : Refusal). Step m c.args.event.now (Refused refusal) next) (sym c.from.ensures)
    (refused_by_row m next c.args.event.now c.in-Err.cause c.in-Err.ensures)

pub returns-clause-stepped : goal.returns-clause-stepped
returns-clause-stepped c =
    made_steps c.args.state.now c.args.event.now (Done c.in-Ok-Done.answer) c.make.new.state
    (rw c.in-Ok-Done.field-0-is at c.in-Ok-Done.ensures)
