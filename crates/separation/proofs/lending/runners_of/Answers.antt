use Rattle.std.proofs.Common.{◌∙◌, ap}
use Rattle.{microkit.specs.View.description_of, separation.{specs.Lending.with_called, proofs.Levels.{called_more, called_none}}}
use Rattle.separation.proofs.lending.runners_of.Goals as goal

pub loop-calls-init : goal.loop-calls-init
loop-calls-init c =
    c.in_ok-runners.ensures.items ∙ called_none (description_of c.args.description.now) c.args.domain

pub loop-calls-preserved : goal.loop-calls-preserved
loop-calls-preserved c =
    c.in_ok-runners-2.ensures
    ∙ ap (with_called (description_of c.args.description.now)) (c.deref.ensures.value ∙ c.loop-calls.invariant)
    ∙ called_more (description_of c.args.description.now) c.args.domain c.loop-calls._calls
