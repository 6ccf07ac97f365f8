-- Each step keeps a machine well formed, and ends as the laws say.
use Rattle.kernel.proofs.calls.take_step.Goals as goal

pub returns-clause-ends : goal.returns-clause-ends
returns-clause-ends c =
    c.calls_are_refused_by_conditions.ensures.step c.args.state.now c.args.event.now c.settle.result c.settle.new.state
    c.settle.ensures.stepped

pub returns-clause-begun : goal.returns-clause-begun
returns-clause-begun c =
    c.calls_are_refused_by_conditions.ensures.begun c.args.state.now c.args.event.now c.settle.result c.settle.new.state
    c.settle.ensures.stepped

pub returns-clause-well_formed : goal.returns-clause-well_formed
returns-clause-well_formed c =
    c.steps_keep_machines_well_formed.ensures.step c.args.state.now c.args.event.now c.settle.result c.settle.new.state
    c.requires c.settle.ensures.stepped
