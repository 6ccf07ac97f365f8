-- The conditions of a handover hold for a context that is given back.
use Rattle.std.proofs.Common.{◌∙◌, sym}
use Rattle.replies.proofs.Returning.{called_free, called_there, invoker_runs}
use Rattle.replies.proofs.answering.give_back.Goals as goal

pub hand_over-requires-clause-runs : goal.hand_over-requires-clause-runs
hand_over-requires-clause-runs c =
    invoker_runs c.args.state.now c.args.invoker c.args.called (sym c.gives_back.ensures ∙ c.if-gives_back.true)

pub hand_over-requires-clause-thread : goal.hand_over-requires-clause-thread
hand_over-requires-clause-thread c =
    called_there c.args.state.now c.args.invoker c.args.called (sym c.gives_back.ensures ∙ c.if-gives_back.true)

pub hand_over-requires-clause-free : goal.hand_over-requires-clause-free
hand_over-requires-clause-free c =
    called_free c.args.state.now c.args.invoker c.args.called (sym c.gives_back.ensures ∙ c.if-gives_back.true)
