-- That a question about a system and a policy ends with a status of at most 2.
use Rattle.std.proofs.Common.{◌≤◌}
use Rattle.commands.specs.declared.{choices.{OfPolicy.{OfPolicy, TheVariants.{Close, Draw, Why}}, Taken.Taken}, end.End.End}
use Rattle.{commands.specs.{Commands.{Input, Output}, Ends.status_of}, report.specs.Systems.IsAskedOfPolicy}
use Rattle.serving.proofs.engines.serve.Goals as goal

ends_within :
    {T P O : Type 0} (asked : OfPolicy) (taken : Taken) (system : Input T) (policy : Input P) (out : Output O) (end : End)
    → IsAskedOfPolicy asked taken system policy out end → status_of end ≤ 2
ends_within (Close set written) taken system policy out end is = is.done.exit
ends_within (Why form actor object) taken system policy out end is = is.done.exit
ends_within (Draw picture) taken system policy out end is = is.done.exit

pub returns-in-OfPolicy-clause-exit : goal.returns-in-OfPolicy-clause-exit
returns-in-OfPolicy-clause-exit g c = ends_within _ _ _ _ _ _ c.ask_policy-end.ensures.asked
