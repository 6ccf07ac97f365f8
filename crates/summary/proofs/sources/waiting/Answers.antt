use Rattle.{base.specs.Labels.is_in, policy.proofs.Gathering.{both, itself_tells}}
use Rattle.summary.proofs.sources.waiting.Goals as goal

pub returns : goal.returns
returns c label =
    both (is_in c.intersection.result label) (is_in c.of.result label) (is_in c.args.actors label) (c.of.ensures label)
    (itself_tells (is_in c.args.actors label)) (c.intersection.ensures label)
