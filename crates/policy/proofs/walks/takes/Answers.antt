use Rattle.std.proofs.Common.{◌∙◌}
use Rattle.policy.proofs.Walking.{any_is}
use Rattle.policy.proofs.walks.takes.Goals as goal

pub returns : goal.returns
returns c = c.contains.ensures.value ∙ any_is c.args.kinds.now c.args.kind
