use Rattle.std.{specs.Ordering.{is_lt, is_some_and}, proofs.Common.{◌∙◌, ap}}
use Rattle.policy.proofs.Order.{partial_cmp-of_code}
use Rattle.captext.proofs.policies.follows.Goals as goal

pub returns-in-Some : goal.returns-in-Some
returns-in-Some c =
    let lt = c.lt.ensures ∙ ap (is_some_and is_lt) (partial_cmp-of_code c.in-Some.last c.args.edge.now) in rw c.in-Some.is lt
