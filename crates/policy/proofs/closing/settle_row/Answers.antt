use Rattle.{std.proofs.Common.arith, policy.{specs.Policy.allows, proofs.{ClosingGrowth.grows_by_join, ClosingSets.settled_if_none}}}
use Rattle.policy.proofs.closing.settle_row.Goals as goal

pub returns-in-None-clause-settled : goal.returns-in-None-clause-settled
returns-in-None-clause-settled c = λ is.
    settled_if_none (allows c.args.policy.now) c.args.from c.args.kind c.missing-lacks.result c.missing-lacks.ensures c.in-None.ensures.none

pub returns-in_ok-add_row-in-Some-clause-grows : goal.returns-in_ok-add_row-in-Some-clause-grows
returns-in_ok-add_row-in-Some-clause-grows c =
    grows_by_join c.args.policy.now c.add_row.new.self c.args.from c.args.kind c.missing-lacks.result c.in-Some.first (λ to. (c.missing-lacks.ensures to).0)
    c.in_ok-add_row-in-Some.ensures (omega (arith, c.number.ensures.value, c.number.ensures.below)) c.in-Some.ensures.some.0
