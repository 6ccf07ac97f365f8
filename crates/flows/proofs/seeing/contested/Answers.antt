use Rattle.{std.proofs.Common.arith, base.specs.{declared.kind.Kind.TheVariants.Await, Labels.is_in}}
use Rattle.{policy.specs.Policy.allows, flows.proofs.Contested.twice_contested}
use Rattle.flows.proofs.seeing.contested.Goals as goal

pub returns : goal.returns
returns c l =
    let joins = c.span-number-end.ensures.joins in
    twice_contested (allows c.args.policy.now) (is_in c.args.actors) l c.loop-number.number (is_in c.loop-number.twice l)
    (λ a waits. let ends = joins a Await l waits.1 in omega (arith, ends.0)) (c.loop-number.invariant.twice l)
