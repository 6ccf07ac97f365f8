use Rattle.std.proofs.Common.{◌∙◌, ap, arith, length, refl, rules}
use Rattle.base.proofs.LeastMember.{least_member, no_member}
use Rattle.base.proofs.labels.members.MembersIterator.next.Goals as goal

pub returns-in_err-label-clause-steps : goal.returns-in_err-label-clause-steps
returns-in_err-label-clause-steps c =
    rw c.from_residual.ensures (let none = no_member c.args.self.now.rest c.in_err-label.ensures.none in (none, none))

pub returns-clause-steps : goal.returns-clause-steps
returns-clause-steps c =
    let first = c.in_ok-label.ensures.some in
    least_member c.args.self.now.rest c.difference-self.result c.in_ok-label.label (omega (arith, c.number.ensures.below)) first.0 first.1
    (λ l. c.difference-self.ensures l ∙ rw (c.only.ensures l) refl)

pub returns-clause-goes : goal.returns-clause-goes
returns-clause-goes c = record {
  on = λ finite. (tt, tt, omega (arith, ap length (returns-clause-steps c)));
  keeps = search rules;
  rests = search rules;
}
