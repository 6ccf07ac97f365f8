use Rattle.{std.proofs.Common.subst, machine.specs.{Machine.Machine, Step.Step}, runs.proofs.AsShown.asked}
use Rattle.runs.proofs.showing.is_asked.Goals as goal

pub returns-clause-asked : goal.returns-clause-asked
returns-clause-asked c = λ so.
    let made = c.makes.ensures.made c.if-not-makes.false in
    let changes = c.in_ok-so.ensures.so so in (
      c.makes.new.state,
      asked c.args.table.now c.args.question.now c.args.old c.args.last made.0 c.makes.new.state c.args.id
          (subst (λ (m : Machine). Step m c.args.last made.0 c.makes.new.state) c.requires.same made.1) made.2
          (c.has_label.ensures.0 c.if-not-has_label.false) (c.is_labelled.ensures c.if-not-is_labelled.false) changes.0 changes.1,
    )
