use Rattle.runs.proofs.AsShown.{answered}
use Rattle.runs.proofs.showing.shows.Goals as goal

pub returns-clause-shown : goal.returns-clause-shown
returns-clause-shown c = λ shown.
    let found = c.in_ok-asked.ensures.asked shown in
    answered c.args.table.now c.args.question.now c.args.before.now c.args.last c.in-Some.old found.0 c.args.id
    (rw c.in-Some.is at c.in_ok-old.ensures.reached) found.1
