-- That each question is answered as it asks.
use Rattle.report.proofs.asking.ask_policy.Goals as goal

pub returns-in-Close-clause-asked : goal.returns-in-Close-clause-asked
returns-in-Close-clause-asked g c = rw c.in-Close.is (rw c.in-Close.is at c.ask_as.ensures.asked)

pub returns-in-Close-clause-heard : goal.returns-in-Close-clause-heard
returns-in-Close-clause-heard g c = rw c.in-Close.is (rw c.in-Close.is at c.ask_as.ensures.heard)

pub returns-in-Why-clause-asked : goal.returns-in-Why-clause-asked
returns-in-Why-clause-asked g c = rw c.in-Why.is (rw c.in-Why.is at c.ask_as-in-Why.ensures.asked)

pub returns-in-Why-clause-heard : goal.returns-in-Why-clause-heard
returns-in-Why-clause-heard g c = rw c.in-Why.is (rw c.in-Why.is at c.ask_as-in-Why.ensures.heard)

pub returns-in-Draw-clause-asked : goal.returns-in-Draw-clause-asked
returns-in-Draw-clause-asked g c = rw c.in-Draw.is (rw c.in-Draw.is at c.ask_as-in-Draw.ensures.asked)

pub returns-in-Draw-clause-heard : goal.returns-in-Draw-clause-heard
returns-in-Draw-clause-heard g c = rw c.in-Draw.is (rw c.in-Draw.is at c.ask_as-in-Draw.ensures.heard)
