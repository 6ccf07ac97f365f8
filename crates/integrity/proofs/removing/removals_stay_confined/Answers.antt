use Rattle.integrity.proofs.RemovalConfined.{removed_confined, removed_of_table}
use Rattle.integrity.proofs.removing.removals_stay_confined.Goals as goal

pub returns-clause-confined : goal.returns-clause-confined
returns-clause-confined c = λ t allowed m chosen sound closed. removed_confined t m chosen allowed sound closed.derives_on

pub returns-clause-labelled : goal.returns-clause-labelled
returns-clause-labelled c = λ t allowed m chosen sound. removed_of_table t m chosen allowed sound
