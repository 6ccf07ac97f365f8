-- The clauses, by the lemmas of `FirstFaults`.
use Rattle.words.proofs.FirstFaults.{has_first_fault, is_text, not_both, one_first_fault, read_or_refused, reads, refuses}
use Rattle.words.proofs.first_fault.a_text_is_refused_for_its_first_fault.Goals as goal

pub returns-clause-refused : goal.returns-clause-refused
returns-clause-refused g c = λ f lines line wrong. (has_first_fault f lines line wrong, refuses f lines line wrong)

pub returns-clause-read : goal.returns-clause-read
returns-clause-read g c = λ f lines value. (is_text f lines value, reads f lines value)

pub returns-clause-either : goal.returns-clause-either
returns-clause-either g c = read_or_refused

pub returns-clause-never_both : goal.returns-clause-never_both
returns-clause-never_both g c = not_both

pub returns-clause-one : goal.returns-clause-one
returns-clause-one g c = one_first_fault
