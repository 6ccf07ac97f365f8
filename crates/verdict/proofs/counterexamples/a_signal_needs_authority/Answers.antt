use Rattle.verdict.proofs.Unallowed.{unallowed_signal, word_unallowed}
use Rattle.verdict.proofs.counterexamples.a_signal_needs_authority.Goals as goal

pub returns-clause-word : goal.returns-clause-word
returns-clause-word c = word_unallowed

pub returns-clause-signal : goal.returns-clause-signal
returns-clause-signal c = unallowed_signal
