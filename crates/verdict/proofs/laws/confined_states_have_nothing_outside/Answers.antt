use Rattle.verdict.proofs.Outsides.{confined_within, within_confined}
use Rattle.verdict.proofs.laws.confined_states_have_nothing_outside.Goals as goal

pub returns : goal.returns
returns c = λ t allowed m. (within_confined t allowed m, confined_within t allowed m)
