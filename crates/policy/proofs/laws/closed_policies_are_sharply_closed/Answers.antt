use Rattle.policy.{specs.Sharp.Told, proofs.Sharpness.{closed_sharply, fewer_keepers}}
use Rattle.policy.proofs.laws.closed_policies_are_sharply_closed.Goals as goal

pub returns-clause-closed : goal.returns-clause-closed
returns-clause-closed c = λ test keeps. closed_sharply test (Told keeps)

pub returns-clause-fewer : goal.returns-clause-fewer
returns-clause-fewer c = λ test keeps fewer also. fewer_keepers test (Told keeps) (Told fewer) also
