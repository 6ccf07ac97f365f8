use Rattle.{policy.specs.Sharp.Told, sharp.proofs.Unbroken.{sharply_closed_if, unbroken}}
use Rattle.sharp.proofs.laws.sharply_closed_policies_are_unbroken.Goals as goal

pub returns : goal.returns
returns c test keeps = (unbroken test (Told keeps), sharply_closed_if test (Told keeps))
