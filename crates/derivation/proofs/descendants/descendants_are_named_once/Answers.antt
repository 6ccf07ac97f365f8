use Rattle.derivation.proofs.NamedOnce.{named_once}
use Rattle.derivation.proofs.descendants.descendants_are_named_once.Goals as goal

pub returns : goal.returns
returns c = named_once
