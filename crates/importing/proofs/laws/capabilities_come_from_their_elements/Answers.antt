use Rattle.importing.proofs.Elements.{caps_come}
use Rattle.importing.proofs.laws.capabilities_come_from_their_elements.Goals as goal

pub returns : goal.returns
returns c = caps_come
