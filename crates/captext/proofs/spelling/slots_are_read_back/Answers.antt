use Rattle.captext.proofs.SlotLaws.{slot_iff, slot_once}
use Rattle.captext.proofs.spelling.slots_are_read_back.Goals as goal

pub returns : goal.returns
returns c = record { named = slot_iff; once = slot_once }
