use Rattle.microkit.proofs.Parts.{names_tell}
use Rattle.microkit.proofs.names.objects_have_names_of_their_own.Goals as goal

pub returns : goal.returns
returns c = names_tell
