use Rattle.microkit.proofs.Outlined.{texts_are_outlined}
use Rattle.microkit.proofs.laws.a_description_says_what_its_text_says.Goals as goal

pub returns : goal.returns
returns c = λ text nodes d read e. texts_are_outlined text nodes d (c.a_document_is_spelled.ensures text nodes read) read e
