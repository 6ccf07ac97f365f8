use Rattle.xml.proofs.Nesting.{is_document}
use Rattle.xml.proofs.laws.a_document_is_spelled.Goals as goal

pub returns : goal.returns
returns c = is_document
