use Rattle.commands.proofs.Findings.{finding_told}
use Rattle.commands.proofs.answer.denied.Goals as goal

pub returns : goal.returns
returns c = finding_told c.in_ok-text.ensures c.in_ok-new.ensures.ok c.found.ensures.finds
