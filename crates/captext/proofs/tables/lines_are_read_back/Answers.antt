use Rattle.captext.proofs.TableLaws.{line_iff}
use Rattle.captext.proofs.tables.lines_are_read_back.Goals as goal

pub returns : goal.returns
returns c = line_iff
