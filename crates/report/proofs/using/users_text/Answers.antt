use Rattle.report.proofs.using.users_text.Goals as goal

pub returns-in-Changes : goal.returns-in-Changes
returns-in-Changes c = rw c.in-Changes.is c.changers_text.ensures

pub returns-in-Reads : goal.returns-in-Reads
returns-in-Reads c = rw c.in-Reads.is c.readers_text.ensures
