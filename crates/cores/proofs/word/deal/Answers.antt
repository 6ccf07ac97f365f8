use Rattle.{std.proofs.Common.rules, cores.proofs.Keeps.deals}
use Rattle.cores.proofs.word.deal.Goals as goal

pub split_seat-requires : goal.split_seat-requires
split_seat-requires c = (search rules, search rules, deals _ _ _ _ c.requires.first)
