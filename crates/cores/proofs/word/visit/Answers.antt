use Rattle.{std.proofs.Common.rules, cores.proofs.Keeps.{hosts, visits}}
use Rattle.cores.proofs.word.visit.Goals as goal

pub split_seat-guest-requires : goal.split_seat-guest-requires
split_seat-guest-requires c = (search rules, search rules, visits _ _ _ _)

pub join_seat-requires : goal.join_seat-requires
join_seat-requires c = (search rules, search rules, search rules, search rules, hosts _ _ _ _ _ _)
