use Rattle.{std.proofs.Common.rules, cores.proofs.Keeps.{leaves, returns}}
use Rattle.cores.proofs.word.leave.Goals as goal

pub split_seat-hand-requires : goal.split_seat-hand-requires
split_seat-hand-requires c = (search rules, search rules, leaves _ _ _ _)

pub join_seat-requires : goal.join_seat-requires
join_seat-requires c = (search rules, search rules, search rules, search rules, returns _ _ _ _ _ _)
