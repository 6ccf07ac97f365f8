-- The number of a pair is small enough to number its line.
use Rattle.{std.proofs.Common.rules, captext.proofs.TableLaws.fault_within}
use Rattle.captext.proofs.tables.grown.Goals as goal

pub overflow_add-result : goal.overflow_add-result
overflow_add-result c =
    let within = fault_within c.args.draft c.in-Err.number c.in-Err.ensures.err in search rules
