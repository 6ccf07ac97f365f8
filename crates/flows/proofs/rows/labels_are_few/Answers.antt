use Rattle.{std.proofs.Common.arith, flows.proofs.SeeSets.below_count}
use Rattle.flows.proofs.rows.labels_are_few.Goals as goal

pub returns : goal.returns
returns c = below_count c.args.set (omega arith)
