use Rattle.report.proofs.LeastBySet.{is_reach}
use Rattle.report.proofs.closing.the_sharp_policy_for_a_table_is_its_reach.Goals as goal

pub returns : goal.returns
returns c = λ t answer closes. (closes.policy, is_reach t closes.policy closes.closing, closes.told.0)
