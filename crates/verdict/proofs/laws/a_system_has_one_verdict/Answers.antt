use Rattle.verdict.proofs.OneVerdict.{one_verdict, one_verdict_by}
use Rattle.verdict.proofs.laws.a_system_has_one_verdict.Goals as goal

pub returns : goal.returns
returns c = record { one = one_verdict; by_rules = one_verdict_by }
