use Rattle.checker.proofs.Upgraded.{same_certificate, same_text, same_verdict}
use Rattle.checker.proofs.laws.upgraded_tables_are_judged_alike.Goals as goal

pub returns : goal.returns
returns c = record { verdict = same_verdict; certificate = same_certificate; text = same_text }
