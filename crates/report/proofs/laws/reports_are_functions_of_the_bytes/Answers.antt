-- That each command has one answer, by the lemma of its kind.
use Rattle.{forms.specs.declared.file.File.File as file, evtext.specs.{Log.read_log_of, Script.read_script_of}}
use Rattle.certificate.specs.Reading.{read_certificate_of}
use Rattle.report.specs.{Answers.{Checks, Verifies}, OneAnswer.RunsInMemory, Replays.Replays}
use Rattle.report.proofs.{OneAnswer.{of_three, of_two}, OneLog.{replay_once, run_told_once}, OneReport.{check_once, verify_once}}
use Rattle.report.proofs.laws.reports_are_functions_of_the_bytes.Goals as goal

pub returns-clause-check : goal.returns-clause-check
returns-clause-check c = λ set written. of_two (Checks set written) (check_once set written)

pub returns-clause-verify : goal.returns-clause-verify
returns-clause-verify c = λ set. of_three file.Certificate read_certificate_of (Verifies set) (verify_once set)

pub returns-clause-replay : goal.returns-clause-replay
returns-clause-replay c = of_three file.Log (λ t. read_log_of) Replays replay_once

pub returns-clause-run : goal.returns-clause-run
returns-clause-run c = λ set. of_three file.Script (λ t. read_script_of) (RunsInMemory set) (run_told_once set)
