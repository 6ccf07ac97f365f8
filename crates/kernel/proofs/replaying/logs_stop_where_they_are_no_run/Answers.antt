use Rattle.kernel.proofs.LegalLemmas.{no_run, one_stop}
use Rattle.kernel.proofs.replaying.logs_stop_where_they_are_no_run.Goals as goal

pub returns : goal.returns
returns c = record { illegal = no_run; once = one_stop }
