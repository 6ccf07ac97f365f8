use Rattle.report.proofs.replaying.log_replayed.Goals as goal

pub returns-in_ok-replayed-in-Ok : goal.returns-in_ok-replayed-in-Ok
returns-in_ok-replayed-in-Ok c = rw c.in-Ok.is (c.in_ok-replayed-in-Ok.ensures.right, c.in_ok-replayed-in-Ok.ensures.exit)
