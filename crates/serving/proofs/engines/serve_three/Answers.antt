use Rattle.serving.proofs.engines.serve_three.Goals as goal

pub returns-in-Verify-clause-served : goal.returns-in-Verify-clause-served
returns-in-Verify-clause-served g c = rw c.in-Verify.is c.verify.ensures.done

pub returns-in-Run-clause-served : goal.returns-in-Run-clause-served
returns-in-Run-clause-served g c = rw c.in-Run.is c.run.ensures.done

pub returns-in-Replay-clause-served : goal.returns-in-Replay-clause-served
returns-in-Replay-clause-served g c = rw c.in-Replay.is c.replay.ensures.done
