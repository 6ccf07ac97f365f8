use Rattle.{std.proofs.lemmas.List.{drop_all, drop_more}, runs.proofs.Parts.{ended_by, step_on}}
use Rattle.runs.proofs.comparing.is_part.Goals as goal

pub loop-thread-preserved : goal.loop-thread-preserved
loop-thread-preserved c =
    step_on c.args.part.now c.loop-thread.rest.now c.rest_after-rest.result.now c.args.all.now _ _ _
    (drop_more c.args.all.now c.loop-thread.thread-index (record { 0 = 0 }) c.loop-thread-test.true) c.loop-thread.invariant
    c.rest_after-rest.ensures

pub returns : goal.returns
returns c =
    ended_by c.args.part.now c.args.all.now c.loop-thread.rest.now _ c.is_empty.result c.is_empty.ensures
    (drop_all c.loop-thread.thread-index c.args.all.now c.loop-thread-test.false) c.loop-thread.invariant
