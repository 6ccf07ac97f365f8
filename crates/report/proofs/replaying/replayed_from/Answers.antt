use Rattle.report.{specs.Replays.{illegal, outside, within}, proofs.Retold.{finding_retold, plain_retold}}
use Rattle.report.proofs.replaying.replayed_from.Goals as goal

pub returns-in-Some-clause-right : goal.returns-in-Some-clause-right
returns-in-Some-clause-right c =
    illegal c.args.state.now c.in-Some.at c.requires.boot (rw c.in-Some.is at c.in_ok-at.ensures.found)
    (finding_retold c.in_ok-text.ensures c.found.ensures.finds)

pub returns-in_ok-within_report-in-None-clause-right : goal.returns-in_ok-within_report-in-None-clause-right
returns-in_ok-within_report-in-None-clause-right c =
    within c.replay.new.state (c.args.state.now, c.requires.boot, rw c.in_default.is at c.in_ok-at.ensures.found)
    c.in-None.ensures.within (plain_retold c.in_ok-within_report-in-None.ensures c.plain.ensures.plain)

pub returns-in_ok-outside_answer-in-Some-outside-clause-right : goal.returns-in_ok-outside_answer-in-Some-outside-clause-right
returns-in_ok-outside_answer-in-Some-outside-clause-right c =
    outside c.replay.new.state c.in-Some-outside.denial
    (c.args.state.now, c.requires.boot, rw c.in_default.is at c.in_ok-at.ensures.found)
    c.in-Some-outside.ensures.first c.in_ok-outside_answer-in-Some-outside.ensures
