-- Each reason of authority has its state that leaves a policy.
use Rattle.verdict.proofs.LinkReasons as by
use Rattle.verdict.proofs.{Reasons.{capability_counts, m, node_kind, pair_counts, root_counts, thread_kind, within}, SmallSystem.id}
use Rattle.verdict.proofs.{SmallSystem.{signal_cap, signalling, slot, space_cap}, Unsafe.parted}
use Rattle.verdict.proofs.counterexamples.each_reason_of_authority_counts.Goals as goal

pub returns-clause-capability : goal.returns-clause-capability
returns-clause-capability c =
    (signalling, parted, m, slot 0 1, space_cap, node_kind, within, capability_counts)

pub returns-clause-root : goal.returns-clause-root
returns-clause-root c = (signalling, parted, m, slot 1 0, signal_cap, thread_kind, within, root_counts)

pub returns-clause-pair : goal.returns-clause-pair
returns-clause-pair c = (signalling, parted, m, slot 0 0, slot 1 0, within, pair_counts)

pub returns-clause-runs : goal.returns-clause-runs
returns-clause-runs c = (by.thread, id 0, by.runs_counts)

pub returns-clause-lent : goal.returns-clause-lent
returns-clause-lent c = (by.thread, by.calling, by.lent, by.lent_counts)

pub returns-clause-send : goal.returns-clause-send
returns-clause-send c = (by.thread, by.sending, by.send_counts)

pub returns-clause-grant : goal.returns-clause-grant
returns-clause-grant c = (by.thread, by.sending, by.grant_counts)

pub returns-clause-call : goal.returns-clause-call
returns-clause-call c = (by.thread, by.sending, by.call_counts)

pub returns-clause-receive : goal.returns-clause-receive
returns-clause-receive c = (by.thread, by.receiving, by.receive_counts)

pub returns-clause-reply : goal.returns-clause-reply
returns-clause-reply c = (by.thread, by.receiving, id 0, by.reply_counts)

pub returns-clause-awaits : goal.returns-clause-awaits
returns-clause-awaits c = (by.thread, id 2, by.await_counts)

pub returns-clause-waiting : goal.returns-clause-waiting
returns-clause-waiting c = (by.answer, id 0, by.waiting_counts)

pub returns-clause-called : goal.returns-clause-called
returns-clause-called c = (by.answer, id 0, by.called_counts)
