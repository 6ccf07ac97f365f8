use Rattle.{std.proofs.Common.{ℕ, refl}, base.specs.{declared.kind.Kind.TheVariants.{Control, Holds, Receive, Reply, Reset}, Labels.is_in}}
use Rattle.policy.specs.{declared.narrow_take.TheConstants.{REMOVED, WAITING}, NarrowTake.{is_removed, is_waiting}, Policy.allows}
use Rattle.policy.proofs.{ChangeSets.{control_from, control_to, removed_listed, waiting_listed}, Gathering.{both, either, itself_tells}}
use Rattle.policy.proofs.Gathering.{kinds_target_tells, kinds_waiting_tells, row_tells, source_tells, target_tells, told_as, waiting_tells}
use Rattle.policy.proofs.policy.Policy.taken.Goals as goal

pub returns : goal.returns
returns c object =
    let test = allows c.args.self.now in
    let acts = is_in c.args.actors in
    let actor = c.args.actor in
    let controlled = row_tells test Control actor c.row-controlled.result c.row-controlled.ensures in
    let callers = λ (caller : ℕ).
    both (is_in c.intersection-callers.result caller) (is_in c.row-controlled.result caller) (acts caller) (controlled caller) (itself_tells (acts caller))
    (c.intersection-callers.ensures caller) in
    let deleted = λ (end : ℕ).
    target_tells test Reset _ c.row-controlled.result controlled end (is_in c.targets-deleted.result end) (c.targets-deleted.ensures end) in
    let receivers = λ (receiver : ℕ).
    waiting_tells test Receive _ c.targets-deleted.result deleted receiver (is_in c.waiting-receivers.result receiver) (acts receiver)
    (c.waiting-receivers.ensures receiver) in
    let removed =
    kinds_target_tells is_removed REMOVED refl removed_listed test _ c.row-controlled.result controlled object (is_in c.targets.result object)
    (c.targets.ensures object) in
    let released = source_tells test Holds _ c.intersection-callers.result callers object (is_in c.sources.result object) (c.sources.ensures object) in
    let woken =
    kinds_waiting_tells is_waiting WAITING refl waiting_listed test _ c.targets-deleted.result deleted object (is_in c.waiting.result object) (acts object)
    (c.waiting.ensures object) in
    let dropped = target_tells test Reply _ c.waiting-receivers.result receivers object (is_in c.targets-2.result object) (c.targets-2.ensures object) in
    told_as (is_in c.union-3.result object)
    (either (is_in c.union-3.result object) (is_in c.union-2.result object) (is_in c.targets-2.result object)
    (either (is_in c.union-2.result object) (is_in c.union.result object) (is_in c.waiting.result object)
    (either (is_in c.union.result object) (is_in c.targets.result object) (is_in c.sources.result object) removed released (c.union.ensures object))
    woken (c.union-2.ensures object)) dropped (c.union-3.ensures object))
    (control_to test acts actor object) (control_from test acts actor object)
