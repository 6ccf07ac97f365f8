use Rattle.std.proofs.Common.{[], ◌++◌, ◌∙◌, ◌≡◌, List, ap, append-nil, sym}
use Rattle.{base.specs.declared.ids.ObjId.ObjId, machine.specs.Machine.{Machine, queue_of}}
use Rattle.runs.proofs.Popping.{fewer, left_over, nobody_waits, popped}
use Rattle.runs.proofs.sight.queue.Goals as goal

pub loop-thread-smaller : goal.loop-thread-smaller
loop-thread-smaller c =
    fewer c.loop-thread.state c.args.id c.in-Some.thread c.pop_waiting.new.self c.in-Some.ensures.rest
    (popped c.loop-thread.state c.args.id c.in-Some.thread (sym c.in-Some.ensures.value))

pub loop-thread-preserved : goal.loop-thread-preserved
loop-thread-preserved c = λ threads there.
    let before = c.loop-thread.invariant threads there in
    let leaves = popped c.loop-thread.state c.args.id c.in-Some.thread (sym c.in-Some.ensures.value) in (
      leaves.rest,
      ap (λ (m : Machine). queue_of m c.args.id) c.in-Some.ensures.rest ∙ leaves.is,
      before.2 ∙ left_over c.loop-thread.state c.args.id c.in-Some.thread before.0 c.loop-thread.queue.items before.1 leaves
          ∙ ap (λ (q : List ObjId). q ++ leaves.rest) (sym c.in_ok-push.ensures.items),
    )

pub returns : goal.returns
returns c = λ threads there.
    let before = c.loop-thread.invariant threads there in
    let none : before.0 ≡ [] = nobody_waits c.loop-thread.state c.args.id before.0 (sym c.in_default.ensures.value) before.1 in
    sym (before.2 ∙ ap (λ (q : List ObjId). c.loop-thread.queue.items ++ q) none ∙ append-nil c.loop-thread.queue.items)
