use Rattle.std.{specs.Result.result_from_control_flow, proofs.Common.{ℕ, ◌∙◌, ◌≡◌, Some, ap, length, rules, slice_get, sym, vec_len}}
use Rattle.std.proofs.lemmas.{Iterator.{Adapters.YieldsList-from_vec, Consumers.YieldsList-turn}, List.length_push, Option.slice_get-get_or}
use Rattle.deal.proofs.Joining.{next_share}
use Rattle.deal.proofs.workers.joined.Goals as goal

-- the share that comes is the next worker's
pub loop-part-preserved : goal.loop-part-preserved
loop-part-preserved g c =
    let parts = c.args.parts.items in
    let items = c.args.items.now in
    let answer = g.W.Work.answer c.args.work.now in
    let worker : ℕ = length c.loop-part.yielded in
    let gives = c.into_iter-part-iterator.ensures.into_iter_gives in
    let whole : vec_len c.args.parts ≡ length c.args.parts.items = search rules in
    let turn = YieldsList-turn (YieldsList-from_vec {s = c.into_iter-part-iterator.result} parts gives.0 (gives.1 ∙ whole)) c.loop-part.yielded c.loop-part.part-iterator c.loop-part.yielded_by c.next.result c.next.new.self c.in-Some.part c.in-Some.is c.next.ensures.steps in
    let at : slice_get parts worker ≡ Some c.in-Some.part = slice_get-get_or parts worker c.in-Some.part turn.0 ∙ ap Some (sym turn.1) in
    let is = c.branch-part.ensures ∙ ap result_from_control_flow c.in_ok-part.is in
    let known = rw (at, is) at (c.requires.worked worker) in
    let fine = c.branch-append.ensures ∙ ap result_from_control_flow c.in_ok-append.is in
    let made = rw fine at c.append.ensures.items in
    let next = next_share answer c.loop-part.whole.items c.in_ok-part.field-0.items items (length parts) worker c.loop-part.invariant known.0 in
    rw (made, length_push c.loop-part.yielded c.in-Some.part) next
