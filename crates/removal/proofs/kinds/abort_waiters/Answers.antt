-- Each turn aborts the first that waits, and leaves the others to be, until nobody waits.
use Rattle.std.{specs.Prelude.{None, Some}, proofs.Common.{◌<◌, ◌∙◌, ◌≡◌, ap, length, subst, sym}}
use Rattle.machine.specs.{Changes.first_waiting, Machine.{Machine, queue_of}, WellFormed.LinksAgree}
use Rattle.removal.{specs.Finalised.{members, with_waiters_aborted}, proofs.Waiters.{FirstAborted, first_aborted, none_left}}
use Rattle.removal.proofs.kinds.abort_waiters.Goals as goal

pub loop-thread-smaller : goal.loop-thread-smaller
loop-thread-smaller c =
    let e : first_waiting c.loop-thread.state c.args.id ≡ Some c.in-Some.thread = cc in
    let w : FirstAborted c.loop-thread.state c.args.id c.in-Some.thread =
    first_aborted c.loop-thread.state c.loop-thread.invariant.agreed c.args.id c.in-Some.thread e in
    subst
    (λ (m : Machine). length (members (queue_of m c.args.id)) < length (members (queue_of c.loop-thread.state c.args.id)))
    (sym c.abort.ensures.aborted) w.fewer

pub loop-thread-preserved : goal.loop-thread-preserved
loop-thread-preserved c =
    let e : first_waiting c.loop-thread.state c.args.id ≡ Some c.in-Some.thread = cc in
    let w : FirstAborted c.loop-thread.state c.args.id c.in-Some.thread =
    first_aborted c.loop-thread.state c.loop-thread.invariant.agreed c.args.id c.in-Some.thread e in
    record {
      agreed = subst (λ (m : Machine). LinksAgree m) (sym c.abort.ensures.aborted) w.agreed;
      same = ap (λ (m : Machine). with_waiters_aborted m c.args.id) c.abort.ensures.aborted ∙ (w.same ∙ c.loop-thread.invariant.same);
    }

pub returns : goal.returns
returns c =
    let e : first_waiting c.loop-thread.state c.args.id ≡ None = cc in
    sym (none_left c.loop-thread.state c.loop-thread.invariant.agreed c.args.id e) ∙ c.loop-thread.invariant.same
