use Rattle.std.{specs.Prelude.{slice_set, true}, proofs.Common.{◌+◌, ◌<◌, ◌∙◌, All, List, arith, subst, sym, take}}
use Rattle.{std.proofs.lemmas.List.{Elements.All-more, take_all}, machine.specs.declared.call.Event.Event}
use Rattle.cores.{specs.Workers.AreBusy, proofs.BusyCores.one_busy}
use Rattle.base.specs.declared.core_number.TheConstants.CoreNo as CoreNo
use Rattle.cores.proofs.workers.busy_cores.Goals as goal

pub loop-event-preserved : goal.loop-event-preserved
loop-event-preserved c =
    let events = c.args.events.now in
    let i = c.loop-event.event-index in
    let event = c.event-item.result in
    let below : event.core < CoreNo.COUNT = subst (λ n. n < CoreNo.COUNT) c.number.ensures.value c.number.ensures.below in
    record {
      below =
          All-more (λ (e : Event). e.core < CoreNo.COUNT) events i event c.loop-event-test.true c.loop-event.invariant.below
          (subst (λ (e : Event). e.core < CoreNo.COUNT) c.event-item.is below);
      busy =
          subst (λ k. AreBusy (take (i + 1) events) (slice_set c.loop-event.busy k true)) (sym (c.from.ensures ∙ c.number.ensures.value))
          (one_busy events i event c.loop-event.busy c.loop-event-test.true c.event-item.is c.loop-event.invariant.busy);
    }

pub returns-clause-below : goal.returns-clause-below
returns-clause-below c =
    subst (λ (es : List Event). All (λ (e : Event). e.core < CoreNo.COUNT) es)
    (take_all c.loop-event.event-index c.args.events.now (omega arith)) c.loop-event.invariant.below
