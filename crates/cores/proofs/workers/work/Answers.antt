use Rattle.std.proofs.Common.{◌<◌, ◌∙◌, ◌≡◌, ap, eqb-true, inr, length, rules, subst, sym}
use Rattle.{base.specs.Refusals.plain, machine.specs.declared.call.Outcome.TheVariants.Refused}
use Rattle.cores.{specs.{SplitRun.on_core, Workers.events_of}, proofs.OneCore.one_left}
use Rattle.cores.proofs.workers.work.Goals as goal

-- the log is full
pub returns-then-eq-2 : goal.returns-then-eq-2
returns-then-eq-2 g c =
    let before = c.loop-event.invariant in
    let full : c.call.result ≡ Refused (plain 41) = search rules in
    let looked = c.call.ensures.full full in
    let same = looked.0.same in
    let event = c.event-item.result in
    let events = c.args.events.now in
    let core = same.core ∙ before.core in
    let on : event.core ≡ c.args.seat.core = eqb-true event.core c.core-core.result (sym c.if-eq.ensures) ∙ c.core-core.ensures in
    let left = one_left c.args.seat.core events c.loop-event.event-index event c.call.new.seat.mine c.loop-event-test.true c.event-item.is on
    (ap events_of looked.0.made ∙ before.made) in
    record {
      of = record { table = same.table ∙ before.of.table; start = same.start ∙ before.of.start; name = same.name ∙ before.of.name };
      number = same.number ∙ before.number;
      core = core;
      made = inr (subst (λ number. length c.call.new.seat.mine < length (on_core number events)) (sym core) left, looked.1);
    }
