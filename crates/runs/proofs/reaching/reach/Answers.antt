use Rattle.std.proofs.{Common.{[], ◌++◌, ◌+◌, ◌∙◌, ◌∷◌, ◌≡◌, List, ap, subst, sym, take}, lemmas.List.{take_all, take_more}}
use Rattle.machine.specs.{declared.call.{Event.Event, Outcome.Outcome as o}, Step.Step}
use Rattle.runs.{specs.Shown.IsReachedBy, proofs.Reached.{made_unless, reached_first, reached_further, stopped_at}}
use Rattle.runs.proofs.reaching.reach.Goals as goal
use mathlib.Core.Bool.{false≢true}

pub loop-event-init : goal.loop-event-init
loop-event-init c = record {
  reached = reached_first c.args.table.now c.in_ok-state.state c.in_ok-state.ensures.booted;
  formed = c.in_ok-state.ensures.well_formed;
}

pub loop-event-preserved : goal.loop-event-preserved
loop-event-preserved c =
    let script = c.args.script.now in
    let i = c.loop-event.event-index in
    let item = c.event-item.result in
    let more : take (i + 1) script ≡ take i script ++ item ∷ [] =
    take_more script i item c.loop-event-test.true ∙ ap (λ last. take i script ++ last ∷ []) (sym c.event-item.is) in
    let further : IsReachedBy c.args.table.now (take i script ++ item ∷ []) c.step-outcome.new.state =
    reached_further c.args.table.now (take i script) c.loop-event.state item c.step-outcome.result c.step-outcome.new.state
    c.loop-event.invariant.reached c.step-outcome.ensures.stepped (made_unless c.step-outcome.result c.in_default.not-Refused) in
    record {
      reached =
          subst (λ (events : List Event). IsReachedBy c.args.table.now events c.step-outcome.new.state) (sym more) further;
      formed = c.step-outcome.ensures.well_formed;
    }

pub returns-clause-reached : goal.returns-clause-reached
returns-clause-reached c =
    subst (λ (events : List Event). IsReachedBy c.args.table.now events c.loop-event.state)
    (take_all c.loop-event.event-index c.args.script.now c.loop-event-test.false) c.loop-event.invariant.reached

pub returns-in-Refused-clause-stopped : goal.returns-in-Refused-clause-stopped
returns-in-Refused-clause-stopped c =
    let item = c.event-item.result in
    let is = c.in-Refused.is in
    stopped_at c.args.table.now c.args.script.now c.loop-event.event-index item c.loop-event-test.true c.event-item.is c.loop-event.state
    c.loop-event.invariant.reached c.in-Refused.field-0 c.step-outcome.new.state
    (subst (λ outcome. Step c.loop-event.state item outcome c.step-outcome.new.state) is c.step-outcome.ensures.stepped)
    (λ lack. false≢true (sym c.if-is_lack.false ∙ c.is_lack.ensures.1 (is ∙ ap (λ r. o.Refused r) lack)))
