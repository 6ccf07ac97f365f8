use Rattle.std.{specs.List.{All, zip}, proofs.Common.{[], ◌++◌, ◌+◌, ◌∙◌, ◌∷◌, ◌≡◌, List, ap, append_assoc, arith, drop, length}}
use Rattle.std.proofs.{Common.{subst, sym, take}, Math.Seq.{drop-append_seam, take-length}, lemmas.List.{length_push, take_more}}
use Rattle.machine.specs.{declared.call.{Event.Event, Outcome.Outcome}, Run.Run}
use Rattle.{steps.proofs.Steps.Ended, kernel.proofs.RunLemmas.run_further}
use Rattle.kernel.proofs.runs.run.Goals as goal

pub loop-event-preserved : goal.loop-event-preserved
loop-event-preserved c = record {
  ran =
      let before = c.loop-event.invariant.ran in
      let events = c.args.events.now in
      let i = c.loop-event.event-index in
      let item = c.event-item.result in
      let outcome = c.take_step.result in
      let further : Run c.args.state.now (take i events ++ item ∷ []) (before.0 ++ outcome ∷ []) c.take_step.new.state =
      run_further c.args.state.now
      (take i events) before.0 c.loop-event.state item outcome c.take_step.new.state before.2 c.take_step.ensures.stepped in
      let more : take (i + 1) events ≡ take i events ++ item ∷ [] =
      take_more events i item c.loop-event-test.true ∙ ap (λ last. take i events ++ last ∷ []) (sym c.event-item.is) in (
        before.0 ++ outcome ∷ [],
        c.push_reserved.ensures.items ∙ ap (λ items. items ++ outcome ∷ []) before.1
            ∙ append_assoc c.args.outcomes.now.items before.0 (outcome ∷ []),
        rw more further,
      );
  counted =
      let pushed : length c.push_reserved.new.self.items ≡ length c.loop-event.outcomes.items + 1 =
      ap length c.push_reserved.ensures.items ∙ length_push c.loop-event.outcomes.items c.take_step.result in
      omega arith;
  formed = c.take_step.ensures.well_formed;
  room = omega arith;
}

pub returns-clause-ends : goal.returns-clause-ends
returns-clause-ends c =
    let ran = c.loop-event.invariant.ran in
    let events = c.args.events.now in
    let whole : take c.loop-event.event-index events ≡ events =
    ap (λ n. take n events) (omega (arith, c.loop-event-test.false, c.loop-event.auto.event-index-end)) ∙ take-length events in
    let run : Run c.args.state.now events ran.0 c.loop-event.state =
    subst (λ (es : List Event). Run c.args.state.now es ran.0 c.loop-event.state) whole ran.2 in
    let made : drop (length c.args.outcomes.now.items) c.loop-event.outcomes.items ≡ ran.0 =
    ap (drop (length c.args.outcomes.now.items)) ran.1 ∙ drop-append_seam c.args.outcomes.now.items ran.0 in
    subst (λ (os : List Outcome). All Ended (zip events os)) (sym made)
    (c.calls_are_refused_by_conditions.ensures.run c.args.state.now events ran.0 c.loop-event.state run)
