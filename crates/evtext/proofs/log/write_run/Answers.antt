use Rattle.std.specs.{Iterator.Adapters.{zip_first, zip_second}, List.zip, Slice.Iter.iter_rest}
use Rattle.std.proofs.{Common.{◌∙◌, ◌∷◌, ap, length, map, sym, take}, lemmas.{List.length_push, Slice.Zip.{zip_end, zip_turn}}}
use Rattle.{words.specs.Text.text_of, evtext.{specs.Log.{entry_words, log_header}, proofs.Logs.{lines_all, lines_more}}}
use Rattle.evtext.proofs.log.write_run.Goals as goal

pub loop-event-preserved : goal.loop-event-preserved
loop-event-preserved c =
    let turn = zip_turn c.args.events.now c.args.outcomes.now c.loop-event.yielded
    c.into_iter-event-iterator.result c.loop-event.event-iterator c.next.new.self c.next.result
    (ap (λ s. iter_rest (zip_first s)) c.into_iter-event-iterator.ensures.into_iter_gives
    ∙ ap iter_rest c.zip-event-items.ensures.first ∙ c.iter.ensures.rest)
    (ap (λ s. iter_rest (zip_second s)) c.into_iter-event-iterator.ensures.into_iter_gives ∙ c.zip-event-items.ensures.second.0)
    c.loop-event.yielded_by (c.in-Some.event, c.in-Some.outcome) c.in-Some.is c.next.ensures.steps in
    c.in_ok-write_entry.ensures
    ∙ lines_more c.args.events.now c.args.outcomes.now (length c.loop-event.yielded) c.in-Some.event.now c.in-Some.outcome.now
    c.loop-event.text.items turn.0 turn.1 turn.2 turn.3 c.loop-event.invariant
    ∙ ap (λ n. text_of (log_header ∷ map entry_words (take n (zip c.args.events.now c.args.outcomes.now))))
    (sym (length_push c.loop-event.yielded (c.in-Some.event, c.in-Some.outcome)))

pub returns : goal.returns
returns c =
    c.in_ok-extend_from_slice-2.ensures.items
    ∙ lines_all c.args.events.now c.args.outcomes.now (length c.loop-event.yielded) c.loop-event.text.items
    (zip_end c.args.events.now c.args.outcomes.now c.loop-event.yielded
    c.into_iter-event-iterator.result c.loop-event.event-iterator c.next.new.self c.next.result
    (ap (λ s. iter_rest (zip_first s)) c.into_iter-event-iterator.ensures.into_iter_gives
    ∙ ap iter_rest c.zip-event-items.ensures.first ∙ c.iter.ensures.rest)
    (ap (λ s. iter_rest (zip_second s)) c.into_iter-event-iterator.ensures.into_iter_gives ∙ c.zip-event-items.ensures.second.0)
    c.loop-event.yielded_by c.in-None.is c.next.ensures.steps)
    c.loop-event.invariant
