use Rattle.std.proofs.Common.{◌∙◌, arith}
use Rattle.evtext.{specs.{Event.event_words, Script.script_header}, proofs.Lines.{lines_all, lines_more}}
use Rattle.evtext.proofs.script.script_bytes.Goals as goal

pub loop-event-preserved : goal.loop-event-preserved
loop-event-preserved c =
    lines_more script_header event_words c.args.events.now c.loop-event.event-index c.event-item.result c.loop-event.text.items _
    (omega arith) c.event-item.is c.loop-event.invariant c.in_ok-write_line.ensures

pub returns : goal.returns
returns c =
    c.in_ok-extend_from_slice-2.ensures.items
    ∙ lines_all script_header event_words c.args.events.now c.loop-event.event-index c.loop-event.text.items
    (omega arith) c.loop-event.invariant
