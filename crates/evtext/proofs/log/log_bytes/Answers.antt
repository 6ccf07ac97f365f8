use Rattle.std.proofs.Common.{◌∙◌, arith}
use Rattle.evtext.{specs.Log.{entry_words, log_header}, proofs.Lines.{lines_all, lines_more}}
use Rattle.evtext.proofs.log.log_bytes.Goals as goal

pub loop-event-preserved : goal.loop-event-preserved
loop-event-preserved c =
    lines_more log_header entry_words c.args.log.now c.loop-event.event-index c.loop-event-item.result c.loop-event.text.items _
    (omega arith) c.loop-event-item.is c.loop-event.invariant c.in_ok-write_entry.ensures

pub returns : goal.returns
returns c =
    c.in_ok-extend_from_slice-2.ensures.items
    ∙ lines_all log_header entry_words c.args.log.now c.loop-event.event-index c.loop-event.text.items
    (omega arith) c.loop-event.invariant
