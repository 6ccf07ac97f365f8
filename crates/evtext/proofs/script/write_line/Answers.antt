use Rattle.std.{specs.Fmt.decimal, proofs.Common.{[], ◌++◌, ◌∙◌, ◌∷◌, ap}}
use Rattle.evtext.{specs.Event.call_words, proofs.Lines.line_written}
use Rattle.evtext.proofs.script.write_line.Goals as goal

pub returns : goal.returns
returns c =
    let event = c.args.event.now in
    c.in_ok-push.ensures.items ∙ ap (λ bytes. bytes ++ 10 ∷ []) c.in_ok-write_event.ensures
    ∙ line_written c.args.text.now.items (decimal event.core) (decimal event.thread.0 ∷ call_words event.call)
