use Rattle.std.proofs.Common.{Err, Ok, refl, subst}
use Rattle.commands.specs.{declared.load.Two.Two, Files.{given_contents, new_contents}, Hearing.HearsFault}
use Rattle.commands.proofs.Following.{given_after, heard_after, heard_first, stopped_first}
use Rattle.commands.proofs.load.load_two.Goals as goal

pub returns-in-Err-clause-loaded : goal.returns-in-Err-clause-loaded
returns-in-Err-clause-loaded g c =
    given_after _ (given_contents c.args.taken (g.S.Source.remaining c.args.old.now)) c.in_ok-given.given (Err c.in-Err.stop) c.in_ok-given.ensures.loaded
    (stopped_first _ (new_contents c.args.taken (g.T.Source.remaining c.args.new.now)) c.in-Err.stop c.in-Err.ensures.loaded)

pub returns-in-Err-clause-heard : goal.returns-in-Err-clause-heard
returns-in-Err-clause-heard g c =
    let Hears = g.L.Listener.Hears in
    let start = c.args.listener.now in
    let end = c.load_new.new.listener in
    let later = new_contents c.args.taken (g.T.Source.remaining c.args.new.now) in
    heard_after _ Hears start end (given_contents c.args.taken (g.S.Source.remaining c.args.old.now)) c.in_ok-given.given c.in-Err.stop
    c.in_ok-given.ensures.loaded (stopped_first _ later c.in-Err.stop c.in-Err.ensures.loaded)
    (heard_first _ Hears start end later c.in-Err.stop
    (subst (λ from. HearsFault Hears later (Err c.in-Err.stop) from end) c.in_ok-given.ensures.heard c.in-Err.ensures.heard))

pub returns-in-Ok-clause-loaded : goal.returns-in-Ok-clause-loaded
returns-in-Ok-clause-loaded g c =
    let two : Two = record { old = c.in_ok-given.given; new = c.in-Ok.later } in
    given_after _ (given_contents c.args.taken (g.S.Source.remaining c.args.old.now)) c.in_ok-given.given (Ok two) c.in_ok-given.ensures.loaded
    (given_after _ (new_contents c.args.taken (g.T.Source.remaining c.args.new.now)) c.in-Ok.later (Ok two) c.in-Ok.ensures.loaded refl)
