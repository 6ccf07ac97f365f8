use Rattle.{std.proofs.Common.{Err, Some, subst}, machine.specs.Layout.Layout}
use Rattle.commands.specs.{Files.{IsLoadedAs, contents_of, given_contents}, Given.layout_of, Hearing.HearsFault}
use Rattle.commands.proofs.Following.{given_after, heard_after, heard_first, stopped_first}
use Rattle.commands.proofs.load.load_with.Goals as goal

pub returns-in-Err-clause-loaded : goal.returns-in-Err-clause-loaded
returns-in-Err-clause-loaded g c =
    let read = g.X.LaterFile.read_of in
    let second = g.S.Source.remaining c.args.second.now in
    let system = c.in_ok-system.system in
    given_after _ (given_contents c.args.taken (g.T.Source.remaining c.args.system.now)) system (Err c.in-Err.stop) c.in_ok-system.ensures.loaded
    (stopped_first _ (contents_of g.X.LaterFile.named (Some (layout_of system)) second (read (layout_of system))) c.in-Err.stop
    (subst (λ (l : Layout). IsLoadedAs (contents_of g.X.LaterFile.named (Some l) second (read l)) (Err c.in-Err.stop)) c.table.ensures c.in-Err.ensures.loaded))

pub returns-in-Err-clause-heard : goal.returns-in-Err-clause-heard
returns-in-Err-clause-heard g c =
    let read = g.X.LaterFile.read_of in
    let second = g.S.Source.remaining c.args.second.now in
    let system = c.in_ok-system.system in
    let Hears = g.L.Listener.Hears in
    let old = c.args.listener.now in
    let new = c.load_later.new.listener in
    heard_after _ Hears old new (given_contents c.args.taken (g.T.Source.remaining c.args.system.now)) system c.in-Err.stop c.in_ok-system.ensures.loaded
    (stopped_first _ (contents_of g.X.LaterFile.named (Some (layout_of system)) second (read (layout_of system))) c.in-Err.stop
    (subst (λ (l : Layout). IsLoadedAs (contents_of g.X.LaterFile.named (Some l) second (read l)) (Err c.in-Err.stop)) c.table.ensures c.in-Err.ensures.loaded))
    (heard_first _ Hears old new (contents_of g.X.LaterFile.named (Some (layout_of system)) second (read (layout_of system))) c.in-Err.stop
    (subst (λ (l : Layout). HearsFault Hears (contents_of g.X.LaterFile.named (Some l) second (read l)) (Err c.in-Err.stop) old new) c.table.ensures
    (subst (λ start. HearsFault Hears (contents_of g.X.LaterFile.named (Some c.table.result.now) second (read c.table.result.now)) (Err c.in-Err.stop) start new)
    c.in_ok-system.ensures.heard c.in-Err.ensures.heard)))
