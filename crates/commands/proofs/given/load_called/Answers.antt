-- The system that is loaded is that of the text, which the file's bytes are known to be.
use Rattle.std.proofs.Common.{ℕ, ◌≡◌, IfSome, List, subst, sym}
use Rattle.commands.{specs.declared.choices.Taken.Taken as taken, proofs.Following.named_heard}
use Rattle.commands.proofs.given.load_called.Goals as goal

pub returns-in-System-clause-heard : goal.returns-in-System-clause-heard
returns-in-System-clause-heard g c =
    let known = g.S.Source.remaining c.args.source.now in
    let same = subst (λ (t : List ℕ). IfSome known (λ bytes. t ≡ bytes)) (sym c.deref-in-System.ensures.value) c.in_ok-bytes.ensures.bytes in
    rw c.in-System.is
    (named_heard c.args.called.table c.args.called.description (taken.System c.in-System.rights) g.L.Listener.Hears c.args.listener.now
    c.as_system.new.listener known c.deref-in-System.result.now c.as_system.result same c.as_system.ensures.loaded c.as_system.ensures.heard)

pub returns-clause-heard : goal.returns-clause-heard
returns-clause-heard g c =
    let known = g.S.Source.remaining c.args.source.now in
    let same = subst (λ (t : List ℕ). IfSome known (λ bytes. t ≡ bytes)) (sym c.deref-in-Either.ensures.value) c.in_ok-bytes.ensures.bytes in
    rw c.in-Either.is
    (named_heard c.args.called.table c.args.called.description (taken.Either c.in-Either.rights) g.L.Listener.Hears c.args.listener.now
    c.as_either.new.listener known c.deref-in-Either.result.now c.as_either.result same c.as_either.ensures.loaded c.as_either.ensures.heard)
