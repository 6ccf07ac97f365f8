use Rattle.std.proofs.Common.{◌∙◌, ap, option_copied, sym}
use Rattle.objects.proofs.Removed.{counts_it, nothing_removed, removed_gives, sound_removed}
use Rattle.objects.proofs.state.State.remove_object.Goals as goal

pub without-self-inside-requires-clause-objects : goal.without-self-inside-requires-clause-objects
without-self-inside-requires-clause-objects c =
    (counts_it c.self.inside c.self.invariant c.args.id c.in-Some.field-0.now
    (rw c.self.view_is (sym c.object.ensures ∙ ap option_copied c.in-Some.is))).0

pub without-self-inside-requires-clause-slots : goal.without-self-inside-requires-clause-slots
without-self-inside-requires-clause-slots c =
    (counts_it c.self.inside c.self.invariant c.args.id c.in-Some.field-0.now
    (rw c.self.view_is (sym c.object.ensures ∙ ap option_copied c.in-Some.is))).1

pub without-self-inside-requires-clause-threads : goal.without-self-inside-requires-clause-threads
without-self-inside-requires-clause-threads c =
    (counts_it c.self.inside c.self.invariant c.args.id c.in-Some.field-0.now
    (rw c.self.view_is (sym c.object.ensures ∙ ap option_copied c.in-Some.is))).2

pub invariant_of-self : goal.invariant_of-self
invariant_of-self c =
    rw (c.remove.ensures, c.without-self-inside.ensures)
    (sound_removed c.self.inside c.self.invariant c.args.id (rw c.self.view_is c.requires.unheld)
    (rw c.self.view_is c.requires.hollow) (rw c.self.view_is c.requires.alone) (rw c.self.view_is c.requires.deserted) (rw c.self.view_is c.requires.free)
    c.in-Some.field-0.now (rw c.self.view_is (sym c.object.ensures ∙ ap option_copied c.in-Some.is)))

pub returns-in-Some : goal.returns-in-Some
returns-in-Some c =
    rw (c.remove.ensures, c.without-self-inside.ensures, ← c.self.view_is)
    (removed_gives c.self.inside c.self.invariant c.args.id (rw c.self.view_is c.requires.unheld)
    (rw c.self.view_is c.requires.hollow) (rw c.self.view_is c.requires.alone) (rw c.self.view_is c.requires.deserted) (rw c.self.view_is c.requires.free)
    c.in-Some.field-0.now)

pub returns-in_default : goal.returns-in_default
returns-in_default c =
    rw (← c.self.view_is)
    (sym
    (nothing_removed c.self.inside c.args.id (rw c.self.view_is (sym c.object.ensures ∙ ap option_copied c.in_default.is))))
