use Rattle.std.proofs.Common.{◌∙◌, ap, sym}
use Rattle.objects.specs.{declared.links.TreeLinks.TreeLinks, Family.leaving_from}
use Rattle.objects.proofs.store.Store.detach.Goals as goal

pub returns-in-Some : goal.returns-in-Some
returns-in-Some c =
    c.leave.ensures
    ∙ ap (λ o. leaving_from c.args.self.now c.args.slot c.links-links.result o) (sym c.in-Some.is)
    ∙ ap (λ (l : TreeLinks). leaving_from c.args.self.now c.args.slot l l.parent) c.links-links.ensures
