use Rattle.{std.proofs.Common.{subst, sym}, table.{specs.Building.AdmitsObject, proofs.ObjectAdded.draft_initial}}
use Rattle.table.proofs.draft.Draft.add_object.Goals as goal

pub invariant_of-self-2 : goal.invariant_of-self-2
invariant_of-self-2 c =
    let admits = subst (λ t. AdmitsObject t c.args.name.now c.args.initial) (sym c.self.view_is) c.requires in
    rw (c.in_ok-add.ensures.names, c.in_ok-add.ensures.objects) (draft_initial _ c.args.name.now c.args.initial c.self.invariant admits)
