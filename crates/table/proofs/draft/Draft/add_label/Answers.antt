use Rattle.{std.proofs.Common.{subst, sym}, table.{specs.Building.AdmitsLabel, proofs.LabelAdded.draft_label}}
use Rattle.table.proofs.draft.Draft.add_label.Goals as goal

pub invariant_of-self-2 : goal.invariant_of-self-2
invariant_of-self-2 c =
    let admits = subst (λ t. AdmitsLabel t c.args.name.now) (sym c.self.view_is) c.requires in
    rw c.in_ok-add.ensures.ok (draft_label _ c.args.name.now c.self.invariant admits)
