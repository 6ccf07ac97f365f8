use Rattle.std.proofs.Common.{subst, sym}
use Rattle.table.{specs.Building.AdmitsBinding, proofs.BindingAdded.{context_low, draft_binding, not_bound}}
use Rattle.table.proofs.draft.Draft.add_binding.Goals as goal

pub invariant_of-self-2 : goal.invariant_of-self-2
invariant_of-self-2 c =
    let admits = subst (λ t. AdmitsBinding t c.args.binding) (sym c.self.view_is) c.requires in
    rw c.in_ok-add.ensures.ok (draft_binding _ c.args.binding c.self.invariant admits)

pub add-requires-clause-number : goal.add-requires-clause-number
add-requires-clause-number c =
    let admits = subst (λ t. AdmitsBinding t c.args.binding) (sym c.self.view_is) c.requires in
    context_low _ c.args.binding.context _ c.self.invariant admits.context

pub add-requires-clause-free : goal.add-requires-clause-free
add-requires-clause-free c =
    let admits = subst (λ t. AdmitsBinding t c.args.binding) (sym c.self.view_is) c.requires in
    not_bound _ c.args.binding.context admits.once
