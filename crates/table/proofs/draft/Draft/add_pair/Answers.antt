use Rattle.{std.proofs.Common.{subst, sym}, table.{specs.Building.AdmitsPair, proofs.Pairs.draft_pair}}
use Rattle.table.proofs.draft.Draft.add_pair.Goals as goal

pub invariant_of-self-2 : goal.invariant_of-self-2
invariant_of-self-2 c =
    let admits = subst (λ t. AdmitsPair t c.args.pair) (sym c.self.view_is) c.requires in
    rw c.in_ok-push.ensures.items (draft_pair _ c.args.pair c.self.invariant admits)
