use Rattle.{std.proofs.Common.{subst, sym}, table.{specs.Building.AdmitsCap, proofs.CapAdded.{aimed_low, draft_filled}}}
use Rattle.table.proofs.draft.Draft.add_cap.Goals as goal

pub invariant_of-self-2 : goal.invariant_of-self-2
invariant_of-self-2 c =
    let admits = subst (λ t. AdmitsCap t c.args.filled) (sym c.self.view_is) c.requires in
    rw c.in_ok-add.ensures.ok (draft_filled _ c.args.filled c.self.invariant admits)

pub add-requires : goal.add-requires
add-requires c =
    let admits = subst (λ t. AdmitsCap t c.args.filled) (sym c.self.view_is) c.requires in
    aimed_low _ c.args.filled.cap c.self.invariant admits.fits
