-- That the loop finds how far each label goes.
use Rattle.{std.proofs.Common.{arith, refl}, reach.specs.Extents.{GoesTo, limits_of}}
use Rattle.summary.{specs.declared.user_lines.User.User, proofs.OneMore.{each_more, labels_more}}
use Rattle.summary.proofs.user_lines.users.Goals as goal

pub loop-label-preserved : goal.loop-label-preserved
loop-label-preserved c =
    let users = c.loop-label.users.items in
    let longer = c.push.new.self.items in
    let user : User = record { label = c.label-item.result; extent = c.extent.result } in
    let so_far = c.loop-label.invariant in
    let grown = c.in_ok-push.ensures.items in (
      labels_more (λ (u : User). u.label) users longer user c.args.labels.now c.loop-label.label-index user.label (omega arith) so_far.0 grown refl c.label-item.is,
      each_more (λ (u : User). GoesTo (limits_of c.args.reach.now) u.label c.args.object u.extent) users longer user so_far.1 grown c.extent.ensures.extent,
    )
