use Rattle.std.proofs.Common.{◌≡◌, refl, subst, true}
use Rattle.base.specs.{declared.kind.Kind.TheVariants.{Holds, Reply}, Labels.is_in}
use Rattle.policy.{specs.Policy.allows, proofs.Gathering.{both, only_tells, row_tells, told_as, waiting_tells}}
use Rattle.policy.proofs.policy.Policy.holders.Goals as goal

pub returns : goal.returns
returns c holder =
    let test = allows c.args.self.now in
    let acts = is_in c.args.actors in
    let reply = c.args.reply in
    let naming =
    waiting_tells test Reply (λ to. to ≡ reply) c.only.result (only_tells c.only.result reply c.only.ensures) holder
    (is_in c.waiting.result holder) (acts holder) (c.waiting.ensures holder) in
    told_as (is_in c.intersection.result holder)
    (both (is_in c.intersection.result holder) (is_in c.waiting.result holder) (is_in c.row.result holder) naming
    (row_tells test Holds reply c.row.result c.row.ensures holder) (c.intersection.ensures holder))
    (λ w. record { holds = w.1; names = subst (λ to. test holder Reply to ≡ true) w.0.1 w.0.2; waits = w.0.3 })
    (λ h. ((reply, refl, h.names, h.waits), h.holds))
