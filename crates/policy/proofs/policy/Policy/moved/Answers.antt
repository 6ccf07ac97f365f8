use Rattle.std.proofs.Common.{ℕ, ◌≡◌, ◌⊎◌, refl, subst, true}
use Rattle.base.specs.{declared.kind.Kind.TheVariants.Runs, Labels.is_in}
use Rattle.policy.{specs.{Change.{MayBorrow, MayLend}, Policy.allows}, proofs.Gathering.{both, either, only_tells, target_tells, told_as}}
use Rattle.policy.proofs.policy.Policy.moved.Goals as goal

pub returns : goal.returns
returns c object =
    let test = allows c.args.self.now in
    let actor = c.args.actor in
    let movers = λ (mover : ℕ).
    either (is_in c.union-movers.result mover) (is_in c.lenders.result mover) (is_in c.borrowers.result mover) (c.lenders.ensures mover)
    (c.borrowers.ensures mover) (c.union-movers.ensures mover) in
    let itself = λ (mover : ℕ).
    both (is_in c.intersection.result mover) (is_in c.union-movers.result mover) (is_in c.only.result mover) (movers mover)
    (only_tells c.only.result actor c.only.ensures mover) (c.intersection.ensures mover) in
    told_as (is_in c.targets.result object)
    (target_tells test Runs _ c.intersection.result itself object (is_in c.targets.result object) (c.targets.ensures object))
    (λ w. (
      subst (λ from. test from Runs object ≡ true) w.1.1 w.2,
      subst (λ from. MayLend test (is_in c.args.actors) from ⊎ MayBorrow test from) w.1.1 w.1.0,
    ))
    (λ h. (actor, (h.1, refl), h.0))
