-- That nothing lies outside, or the first denial names the first place.
use Rattle.std.proofs.Common.{◌≡◌, IfNone, IfSome, None, Option, Some}
use Rattle.machine.specs.{Layout.Layout, Machine.Machine}
use Rattle.{policy.specs.{Domain.EdgeTest, Places.FindsLeast, Policy.allows}, integrity.specs.Confined.IsConfined}
use Rattle.verdict.specs.{declared.denial.Denial.Denial, Outside.LiesOutside, Rules.Excess, Verdict.{IsOutside, excess_of, place_of}}
use Rattle.verdict.proofs.{OutsideObjects.{first_place, nothing_outside}, Outsides.confined_within}
use Rattle.verdict.proofs.excess.outside.Goals as goal

module _ (t : Layout) (allowed : EdgeTest) (m : Machine) where
  within : (found : Option Denial) → FindsLeast place_of (LiesOutside t allowed m) found → IfNone found (IsConfined t allowed m)
  within None none = confined_within t allowed m (nothing_outside t allowed m none)
  within (Some d) least = tt

  first :
      (found : Option Denial) → FindsLeast place_of (LiesOutside t allowed m) found
      → IfSome found (λ d. (place : Excess) × (excess_of d ≡ Some place) × IsOutside t allowed m place)
  first None none = tt
  first (Some d) least = first_place t allowed m d least

pub returns-clause-within : goal.returns-clause-within
returns-clause-within c =
    within c.args.table.now (allows c.args.policy.now) c.args.state.now c.first_outside.result c.first_outside.ensures

pub returns-clause-first : goal.returns-clause-first
returns-clause-first c =
    first c.args.table.now (allows c.args.policy.now) c.args.state.now c.first_outside.result c.first_outside.ensures
