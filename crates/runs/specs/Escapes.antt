-- Scripts that lead out of a policy: their runs end where authority lies outside it (compare 'seL4 Enforces Integrity', section 3; that a
-- short run shows it is confine's own).
use Rattle.std.specs.Prelude.{◌≡◌, ◌≤◌, List, Some, length}
use Rattle.{machine.specs.{declared.call.Event.Event, Layout.Layout, Machine.Machine}, policy.specs.Domain.EdgeTest}
use Rattle.verdict.specs.{declared.denial.Denial.Denial, Rules.Excess, Verdict.{IsOutside, excess_of}}
use Rattle.runs.specs.{declared.leaving.TheConstants.MOST_CALLS, Shown.IsReachedBy}

-- a machine's authority lies outside the policy, and the denial names the first place
abbrev pub IsOutsideAt : Layout → EdgeTest → Machine → Denial → Type 0
IsOutsideAt t allowed m d = (place : Excess) × (excess_of d ≡ Some place) × IsOutside t allowed m place

-- some authority of a machine lies outside the policy
abbrev pub IsAnywhereOutside : Layout → EdgeTest → Machine → Type 0
IsAnywhereOutside t allowed m = (d : Denial) × IsOutsideAt t allowed m d

-- a short script of calls that aren't refused leads from the table's boot state to a machine whose authority lies outside the policy, first
-- at the place of the denial
pub record LeavesAt (t : Layout) (allowed : EdgeTest) (script : List Event) (d : Denial) : Type 0 where
  pub short : length script ≤ MOST_CALLS
  pub m : Machine
  pub reached : IsReachedBy t script m
  pub outside : IsOutsideAt t allowed m d

-- a short script leaves the policy at some place
abbrev pub LeavesPolicy : Layout → EdgeTest → List Event → Type 0
LeavesPolicy t allowed script = (d : Denial) × LeavesAt t allowed script d
