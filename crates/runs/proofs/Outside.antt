-- That a short script leaves a policy if it leads to a machine whose authority lies outside.
use Rattle.std.proofs.Common.{◌≤◌, IfSome, List, None, Option, Some, length}
use Rattle.machine.specs.{declared.call.Event.Event, Layout.Layout, Machine.Machine}
use Rattle.{policy.specs.Domain.EdgeTest, verdict.specs.declared.denial.Denial.Denial}
use Rattle.runs.specs.declared.leaving.TheConstants.{MOST_CALLS}
use Rattle.runs.specs.{Escapes.{IsAnywhereOutside, IsOutsideAt, LeavesPolicy, LeavesAt}, Shown.IsReachedBy}

pub leaves_at : (t : Layout) (allowed : EdgeTest) (script : List Event) (m : Machine) (found : Option Denial)
    → length script ≤ MOST_CALLS → IsReachedBy t script m → IfSome found (IsOutsideAt t allowed m) → IfSome found (LeavesAt t allowed script)
leaves_at t allowed script m None short reached outside = outside
leaves_at t allowed script m (Some d) short reached outside = record {
  short = short;
  m = m;
  reached = reached;
  outside = outside;
}

pub leaves_somewhere : (t : Layout) (allowed : EdgeTest) (script : List Event) (m : Machine) → length script ≤ MOST_CALLS
    → IsReachedBy t script m → IsAnywhereOutside t allowed m → LeavesPolicy t allowed script
leaves_somewhere t allowed script m short reached outside = (
  outside.0,
  record {
    short = short;
    m = m;
    reached = reached;
    outside = outside.1;
  },
)
