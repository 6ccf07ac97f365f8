-- Systems, which are a capability table and a policy; the verdict on one, and what holds of an accepted one (confine's own).
use Rattle.std.specs.Prelude.{◌≡◌, Err, List, Ok, Result}
use Rattle.{base.specs.declared.edge.Edge.Edge, machine.specs.Layout.Layout, policy.specs.Policy.allows}
use Rattle.{integrity.specs.Safe.IsSafe, verdict.specs.{declared.denial.Denial.Denial, Verdict.{IsAccepted, IsLeastBroken}}}

pub record System : Type 0 where
  pub table : Layout
  -- the edges of the policy
  pub policy : List Edge

-- no rule is broken, and every run is safe
pub record IsAcceptedSystem (system : System) : Type 0 where
  pub verdict : IsAccepted system.table (allows system.policy)
  pub safe : IsSafe system.table (allows system.policy)

-- accepted with this table and policy if no rule is broken; else denied with the least place where one is
abbrev pub IsVerdict : Layout → List Edge → Result System Denial → Type 0
IsVerdict t edges (Ok accepted) = (accepted ≡ record { table = t; policy = edges }) × IsAccepted t (allows edges)
IsVerdict t edges (Err denial) = IsLeastBroken t (allows edges) denial
