-- Verdicts on a capability table, a policy and a certificate: the rules on the first two come first, then C1, that the certificate is the
-- right one (confine's own).
use Rattle.std.specs.Prelude.{ℕ, ◌+◌, ◌<◌, ◌≡◌, ◌≢◌, Err, List, Ok, Result, slice_get}
use Rattle.{base.specs.declared.edge.Edge.Edge, machine.specs.Layout.Layout, policy.specs.Policy.allows}
use Rattle.verdict.specs.{declared.{denial.Denial.Denial, rules.Rules.Rules}, ByRules.{IsAcceptedBy, IsLeastBrokenBy}, System.IsVerdict}
use Rattle.{verdict.specs.{System.System, Verdict.IsAccepted}, certificate.specs.{declared.line.Line.Line, Right.right_certificate}}
use Rattle.checker.specs.declared.verifying.NotAccepted.{NotAccepted, TheVariants.{Denied, NoMemory}}
use Rattle.verdict.specs.declared.denial.Denial.TheVariants as denial

-- the first line, from 1, where two lists differ: those before it agree, and there the lines differ or one list has ended
pub record DiffersFirst (line : ℕ) (one other : List Line) : Type 0 where
  pub before : ℕ
  pub counted : line ≡ before + 1
  pub agree : (k : ℕ) → k < before → slice_get one k ≡ slice_get other k
  pub differ : slice_get one before ≢ slice_get other before

-- a table and a policy that are accepted with another certificate than the right one are denied by C1, all others as they are without
abbrev pub IsDenied : Layout → List Edge → List Line → Denial → Type 0
IsDenied t edges lines (denial.Certificate line) =
    IsAccepted t (allows edges) × DiffersFirst line lines (right_certificate t)
IsDenied t edges lines other = IsVerdict t edges (Err other)

-- accepted, if the table and the policy are and the certificate is the right one
abbrev pub IsVerified : Layout → List Edge → List Line → Result System NotAccepted → Type 0
IsVerified t edges lines (Ok accepted) = IsVerdict t edges (Ok accepted) × (lines ≡ right_certificate t)
IsVerified t edges lines (Err (Denied denial)) = IsDenied t edges lines denial
IsVerified t edges lines (Err NoMemory) = Unit {0}

-- by a set of rules: the rules of the set and of authority come first, and then C1

abbrev pub IsDeniedBy : Rules → Layout → List Edge → List Line → Denial → Type 0
IsDeniedBy set t edges lines (denial.Certificate line) =
    IsAcceptedBy set t (allows edges) × DiffersFirst line lines (right_certificate t)
IsDeniedBy set t edges lines other = IsLeastBrokenBy set t (allows edges) other

abbrev pub IsVerifiedBy : {X : Type 0} → Rules → Layout → List Edge → List Line → Result X NotAccepted → Type 0
IsVerifiedBy set t edges lines (Ok accepted) = IsAcceptedBy set t (allows edges) × (lines ≡ right_certificate t)
IsVerifiedBy set t edges lines (Err (Denied denial)) = IsDeniedBy set t edges lines denial
IsVerifiedBy set t edges lines (Err NoMemory) = Unit {0}
