-- Answers of the checker to a capability table and a policy (confine's own).
use Rattle.std.specs.Prelude.{◌≡◌, Err, List, Ok}
use Rattle.base.specs.declared.{edge.Edge.Edge, refusal.{Misuse.Misuse as misuse, Refusal.Refusal}}
use Rattle.{machine.specs.Layout.Layout, verdict.specs.System.IsVerdict, certificate.specs.Right.right_certificate}
use Rattle.checker.specs.declared.checking.CheckError.{CheckError, TheVariants.{NoMemory, WorkerCount}}
use Rattle.checker.specs.declared.checking.Verdict.{TheVariants.{Accept, Deny}, Verdict}
use Rattle.base.specs.Refusals as refusals

-- the verdict on this table and this policy, and with an acceptance the table's certificate
abbrev pub IsCheck : Layout → List Edge → Verdict → Type 0
IsCheck t edges (Accept accepted certificate) = IsVerdict t edges (Ok accepted) × (certificate ≡ right_certificate t)
IsCheck t edges (Deny denial) = IsVerdict t edges (Err denial)

-- a fact for an acceptance
abbrev pub IfAccepted : Verdict → Type 0 → Type 0
IfAccepted (Accept accepted certificate) P = P
IfAccepted (Deny denial) P = Unit {0}

-- an error as a refusal
abbrev pub error_refusal : CheckError → Refusal
error_refusal NoMemory = refusals.out_of_memory
error_refusal WorkerCount = refusals.misuse_refusal misuse.WorkerCount
