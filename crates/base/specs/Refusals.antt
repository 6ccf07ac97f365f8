-- Refusals as they are written: a code and a detail for a cause (seL4 manual, "Error Codes"; codes from 32 up are confine's own).
use Rattle.std.specs.{List.Contains, Prelude.{[], ℕ, ◌∷◌, ◌≡◌, ◌≢◌, ◌≤◌, List}}
use Rattle.base.specs.declared.refusal.{Cause.{Cause, Cause as cause}, LookupFailure.{LookupFailure, TheVariants.DepthMismatch}}
use Rattle.base.specs.declared.refusal.{LookupFailure.TheVariants.{GuardMismatch, InvalidRoot, MissingCapability}, Misuse.Misuse}
use Rattle.base.specs.declared.refusal.{Misuse.Misuse as misuse, Refusal.Refusal}

abbrev pub failure_detail : LookupFailure → ℕ
failure_detail InvalidRoot = 1
failure_detail MissingCapability = 2
failure_detail DepthMismatch = 3
failure_detail GuardMismatch = 4

-- a refusal that has no detail
abbrev pub plain : ℕ → Refusal
plain code = record { code = code; detail = 0 }

-- the refusal of every call whose allocation failed
abbrev pub out_of_memory : Refusal
out_of_memory = plain 40

-- the refusal by a condition of a call
abbrev pub refusal_of : Cause → Refusal
refusal_of cause.InvalidArgument = plain 1
refusal_of cause.InvalidCapability = plain 2
refusal_of cause.IllegalOperation = plain 3
refusal_of cause.RangeError = plain 4
refusal_of (cause.FailedLookup failure) = record { code = 6; detail = failure_detail failure }
refusal_of cause.DeleteFirst = plain 8
refusal_of cause.NotEnoughMemory = plain 10
refusal_of cause.NotRunnable = plain 32
refusal_of cause.WrongCore = plain 33
refusal_of cause.NoSuchThread = plain 34
refusal_of cause.TooMany = plain 44

-- the refusal of what isn't begun
abbrev pub misuse_refusal : Misuse → Refusal
misuse_refusal misuse.LogFull = plain 41
misuse_refusal misuse.ForeignSeat = plain 42
misuse_refusal misuse.LogSize = plain 43
misuse_refusal misuse.WorkerCount = plain 45
misuse_refusal misuse.SeatCount = plain 46

-- the codes that a condition of a call has
abbrev pub condition_codes : List ℕ
condition_codes = 1 ∷ 2 ∷ 3 ∷ 4 ∷ 6 ∷ 8 ∷ 10 ∷ 32 ∷ 33 ∷ 34 ∷ 44 ∷ []

-- a refusal that a condition of a call may give: a failed lookup alone has a detail
pub record IsOfCondition (refusal : Refusal) : Type 0 where
  pub code : Contains condition_codes refusal.code
  pub no_detail : refusal.code ≢ 6 → refusal.detail ≡ 0
  pub failure : refusal.code ≡ 6 → (1 ≤ refusal.detail) × (refusal.detail ≤ 4)
