-- The claim of a line of a text of claims, by the line's number (confine's own).
use Rattle.std.specs.Prelude.{ℕ, ◌-◌, List, None, Option, Some, if◌then◌else◌, nat_lt, slice_get}
use Rattle.claims.specs.declared.claim.Claim.{Claim}
use Rattle.claims.specs.declared.lines.TheConstants.ClaimLines as ClaimLines

-- what a line that there may be says, if it says a claim
abbrev pub claim_of : Option (Option Claim) → Option Claim
claim_of (Some entry) = entry
claim_of None = None

-- these are the lines from the second on
abbrev pub claim_at : List (Option Claim) → ℕ → Option Claim
claim_at lines line = if nat_lt line ClaimLines.FIRST then None else claim_of (slice_get lines (line - ClaimLines.FIRST))
