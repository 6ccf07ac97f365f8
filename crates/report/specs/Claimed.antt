-- The answers to claims on a table, and the strongest claims that hold (confine's own; claims are kept by the integrity of 'seL4 Enforces
-- Integrity', section 4, restated).
use Rattle.std.specs.{declared.alloc.Global.Global, List.{Contains, filter}, Prelude.{[], ℕ, ◌∷◌, ◌≡◌, List, None, Option, Some}}
use Rattle.{std.specs.Prelude.{Vec, is_some, length}, forms.specs.declared.file.File.File as file, machine.specs.Layout.Layout}
use Rattle.{noninterference.specs.Fixed.IsFixed, reach.specs.{Extents.{Limits, limits_of}, Reach.{IsReachOf, TableReach}}}
use Rattle.claims.specs.{declared.{claim.Claim.Claim, deciding.Broken.Broken, keeping.Kept.Kept}, Holding.{AreBroken, Holds, ClaimIsKept}}
use Rattle.claims.specs.{Learning.{IsKeptInCalls, IsKeptSo}, Reading.read_claims_of, Strongest.AreStrongest, Text.lines_text}
use Rattle.reptext.specs.{Breaches.breaches_data, Reports.{hold_data, line_of}}
use Rattle.commands.specs.declared.{answer.Answer.Answer, choices.Taken.Taken, end.End.End, listener.Finding.{Finding, Finding as finding}}
use Rattle.commands.specs.Commands.{TellsFinding, Input, IsDoneWith, IsPlain, Output}
use Rattle.claims.specs.declared.lines.TheConstants.ClaimLines as ClaimLines

-- the number of claims in lines
abbrev pub claim_count : List (Option Claim) → ℕ
claim_count lines = length (filter is_some lines)

abbrev pub TellsBroken : List Broken → Finding → Type 0
TellsBroken broken found = (v : Vec Broken Global) × (found ≡ finding.Broken v) × (v.items ≡ broken)

-- these claims are kept in every run from the table's boot state. Claims on flows are kept of calls too if the system is fixed, and the
-- answer says whether it is
pub record ClaimsAreKept (t : Layout) (limits : Limits) (IsOurs : Claim → Type 0) (kept : Kept) : Type 0 where
  pub every : (claim : Claim) → IsOurs claim → ClaimIsKept t limits claim
  pub calls : IsFixed t → (claim : Claim) → IsOurs claim → IsKeptInCalls t limits claim
  pub told : IsKeptSo t kept

-- the answer to claims: all hold by the table's reach and are kept; or these are all that don't hold, and the others are kept
pub data Judges (t : Layout) (lines : List (Option Claim)) (answer : Answer) : Type 0 where
  all_hold : (reach : TableReach) → IsReachOf t reach → AreBroken t (limits_of reach) ClaimLines.FIRST lines [] → (kept : Kept)
      → ClaimsAreKept t (limits_of reach) (λ claim. Contains lines (Some claim)) kept → IsPlain (line_of (hold_data (claim_count lines) kept)) 0 answer
      → Judges t lines answer
  some_broken : (reach : TableReach) → IsReachOf t reach → (first : Broken) (more : List Broken)
      → AreBroken t (limits_of reach) ClaimLines.FIRST lines (first ∷ more) → (kept : Kept)
      → ClaimsAreKept t (limits_of reach) (Holds t (limits_of reach)) kept
      → TellsFinding (line_of (breaches_data t lines (first ∷ more) kept)) (TellsBroken (first ∷ more)) answer → Judges t lines answer

-- claims were judged on a system
abbrev pub AreJudged : {T S O : Type 0} → Taken → Input T → Input S → Output O → End → Type 0
AreJudged taken = IsDoneWith taken file.Claims read_claims_of (λ t. None) Judges

-- a text is that of the strongest claims that hold by a table's reach, all of which are kept in every run
pub record TellsStrongest (t : Layout) (text : List ℕ) : Type 0 where
  pub reach : TableReach
  pub is_reach : IsReachOf t reach
  pub lines : List (Option Claim)
  pub strongest : AreStrongest t (limits_of reach) lines
  pub none_broken : AreBroken t (limits_of reach) ClaimLines.FIRST lines []
  pub kept : (claim : Claim) → Contains lines (Some claim) → ClaimIsKept t (limits_of reach) claim
  pub told : text ≡ lines_text t lines
