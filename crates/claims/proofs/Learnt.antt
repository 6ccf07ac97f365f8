-- Claims that hold in fixed systems: what they keep of calls, by the laws on two runs.
use Rattle.std.proofs.Common.{[], ℕ, ◌∷◌, List}
use Rattle.{machine.specs.Layout.Layout, reach.specs.Extents.Limits, flows.specs.Flowing.{FilterTest, IsClosedOff}}
use Rattle.claims.specs.{declared.claim.Claim.{Claim, Claim as claim}, Claims.is_one_of, Holding.Holds}
use Rattle.claims.specs.Learning.{IsKeptInCalls, LearnsByFilters, LearnsNothing, LearnsThrough}

module _ (t : Layout) (limits : Limits)
    (nothing : (from to : ℕ) (off : IsClosedOff limits (is_one_of []) from to) → LearnsNothing t limits off.inside)
    (by_filters : (filters : FilterTest) (from to : ℕ) (off : IsClosedOff limits filters from to) → LearnsByFilters t limits filters off.inside) where
  learns : (filters : List ℕ) (from to : ℕ) (off : IsClosedOff limits (is_one_of filters) from to) → LearnsThrough t limits filters off.inside
  learns [] from to off = nothing from to off
  learns (filter ∷ filters) from to off = by_filters (is_one_of (filter ∷ filters)) from to off

  pub claim_learnt : (claim : Claim) → Holds t limits claim → IsKeptInCalls t limits claim
  claim_learnt (claim.AtMost limit actor object) holds = tt
  claim_learnt (claim.Only object actors) holds = tt
  claim_learnt (claim.Within actor objects) holds = tt
  claim_learnt (claim.Readers object readers) holds = tt
  claim_learnt (claim.Through from to filters) holds = record { off = holds; learns = learns filters from to holds }
  claim_learnt (claim.Without actor kind object) holds = tt
