-- Denials by A1 to A6 and the places that they name: each denial has its place, and each place its denial.
use Rattle.std.{specs.Option.option_map_or, proofs.Common.{[], ◌↔◌, ◌≡◌, MatchOption, None, Option, Some, ap, refl, subst, sym}}
use Rattle.{std.proofs.lemmas.Option.none-some, policy.specs.Domain.EdgeTest}
use Rattle.verdict.specs.{declared.denial.Denial.{Denial, Denial as denial}, Rules.{Exceeds, Excess, binding, capability, excess_place}}
use Rattle.verdict.specs.{Rules.{holding, pair, recorded, root}, Sources.Sources, Verdict.{IsExceeded, excess_of, place_of}}

-- a denial and its place have the same numbers
pub numbered : (d : Denial) (place : Excess) → excess_of d ≡ Some place → place_of d ≡ excess_place place
numbered (denial.Policy _) place is = absurd (none-some place is)
numbered (denial.Sharp _) place is = absurd (none-some place is)
numbered (denial.Certificate _) place is = absurd (none-some place is)
numbered d place is = ap (λ e. option_map_or excess_place e []) is

pub denial_at : (place : Excess) → (d : Denial) × (excess_of d ≡ Some place)
denial_at (capability slot k l) = (denial.Capability slot k l, refl)
denial_at (root slot l) = (denial.Root slot l, refl)
denial_at (pair child parent) = (denial.Pair child parent, refl)
denial_at (binding thread context) = (denial.Binding thread context, refl)
denial_at (holding reply thread) = (denial.Holding reply thread, refl)
denial_at (recorded thread k l) = (denial.Recorded thread k l, refl)

-- the denial of a place is this one
pub denial_is : (d : Denial) (place : Excess) → excess_of d ≡ Some place → d ≡ (denial_at place).0
unfolding denial_at
denial_is (denial.Policy _) place is = absurd (none-some place is)
denial_is (denial.Sharp _) place is = absurd (none-some place is)
denial_is (denial.Certificate _) place is = absurd (none-some place is)
denial_is d place is = ap (λ e. option_map_or (λ p. (denial_at p).0) e d) is

-- the policy is exceeded as a denial says exactly if it is at the denial's place
module _ (s : Sources) (allowed : EdgeTest) (d : Denial) where
  pub exceeded_there : (place : Excess) → excess_of d ≡ Some place → IsExceeded s allowed d ↔ Exceeds s allowed place
  exceeded_there place is =
      let At : Option Excess → Type 0 = λ e. MatchOption e ⊥ (Exceeds s allowed) in (subst At is, subst At (sym is))

  pub exceeded_at : IsExceeded s allowed d → (place : Excess) × (excess_of d ≡ Some place) × Exceeds s allowed place
  exceeded_at = by (excess_of d) refl where
    by :
        (e : Option Excess) → excess_of d ≡ e → MatchOption e ⊥ (Exceeds s allowed)
        → (place : Excess) × (excess_of d ≡ Some place) × Exceeds s allowed place
    by None is out = absurd out
    by (Some place) is out = (place, is, out)
