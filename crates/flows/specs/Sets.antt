-- Sets of labels: how many labels one has, which of two comes first, and the first sets of a kind in that order (confine's own).
use Rattle.std.specs.Prelude.{ℕ, ◌+◌, ◌<◌, ◌≡◌, ◌⊎◌, All, AllPairs, Any, Bool, List, cond, false, suc, true, zero}
use Rattle.base.specs.{declared.labels.Labels.Labels, Labels.is_in}
use Rattle.base.specs.declared.label.TheConstants.Label as Label

-- how many of the labels below a number pass a test
unfoldable pub count_below : (ℕ → Bool) → ℕ → ℕ
count_below test zero = 0
count_below test (suc n) = cond (test n) 1 0 + count_below test n

-- how many labels a set has
abbrev pub size_of : Labels → ℕ
size_of set = count_below (is_in set) Label.COUNT

-- two sets that have the same labels
abbrev pub HasSameLabels : Labels → Labels → Type 0
HasSameLabels one other = (l : ℕ) → is_in one l ≡ is_in other l

-- the one set has the first label in which the two differ
pub record Precedes (one other : Labels) : Type 0 where
  pub at : ℕ
  pub has : is_in one at ≡ true
  pub lacks : is_in other at ≡ false
  pub before : (l : ℕ) → l < at → is_in one l ≡ is_in other l

-- a set is one of these
abbrev pub IsListed : List Labels → Labels → Type 0
IsListed sets set = Any (λ one. HasSameLabels one set) sets

-- the first sets of a kind, in order: all of them, or those that aren't listed come after
pub record AreFirst (Is : Labels → Type 0) (sets : List Labels) (all : Bool) : Type 0 where
  pub each : All Is sets
  pub rise : AllPairs Precedes sets
  pub rest : (set : Labels) → Is set → IsListed sets set ⊎ ((all ≡ false) × All (λ one. Precedes one set) sets)
