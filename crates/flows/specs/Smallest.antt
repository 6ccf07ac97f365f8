-- Sets of programs through which all flows from one label to another go, and the smallest of them (confine's own).
use Rattle.std.specs.Prelude.{ℕ, ◌<◌, ◌≡◌, ◌≤◌, false, length, true}
use Rattle.{base.specs.{declared.labels.Labels.Labels, Labels.is_in}, reach.specs.Extents.Limits}
use Rattle.flows.specs.declared.smallest.{Sets.Sets, Smallest.{Smallest, Smallest as smallest}, TheConstants.MOST_FILTERS}
use Rattle.flows.specs.{Flowing.GoesThrough, Sets.{AreFirst, size_of}}

-- programs, without the two labels, through which each chain of flows from the one to the other goes
pub record IsFilterSet (limits : Limits) (from to : ℕ) (set : Labels) : Type 0 where
  pub programs : (l : ℕ) → is_in set l ≡ true → limits.acts l ≡ true
  pub not_from : is_in set from ≡ false
  pub not_to : is_in set to ≡ false
  pub through : GoesThrough limits (is_in set) from to

-- sets of a kind

module _ (Is : Labels → Type 0) where
  -- a set of the kind with this number of labels
  pub record HasSize (size : ℕ) (set : Labels) : Type 0 where
    pub is : Is set
    pub has : size_of set ≡ size

  -- the first of those that have the fewest labels: all of them, or as many as are wanted
  pub record AreSmallest (most : ℕ) (sets : Sets) : Type 0 where
    pub size : ℕ
    pub small : size ≤ MOST_FILTERS
    pub least : (set : Labels) → Is set → size ≤ size_of set
    pub first : AreFirst (HasSize size) sets.sets.items sets.all
    pub some : 0 < length sets.sets.items
    pub few : length sets.sets.items ≤ most
    pub full : sets.all ≡ false → length sets.sets.items ≡ most

  -- there is one, and each has more labels than are looked for
  pub record AreLarger : Type 0 where
    pub set : Labels
    pub is : Is set
    pub more : (other : Labels) → Is other → MOST_FILTERS < size_of other

  -- the answer is that there is none, that each is large, or the smallest ones
  abbrev pub IsSmallest : ℕ → Smallest → Type 0
  IsSmallest most smallest.Direct = (set : Labels) → ¬ Is set
  IsSmallest most smallest.Larger = AreLarger
  IsSmallest most (smallest.Fewest sets) = AreSmallest most sets
