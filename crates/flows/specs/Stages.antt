-- Stages of the search for sets of a size: which labels a set has already, and which it may have besides (confine's own).
use Rattle.std.specs.Prelude.{[], ℕ, ◌++◌, ◌+◌, ◌<◌, ◌∷◌, ◌≡◌, ◌≢◌, ◌≤◌, ◌⊎◌, Bool, List, false, length, true}
use Rattle.base.specs.{declared.labels.Labels.Labels, Labels.is_in}
use Rattle.flows.specs.{declared.searching.Stage.Stage, Flowing.FilterTest, Sets.{AreFirst, size_of}, Ways.Way}
use Rattle.base.specs.declared.label.TheConstants.Label as Label

-- labels between two on a way between them, which aren't in the set: another set that has none of them leaves a way too
pub record AreBetween (rows : List Labels) (set : FilterTest) (from to : ℕ) (between : Labels) : Type 0 where
  pub beside : (l : ℕ) → is_in between l ≡ true → set l ≡ false
  pub not_from : is_in between from ≡ false
  pub not_to : is_in between to ≡ false
  pub leads : (other : FilterTest) → ((l : ℕ) → is_in between l ≡ true → other l ≡ false) → Way rows other from to

-- neither end is among the labels, and none of them is both chosen and still to be chosen. They are labels that there can be
pub record IsStage (from to : ℕ) (stage : Stage) : Type 0 where
  pub differ : from ≢ to
  pub apart : (l : ℕ) → is_in stage.allowed l ≡ true → is_in stage.chosen l ≡ false
  pub chosen_from : is_in stage.chosen from ≡ false
  pub chosen_to : is_in stage.chosen to ≡ false
  pub allowed_from : is_in stage.allowed from ≡ false
  pub allowed_to : is_in stage.allowed to ≡ false
  pub chosen_few : (l : ℕ) → is_in stage.chosen l ≡ true → l < Label.COUNT
  pub allowed_few : (l : ℕ) → is_in stage.allowed l ≡ true → l < Label.COUNT

-- a set with all that is chosen and as many of the other labels as are still to be chosen, which leaves no way
pub record Completes (rows : List Labels) (from to : ℕ) (stage : Stage) (set : Labels) : Type 0 where
  pub has : (l : ℕ) → is_in stage.chosen l ≡ true → is_in set l ≡ true
  pub within : (l : ℕ) → is_in set l ≡ true → (is_in stage.chosen l ≡ true) ⊎ (is_in stage.allowed l ≡ true)
  pub size : size_of set ≡ size_of stage.chosen + stage.room
  pub cuts : ¬ Way rows (is_in set) from to

-- labels that may be chosen, with all that can complete a set; the set is complete if no more is to be chosen
pub record AreUseful (rows : List Labels) (from to : ℕ) (stage : Stage) (useful : Labels) : Type 0 where
  pub among : (l : ℕ) → is_in useful l ≡ true → is_in stage.allowed l ≡ true
  pub enough : (set : Labels) → Completes rows from to stage set → (l : ℕ) → is_in set l ≡ true
      → (is_in stage.chosen l ≡ true) ⊎ (is_in useful l ≡ true)
  pub done : stage.room ≡ 0 → ¬ Way rows (is_in stage.chosen) from to

-- the first sets of a kind come behind those that were there: all of them, unless no more are wanted
pub record AreAdded (Is : Labels → Type 0) (old new : List Labels) (most : ℕ) (all : Bool) : Type 0 where
  pub more : List Labels
  pub is : new ≡ old ++ more
  pub first : AreFirst Is more all
  pub few : length new ≤ most
  pub full : all ≡ false → length new ≡ most

-- a set is added behind the others, or there are as many as are wanted
pub record IsTried (set : Labels) (old new : List Labels) (most : ℕ) (added : Bool) : Type 0 where
  pub grown : added ≡ true → (new ≡ old ++ set ∷ []) × (length old < most)
  pub full : added ≡ false → (new ≡ old) × (length old ≡ most)
