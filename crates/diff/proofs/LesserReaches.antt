-- The reaches of two tables: the second lies within the first if no change from the first to the second adds anything.
use Rattle.std.{specs.List.{AllByRecursion, list_any}, proofs.Common.{[], ℕ, ◌<◌, ◌∷◌, ◌≡◌, List, false, length, subst, true}}
use Rattle.{std.proofs.lemmas.Bool.{lt-ltb, or_parts}, base.specs.Labels.is_in, table.proofs.AtBoot.initial_lawful}
use Rattle.reach.specs.{Extents.limits_of, Reach.{IsTableReach, TableReach}}
use Rattle.diff.specs.{declared.change.Change.Change, Changes.{AreChanges, adds, changes}, Side.SideOf, Twins.twin_by_name}
use Rattle.diff.{specs.Within.{AreTwins, LiesWithin}, proofs.{Adding.IsOf, Lesser.{actors, edges, keepers, named}, Namesakes.are_twins}}

-- a label whose threads make calls is one of the table's
acts_here : (reach : TableReach) → IsTableReach reach → (a : ℕ) → is_in reach.actors a ≡ true → a < length reach.table.labels
acts_here reach is a acts =
    let may = ((is.actors a).0 acts).1 in
    subst (λ l. l < length reach.table.labels) may.labelled (initial_lawful reach.table is.lawful may.id may.initial may.declares).label

-- a change adds nothing
abbrev Idle : Change → Type 0
Idle told = adds told ≡ false

none_adds : (told : List Change) → list_any adds told ≡ false → AllByRecursion Idle told
none_adds [] none = tt
none_adds (first ∷ more) none =
    let parts = or_parts (adds first) (list_any adds more) none in
    (parts.0, none_adds more parts.1)

module _ (old new : TableReach) (is : IsTableReach new) (changed : List Change) (are : AreChanges old new changed)
    (none : list_any adds changed ≡ false) where
  -- the two sides
  abbrev one : SideOf
  one = record { reach = old; rows = are.old_rows }

  abbrev other : SideOf
  other = record { reach = new; rows = are.new_rows }

  listed : AllByRecursion Idle (changes one other)
  listed = none_adds (changes one other) (subst (λ (told : List Change). list_any adds told ≡ false) are.are none)

  itself : (told : Change) → IsOf one other told → Idle told → Idle told
  itself told of idle = idle

  pub twins_there : AreTwins new.table old.table (twin_by_name new.table old.table)
  twins_there = are_twins new.table old.table is.lawful.draft (named one other Idle itself listed)

  pub lies : LiesWithin (twin_by_name new.table old.table) (limits_of new) (limits_of old)
  lies = record {
    edges = edges one other Idle itself listed;
    actors = λ a acts. actors one other Idle itself listed a (lt-ltb a (length new.table.labels) (acts_here new is a acts)) acts;
    distinct = λ a b acts also apart same. apart (twins_there.distinct a b same);
  }

  pub keep : (a : ℕ) → is_in new.keepers a ≡ true → a < length new.table.labels
      → is_in old.keepers (twin_by_name new.table old.table a) ≡ true
  keep a keeps within = keepers one other Idle itself listed a (lt-ltb a (length new.table.labels) within) keeps
