-- A system compared with itself: there is no change.
use Rattle.std.specs.{List.{AllByRecursion, flat_map, range_with_len}, Option.{is_none, option_and_then}, Prelude.not}
use Rattle.std.proofs.Common.{[], ℕ, ◌&&◌, ◌++◌, ◌<◌, ◌∙◌, ◌∷◌, ◌≡◌, Bool, List, Some, ap, arith, false, if◌then◌else◌, length, refl}
use Rattle.std.proofs.{Common.{subst, sym, true, zero-add}, lemmas.List.{Elements.recursion_from_All, FromFn.get_or-range_with_len}}
use Rattle.{std.proofs.lemmas.{List.FromFn.length-range_with_len, Option.slice_get-get_or}, base.specs.declared.edge.Edge.Edge}
use Rattle.{machine.specs.Layout.Layout, table.specs.{Names.label_named, Rules.IsLawful}, reach.specs.Reach.{IsTableReach, TableReach}}
use Rattle.{captext.proofs.NameLaws.label_again, summary.specs.{Labelled.labels_of, Regions.is_same}}
use Rattle.diff.specs.declared.change.{Change.{Change, Change as change}, Marks.Marks, Role.Role as role, Sign.Sign as sign}
use Rattle.diff.specs.declared.{change.{Standing.{Standing, Standing as stands}, Verb.{Verb, Verb as verb}}, names.Named.Named}
use Rattle.diff.specs.Changes.{AreChanges, actor_change, actor_change_if, cell_change, end_in_new, end_in_old, gained_edge, keeper_change}
use Rattle.diff.specs.Changes.{lost_edge, same_marks, same_standing, shows_actor, shows_edge, signs, standing_change, turned, use_change}
use Rattle.diff.specs.{Changes.use_changes, Names.{names_of, new_name, old_name, twin_of}, Side.{SideOf, cell, has_edge, has_role}}
use Rattle.diff.{specs.Side.{standing, uses}, proofs.{Joined.{IsOne, each_joins}, SameRows.{same_cell_at, same_standing_at, same_use_at}}}

-- lists that stand one after another

joined : {X : Type 0} (P : X → Type 0) (xs ys : List X) → AllByRecursion P xs → AllByRecursion P ys → AllByRecursion P (xs ++ ys)
joined P [] ys all more = more
joined P (x ∷ xs) ys all more = (all.0, joined P xs ys all.1 more)

module _ {Y : Type 0} (Q : Y → Type 0) where
  all_flat : {X : Type 0} (P : X → Type 0) (f : Y → List X) → ((y : Y) → Q y → AllByRecursion P (f y)) → (ys : List Y)
      → AllByRecursion Q ys → AllByRecursion P (flat_map f ys)
  all_flat P f each [] all = tt
  all_flat P f each (y ∷ ys) all = joined P (f y) (flat_map f ys) (each y all.0) (all_flat P f each ys all.1)

  none_flat : {X : Type 0} (f : Y → List X) → ((y : Y) → Q y → f y ≡ []) → (ys : List Y) → AllByRecursion Q ys → flat_map f ys ≡ []
  none_flat f none [] all = refl
  none_flat f none (y ∷ ys) all =
      let first = none y all.0 in let rest = none_flat f none ys all.1 in λ i. first i ++ rest i

below : (n : ℕ) → AllByRecursion (λ a. a < n) (range_with_len 0 n)
below n =
    let long = length-range_with_len 0 n in
    recursion_from_All (λ a. a < n) (range_with_len 0 n)
    (λ i d within.
    let lt : i < n = omega (arith, long, within) in subst (λ a. a < n) (sym (get_or-range_with_len 0 n i d lt ∙ zero-add i)) lt)

-- names

abbrev self : ℕ → Named
self a = record { old = Some a; new = Some a }

abbrev IsSelf : Named → Type 0
IsSelf named = (a : ℕ) × (named ≡ self a)

module _ (t : Layout) (lawful : IsLawful t) where
  own_twin : (a : ℕ) → a < length t.labels → twin_of t t a ≡ Some a
  own_twin a within =
      ap (option_and_then (label_named t)) (slice_get-get_or t.labels a [] within) ∙ label_again t a lawful.draft within

  selves : AllByRecursion IsSelf (names_of t t)
  selves =
      joined IsSelf (flat_map (new_name t t) (labels_of t)) (flat_map (old_name t t) (labels_of t))
      (all_flat (λ a. a < length t.labels) IsSelf (new_name t t) first (labels_of t) (below (length t.labels)))
      (all_flat (λ a. a < length t.labels) IsSelf (old_name t t) second (labels_of t) (below (length t.labels)))
    where
      first : (a : ℕ) → a < length t.labels → AllByRecursion IsSelf (new_name t t a)
      first a within = ((a, λ i. record { old = own_twin a within i; new = Some a }), tt)

      second : (a : ℕ) → a < length t.labels → AllByRecursion IsSelf (old_name t t a)
      second a within =
          subst (λ twin. AllByRecursion IsSelf (if is_none twin then record { old = Some a; new = twin } ∷ [] else []))
          (sym (own_twin a within)) tt

-- what agrees with itself

still_standing : (one : Standing) → same_standing one one ≡ true
still_standing stands.Absent = refl
still_standing stands.Label = refl
still_standing stands.Program = refl

still_flag : (b : Bool) → is_same b b ≡ true
still_flag true = refl
still_flag false = refl

still_marks : (one : Marks) → same_marks one one ≡ true
still_marks one =
    let calls = still_flag one.calls in
    let answers = still_flag one.answers in
    let signals = still_flag one.signals in
    let others = still_flag one.others in
    let changes = still_flag one.changes in
    let takes = still_flag one.takes in
    let shares = still_flag one.shares in
    λ i. ((calls i && answers i) && (signals i && others i)) && (changes i && (takes i && shares i))

no_sign : (b : Bool) → signs b b ≡ []
no_sign true = refl
no_sign false = refl

module _ (reach : TableReach) (changed : List Change) (is : IsTableReach reach) (are : AreChanges reach reach changed) where
  abbrev one : SideOf
  one = record { reach = reach; rows = are.old_rows }

  abbrev other : SideOf
  other = record { reach = reach; rows = are.new_rows }

  abbrev names : List Named
  names = names_of reach.table reach.table

  of_names : (f : Named → List Change) → ((a : ℕ) → f (self a) ≡ []) → flat_map f names ≡ []
  of_names f none = none_flat IsSelf f (λ named own. ap f own.1 ∙ none own.0) names (selves reach.table is.lawful)

  of_pairs : (f : Named → Named → List Change) → ((a b : ℕ) → f (self a) (self b) ≡ [])
      → flat_map (λ from. flat_map (f from) names) names ≡ []
  of_pairs f none = of_names (λ from. flat_map (f from) names) (λ a. of_names (f (self a)) (none a))

  -- label by label

  standings : (a : ℕ) → standing_change one other (self a) ≡ []
  standings a =
      let now = standing other (Some a) in
      let same = ap (λ was. same_standing was now) (same_standing_at reach are.old_rows are.new_rows are.old_are are.new_are a)
      ∙ still_standing now in
      ap (λ b. if b then [] else change.Standing (self a) (standing one (Some a)) now ∷ []) same

  cells : (a b : ℕ) → cell_change one other (self a) (self b) ≡ []
  cells a b =
      let was = cell one (Some a) (Some b) in
      let now = cell other (Some a) (Some b) in
      let same = ap (λ marks. same_marks marks now) (same_cell_at reach are.old_rows are.new_rows are.old_are are.new_are a b)
      ∙ still_marks now in
      ap (λ same. if same then [] else change.Cell (self a) (self b) was now ∷ []) same

  one_use : (how : Verb) (a b : ℕ) → use_change one other (self a) (self b) how ≡ []
  one_use how a b =
      let now = uses other how (Some a) (Some b) in
      ap (λ told. flat_map (λ gained. change.Use gained (self a) how (self b) ∷ []) told)
      (ap (λ was. signs was now) (same_use_at reach are.old_rows are.new_rows are.old_are are.new_are how a b) ∙ no_sign now)

  all_uses : (a b : ℕ) → use_changes one other (self a) (self b) ≡ []
  all_uses a b =
      let changed = one_use verb.Changes a b in
      let taken = one_use verb.Takes a b in
      let read = one_use verb.Reads a b in
      λ i. changed i ++ (taken i ++ read i)

  keepers : (a : ℕ) → keeper_change one other (self a) ≡ []
  keepers a = ap (flat_map (λ told. change.Role told role.Keeper (self a) ∷ [])) (no_sign (has_role one role.Keeper (Some a)))

  actors : (a : ℕ) → actor_change one other (self a) ≡ []
  actors a =
      ap
      (flat_map
      (λ told. actor_change_if one other (shows_actor told (standing one (Some a)) (standing other (Some a))) told (self a)))
      (no_sign (has_role one role.Actor (Some a)))

  -- edge by edge

  abbrev Joins : Edge → Type 0
  Joins = IsOne reach.table is.lawful reach.policy is.least

  had : (edge : Edge) → Joins edge
      → has_edge one (twin_of reach.table reach.table edge.from) edge.kind (twin_of reach.table reach.table edge.to) ≡ true
  had edge joins =
      let from = own_twin reach.table is.lawful edge.from joins.0 in
      let to = own_twin reach.table is.lawful edge.to joins.1 in
      (λ i. has_edge one (from i) edge.kind (to i)) ∙ joins.2

  gained : (edge : Edge) → Joins edge → gained_edge one other edge ≡ []
  gained edge joins =
      let from = end_in_new one other edge.from in
      let to = end_in_new one other edge.to in
      ap
      (λ had. if not had && not (shows_edge one other from edge.kind to) then change.Edge sign.Gained from edge.kind to ∷ [] else [])
      (had edge joins)

  lost : (edge : Edge) → Joins edge → lost_edge one other edge ≡ []
  lost edge joins =
      let from = end_in_old one other edge.from in
      let to = end_in_old one other edge.to in
      ap
      (λ had. if not had && not (shows_edge other one (turned from) edge.kind (turned to)) then change.Edge sign.Lost from edge.kind to ∷ []
      else [])
      (had edge joins)

  pub unchanged : changed ≡ []
  unchanged =
      let edges = each_joins reach.table is.lawful reach.policy is.least in
      let s = of_names (standing_change one other) standings in
      let c = of_pairs (cell_change one other) cells in
      let u = of_pairs (use_changes one other) all_uses in
      let k = of_names (keeper_change one other) keepers in
      let a = of_names (actor_change one other) actors in
      let g = none_flat Joins (gained_edge one other) gained reach.policy edges in
      let l = none_flat Joins (lost_edge one other) lost reach.policy edges in
      are.are ∙ (λ i. s i ++ (c i ++ (u i ++ (k i ++ (a i ++ (g i ++ l i))))))
