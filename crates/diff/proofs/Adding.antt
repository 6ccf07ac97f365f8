-- Changes that add nothing: what such a change is about in the new system was so in the old one.
use Rattle.std.{specs.{List.{AllByRecursion, flat_map}, Prelude.not}, proofs.Common.{[], ◌&&◌, ◌||◌, ◌∙◌, ◌∷◌, ◌≡◌, Bool, ap, false}}
use Rattle.std.proofs.{Common.{inl, inr, refl, subst, sym, true}, lemmas.Bool.{and_parts, and_right, cases_Bool, false_from_ne_true}}
use Rattle.{std.proofs.lemmas.Bool.{false≢true, or_from, true≢false}, base.specs.declared.edge.Edge.Edge, summary.specs.Regions.is_same}
use Rattle.diff.specs.declared.change.{Change.{Change, Change as change}, Marks.Marks, Role.Role as role, Sign.{Sign, Sign as sign}}
use Rattle.diff.specs.declared.{change.{Standing.{Standing, Standing as stands}, Verb.Verb}, names.Named.Named}
use Rattle.diff.specs.Changes.{actor_change, actor_change_if, adds, adds_extent, adds_letters, adds_marks, adds_standing, cell_change}
use Rattle.diff.specs.Changes.{end_in_new, gained_edge, gains, is_told, keeper_change, same_extent, same_letters, same_marks}
use Rattle.diff.specs.Changes.{same_standing, shows_actor, shows_cell, shows_standing, shows_use, signs, standing_change, use_change}
use Rattle.diff.{specs.Side.{SideOf, cell, has_role, standing, uses}, proofs.Parts.{front, unless, when}}

-- one of two that agree adds nothing to the other

new_standing : (one other : Standing) → (same_standing one other ≡ false → adds_standing one other ≡ false)
    → adds_standing one other ≡ false
new_standing stands.Absent stands.Absent none = refl
new_standing stands.Label stands.Label none = refl
new_standing stands.Program stands.Program none = refl
new_standing _ _ none = none refl

same_gains : (a b : Bool) → is_same a b ≡ true → gains a b ≡ false
same_gains true b is = and_right b false refl
same_gains false true is = absurd (false≢true is)
same_gains false false is = refl

letters_add : (one other : Marks) → same_letters one other ≡ true → adds_letters one other ≡ false
letters_add one other is =
    let halves = and_parts _ _ is in
    let first = and_parts _ _ halves.0 in
    let second = and_parts _ _ halves.1 in
    let calls = same_gains one.calls other.calls first.0 in
    let answers = same_gains one.answers other.answers first.1 in
    let signals = same_gains one.signals other.signals second.0 in
    let others = same_gains one.others other.others second.1 in
    λ i. (calls i || answers i) || (signals i || others i)

extent_adds : (one other : Marks) → same_extent one other ≡ true → adds_extent one other ≡ false
extent_adds one other is =
    let parts = and_parts _ _ is in
    let rest = and_parts _ _ parts.1 in
    let changes = same_gains one.changes other.changes parts.0 in
    let takes = same_gains one.takes other.takes rest.0 in
    let shares = same_gains one.shares other.shares rest.1 in
    λ i. changes i || ((takes i && not one.changes) || shares i)

same_cell : (one other : Marks) → same_marks one other ≡ true → adds_marks one other ≡ false
same_cell one other is =
    let parts = and_parts _ _ is in
    or_from (adds_letters one other) (adds_extent one other) (letters_add one other parts.0) (extent_adds one other parts.1)

new_cell : (one other : Marks) → (same_marks one other ≡ false → adds_marks one other ≡ false) → adds_marks one other ≡ false
new_cell one other none = elim (cases_Bool (same_marks one other)) [
  | inl same ↦ same_cell one other same
  | inr apart ↦ none apart
]

-- a change of cells is about those of the two systems
abbrev pub IsOf : SideOf → SideOf → Change → Type 0
IsOf old new (change.Cell from to one other) = (one ≡ cell old from.old to.old) × (other ≡ cell new from.new to.new)
IsOf old new _ = Unit {0}

module _ (old new : SideOf) (P : Change → Type 0) (none : (told : Change) → IsOf old new told → P told → adds told ≡ false) where
  -- what a label is
  pub no_standing : (named : Named) → AllByRecursion P (standing_change old new named) → shows_standing old new named ≡ false
  no_standing named all =
      let one = standing old named.old in
      let other = standing new named.new in
      new_standing one other
      (λ apart. none (change.Standing named one other) tt (unless P (same_standing one other) (change.Standing named one other) all apart))

  -- a cell
  pub no_cell : (from to : Named) → AllByRecursion P (cell_change old new from to) → shows_cell old new from to ≡ false
  no_cell from to all =
      let one = cell old from.old to.old in
      let other = cell new from.new to.new in
      new_cell one other
      (λ apart. none (change.Cell from to one other) (refl, refl) (unless P (same_marks one other) (change.Cell from to one other) all apart))

  -- what is true of the new system alone
  kept : (f : Sign → Change) → IsOf old new (f sign.Gained) → adds (f sign.Gained) ≡ true → (had has : Bool)
      → AllByRecursion P (flat_map (λ told. f told ∷ []) (signs had has)) → has ≡ true → had ≡ true
  kept f of adding true has all there = refl
  kept f of adding false true all there = absurd (true≢false (sym adding ∙ none (f sign.Gained) of all.0))
  kept f of adding false false all there = absurd (false≢true there)

  -- a use
  pub no_use : (how : Verb) (from to : Named) → AllByRecursion P (use_change old new from to how) → shows_use old new how from to ≡ false
  no_use how from to all = by (uses old how from.old to.old) (uses new how from.new to.new)
      (kept (λ told. change.Use told from how to) tt refl (uses old how from.old to.old) (uses new how from.new to.new) all)
    where
      by : (had has : Bool) → (has ≡ true → had ≡ true) → (has && not had) ≡ false
      by had true is = ap not (is refl)
      by had false is = refl

  -- roles

  pub keeper_kept : (named : Named) → AllByRecursion P (keeper_change old new named)
      → has_role new role.Keeper named.new ≡ true → has_role old role.Keeper named.old ≡ true
  keeper_kept named all =
      kept (λ told. change.Role told role.Keeper named) tt refl (has_role old role.Keeper named.old) (has_role new role.Keeper named.new) all

  pub actor_kept : (named : Named) → shows_standing old new named ≡ false → AllByRecursion P (actor_change old new named)
      → has_role new role.Actor named.new ≡ true → has_role old role.Actor named.old ≡ true
  actor_kept named hidden = by (has_role old role.Actor named.old) (has_role new role.Actor named.new) where
    by : (had has : Bool)
        → AllByRecursion P
        (flat_map (λ told. actor_change_if old new (shows_actor told (standing old named.old) (standing new named.new)) told named)
        (signs had has))
        → has ≡ true → had ≡ true
    by true has all there = refl
    by false true all there =
        let one = front P (actor_change_if old new (shows_standing old new named) sign.Gained named) [] all in
        let told = subst (λ b. AllByRecursion P (actor_change_if old new b sign.Gained named)) hidden one in
        absurd (true≢false (none (change.Role sign.Gained role.Actor named) tt told.0))
    by false false all there = absurd (false≢true there)

  -- an edge
  pub no_edge : (edge : Edge) → AllByRecursion P (gained_edge old new edge)
      → is_told old new (end_in_new old new edge.from) edge.kind (end_in_new old new edge.to) ≡ false
  no_edge edge all =
      let told = change.Edge sign.Gained (end_in_new old new edge.from) edge.kind (end_in_new old new edge.to) in
      let here = is_told old new (end_in_new old new edge.from) edge.kind (end_in_new old new edge.to) in
      false_from_ne_true here (λ is. true≢false (none told tt (when P here told all is)))
