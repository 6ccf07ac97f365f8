-- A new system to which no change adds anything: it lies within the old one, and each of its labels has its twin there.
use Rattle.std.{specs.{List.{AllByRecursion, flat_map}, Prelude.not}, proofs.Common.{ℕ, ◌&&◌, ◌++◌, ◌+◌, ◌||◌, ◌∙◌, ◌≡◌, Bool, List}}
use Rattle.std.proofs.{Common.{None, Option, Some, ap, false, if◌then◌else◌, length, refl, sym, true}, lemmas.Bool.{and_left, false≢true}}
use Rattle.{std.proofs.lemmas.Bool.{lt-ltb, ltb-true, or_from, true≢false}, base.specs.declared.kind.Kind.Kind, policy.specs.Policy.allows}
use Rattle.diff.specs.declared.{change.{Change.Change, Role.{Role, Role as role}, Verb.{Verb, Verb as verb}}, names.Named.Named}
use Rattle.diff.specs.Changes.{actor_change, adds, adds_marks, adds_standing, cell_change, changes, end_in_new, gained_edge}
use Rattle.diff.specs.Changes.{is_reading, keeper_change, lost_edge, same_named, shows_cell, shows_edge, shows_standing}
use Rattle.diff.specs.{Changes.{shows_use, standing_change, use_change, use_changes}, Names.{names_of, twin_of}}
use Rattle.diff.specs.{Side.{SideOf, cell, has_edge, has_role, is_here, standing, uses}, Twins.{AreAllNamed, number_or, twin_by_name}}
use Rattle.diff.proofs.{Adding.{IsOf, actor_kept, keeper_kept, no_cell, no_edge, no_standing, no_use}, Outside.{adds_absent, is_absent}}
use Rattle.diff.proofs.{Outside.{is_new, no_cell_from, no_cell_to, no_use_from, no_use_to}, Parts.{at_edge, at_new, back, each, front}}

-- the parts of all changes
record AreParts {X : Type 0} (P : X → Type 0) (a b c d e f : List X) : Type 0 where
  pub standings : AllByRecursion P a
  pub cells : AllByRecursion P b
  pub uses : AllByRecursion P c
  pub keepers : AllByRecursion P d
  pub actors : AllByRecursion P e
  pub edges : AllByRecursion P f

parts : {X : Type 0} (P : X → Type 0) (a b c d e f g : List X) → AllByRecursion P (a ++ (b ++ (c ++ (d ++ (e ++ (f ++ g))))))
    → AreParts P a b c d e f
parts P a b c d e f g all =
    let after_a = back P a (b ++ (c ++ (d ++ (e ++ (f ++ g))))) all in
    let after_b = back P b (c ++ (d ++ (e ++ (f ++ g)))) after_a in
    let after_c = back P c (d ++ (e ++ (f ++ g))) after_b in
    let after_d = back P d (e ++ (f ++ g)) after_c in
    let after_e = back P e (f ++ g) after_d in
    record {
      standings = front P a (b ++ (c ++ (d ++ (e ++ (f ++ g))))) all;
      cells = front P b (c ++ (d ++ (e ++ (f ++ g)))) after_a;
      uses = front P c (d ++ (e ++ (f ++ g))) after_b;
      keepers = front P d (e ++ (f ++ g)) after_c;
      actors = front P e (f ++ g) after_d;
      edges = front P f g after_e;
    }

-- tests

either : (b x y : Bool) → x ≡ false → y ≡ false → (if b then x else y) ≡ false
either true x y first second = first
either false x y first second = second

has_it : (has shows : Bool) → (not has && not shows) ≡ false → shows ≡ false → has ≡ true
has_it true shows told hidden = refl
has_it false true told hidden = absurd (true≢false hidden)
has_it false false told hidden = absurd (true≢false told)

module _ (old new : SideOf) (P : Change → Type 0) (none : (told : Change) → IsOf old new told → P told → adds told ≡ false)
    (all : AllByRecursion P (changes old new)) where
  abbrev names : List Named
  names = names_of old.reach.table new.reach.table

  -- a label of the new system, and its twin
  abbrev end : ℕ → Named
  end a = end_in_new old new a

  abbrev twin : ℕ → ℕ
  twin = twin_by_name new.reach.table old.reach.table

  is : AreParts P (flat_map (standing_change old new) names) (flat_map (λ from. flat_map (cell_change old new from) names) names)
      (flat_map (λ from. flat_map (use_changes old new from) names) names) (flat_map (keeper_change old new) names)
      (flat_map (actor_change old new) names) (flat_map (gained_edge old new) new.reach.policy)
  is =
      parts P (flat_map (standing_change old new) names) (flat_map (λ from. flat_map (cell_change old new from) names) names)
      (flat_map (λ from. flat_map (use_changes old new from) names) names) (flat_map (keeper_change old new) names)
      (flat_map (actor_change old new) names) (flat_map (gained_edge old new) new.reach.policy) (flat_map (lost_edge old new) old.reach.policy)
      all

  -- of labels of the new system

  at : (f : Named → List Change) → AllByRecursion P (flat_map f names) → (a : ℕ) → is_here new a ≡ true → AllByRecursion P (f (end a))
  at f every a here =
      at_new old.reach.table new.reach.table (λ named. AllByRecursion P (f named)) (each P f names every) a
      (ltb-true a (length new.reach.table.labels) here)

  at_both : (f : Named → Named → List Change) → AllByRecursion P (flat_map (λ from. flat_map (f from) names) names)
      → (a b : ℕ) → is_here new a ≡ true → is_here new b ≡ true → AllByRecursion P (f (end a) (end b))
  at_both f every a b here also = at (f (end a)) (at (λ from. flat_map (f from) names) every a here) b also

  use_parts : (from to : Named) → AllByRecursion P (use_changes old new from to) → (how : Verb)
      → AllByRecursion P (use_change old new from to how)
  use_parts from to both verb.Changes =
      front P (use_change old new from to verb.Changes) (use_change old new from to verb.Takes ++ use_change old new from to verb.Reads) both
  use_parts from to both verb.Takes =
      front P (use_change old new from to verb.Takes) (use_change old new from to verb.Reads)
      (back P (use_change old new from to verb.Changes) (use_change old new from to verb.Takes ++ use_change old new from to verb.Reads) both)
  use_parts from to both verb.Reads =
      back P (use_change old new from to verb.Takes) (use_change old new from to verb.Reads)
      (back P (use_change old new from to verb.Changes) (use_change old new from to verb.Takes ++ use_change old new from to verb.Reads) both)

  -- no other change shows an edge

  standing_hidden : (a : ℕ) → shows_standing old new (end a) ≡ false
  standing_hidden a = by (is_here new a) refl where
    by : (here : Bool) → is_here new a ≡ here → shows_standing old new (end a) ≡ false
    by true here = no_standing old new P none (end a) (at (standing_change old new) is.standings a here)
    by false here =
        let one = standing old (end a).old in ap (adds_standing one) (is_absent new a here) ∙ adds_absent one

  cell_hidden : (a b : ℕ) → shows_cell old new (end a) (end b) ≡ false
  cell_hidden a b = by (is_here new a) (is_here new b) refl refl where
    by : (here also : Bool) → is_here new a ≡ here → is_here new b ≡ also → shows_cell old new (end a) (end b) ≡ false
    by true true here also = no_cell old new P none (end a) (end b) (at_both (cell_change old new) is.cells a b here also)
    by true false here also = ap (adds_marks (cell old (end a).old (end b).old)) (no_cell_to new a b also)
    by false other here also = ap (adds_marks (cell old (end a).old (end b).old)) (no_cell_from new a b here)

  use_hidden : (how : Verb) (a b : ℕ) → shows_use old new how (end a) (end b) ≡ false
  use_hidden how a b = by (is_here new a) (is_here new b) refl refl where
    by : (here also : Bool) → is_here new a ≡ here → is_here new b ≡ also → shows_use old new how (end a) (end b) ≡ false
    by true true here also =
        no_use old new P none how (end a) (end b)
        (use_parts (end a) (end b) (at_both (use_changes old new) is.uses a b here also) how)
    by true false here also = and_left (uses new how (Some a) (Some b)) _ (no_use_to new a b how also)
    by false other here also = and_left (uses new how (Some a) (Some b)) _ (no_use_from new a b how here)

  edge_hidden : (from : ℕ) (kind : Kind) (to : ℕ) → shows_edge old new (end from) kind (end to) ≡ false
  edge_hidden from kind to =
      let standings =
      or_from (shows_standing old new (end from)) (shows_standing old new (end to)) (standing_hidden from) (standing_hidden to) in
      let changed = use_hidden verb.Changes from to in
      let taken = use_hidden verb.Takes from to in
      let used = or_from (shows_use old new verb.Changes (end from) (end to)) (shows_use old new verb.Takes (end from) (end to)) changed taken in
      let shown =
      or_from (shows_cell old new (end from) (end to))
      (shows_use old new verb.Changes (end from) (end to) || shows_use old new verb.Takes (end from) (end to)) (cell_hidden from to) used in
      either (is_reading kind && not (same_named (end from) (end to))) _ _ (use_hidden verb.Reads from to) (or_from _ _ standings shown)

  -- an edge of the old system between these labels is in its policy

  twin_edge : (kind : Kind) (x y : ℕ) (from to : Option ℕ) → has_edge old from kind to ≡ true
      → allows old.reach.policy (number_or x from) kind (number_or y to) ≡ true
  twin_edge kind x y (Some from) (Some to) has = has
  twin_edge kind x y (Some from) None has = absurd (false≢true has)
  twin_edge kind x y None to has = absurd (false≢true has)

  pub edges : (from : ℕ) (kind : Kind) (to : ℕ) → allows new.reach.policy from kind to ≡ true
      → allows old.reach.policy (twin from) kind (twin to) ≡ true
  edges from kind to there =
      let one = at_edge (λ edge. AllByRecursion P (gained_edge old new edge)) new.reach.policy
      (each P (gained_edge old new) new.reach.policy is.edges) from kind to there in
      let was = has_edge old (end from).old kind (end to).old in
      let count = length old.reach.table.labels in
      twin_edge kind (count + from) (count + to) (end from).old (end to).old
      (has_it was (shows_edge old new (end from) kind (end to)) (no_edge old new P none (record { from = from; kind = kind; to = to }) one)
      (edge_hidden from kind to))

  -- each label has its twin
  pub named : AreAllNamed new.reach.table old.reach.table
  named a within = by (twin_of new.reach.table old.reach.table a) refl where
    by : (b : Option ℕ) → twin_of new.reach.table old.reach.table a ≡ b
        → (c : ℕ) × (twin_of new.reach.table old.reach.table a ≡ Some c)
    by (Some b) is = (b, is)
    by None is =
        let new_now = is_new new a (lt-ltb a (length new.reach.table.labels) within) in
        let hidden = standing_hidden a in
        let was = ap (λ label. adds_standing (standing old label) (standing new (Some a))) is in
        absurd (true≢false (sym new_now ∙ sym was ∙ hidden))

  -- labels that act, and those that keep

  twin_role : (told : Role) (x : ℕ) (label : Option ℕ) → has_role old told label ≡ true
      → has_role old told (Some (number_or x label)) ≡ true
  twin_role told x (Some label) has = has
  twin_role told x None has = absurd (false≢true has)

  pub actors : (a : ℕ) → is_here new a ≡ true → has_role new role.Actor (Some a) ≡ true → has_role old role.Actor (Some (twin a)) ≡ true
  actors a here acts =
      twin_role role.Actor (length old.reach.table.labels + a) (end a).old
      (actor_kept old new P none (end a) (standing_hidden a) (at (actor_change old new) is.actors a here) acts)

  pub keepers : (a : ℕ) → is_here new a ≡ true → has_role new role.Keeper (Some a) ≡ true → has_role old role.Keeper (Some (twin a)) ≡ true
  keepers a here keeps =
      twin_role role.Keeper (length old.reach.table.labels + a) (end a).old
      (keeper_kept old new P none (end a) (at (keeper_change old new) is.keepers a here) keeps)
