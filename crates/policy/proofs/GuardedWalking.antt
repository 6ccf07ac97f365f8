-- Walks by labels of given sets, edge by edge: the labels from which a turn leads on, how the least walk begins, and its first edge.
use Rattle.std.{specs.declared.{alloc.Global.Global, cmp.Ordering.TheVariants.Less}, proofs.Common.{[], ℕ, ◌&&◌, ◌↔◌, ◌∙◌, ◌∷◌, ◌≡◌}}
use Rattle.std.proofs.{Common.{◌⊎◌, Bool, List, Option, Vec, ap, arith, inl, inr, length, refl, subst, sym, true}, lemmas.Bool.and_from}
use Rattle.{std.proofs.lemmas.Bool.and_parts, base.specs.{declared.{edge.Edge.Edge, kind.Kind.Kind, labels.Labels.Labels}, Labels.is_in}}
use Rattle.policy.specs.{declared.guarded.Turn.Turn, Domain.EdgeTest, Guarded.{FindsLesserGuarded, IsGuardedWalk, lets_through}}
use Rattle.policy.specs.{Places.{ComesBefore, IsLeast, IsNone}, Policy.edge_cmp, Reasons.{edge, reason_place}, Walks.FindsWalk}
use Rattle.policy.{specs.Walks.{GoesAgainst, GoesAlong, Leads, Passes, Passes.{against, along}, is_of, other_end}, proofs.Places.only_least}
use Rattle.policy.proofs.{StepWalks.{edge_against, edge_along, of_itself, only_of}, WalkOrder.{before_front, least_either}, Walking.end_is}

module _ (test : EdgeTest) where
  pub stays_there : (turns : List Turn) → length turns ≡ 0 → (from to : ℕ) → from ≡ to → IsLeast reason_place (IsGuardedWalk test turns from to) []
  stays_there [] none from to same = only_least reason_place (IsGuardedWalk test [] from to) [] same only where
    only : (other : List Edge) → IsGuardedWalk test [] from to other → other ≡ []
    only [] walk = refl
    only (edge ∷ edges) walk = absurd walk
  stays_there (turn ∷ turns) none from to same = absurd (omega (arith, none))

  pub goes_nowhere : (turns : List Turn) → length turns ≡ 0 → (from to : ℕ) → (from ≡ to → ⊥) → IsNone (IsGuardedWalk test turns from to)
  goes_nowhere [] none from to apart [] walk = apart walk
  goes_nowhere [] none from to apart (edge ∷ edges) walk = walk
  goes_nowhere (turn ∷ turns) none from to apart x walk = absurd (omega (arith, none))

  guarded_length : (turns : List Turn) (from to : ℕ) (edges : List Edge) → IsGuardedWalk test turns from to edges → length edges ≡ length turns
  guarded_length [] from to [] walk = refl
  guarded_length [] from to (edge ∷ edges) walk = absurd walk
  guarded_length (turn ∷ turns) from to [] walk = absurd walk
  guarded_length (turn ∷ turns) from to (edge ∷ edges) walk = let more = guarded_length turns walk.0 to edges walk.4 in omega (arith, more)

  module _ (turn : Turn) (rest : List Turn) (reach goals : Labels) (to : ℕ)
      (reach_are : (next : ℕ) → (is_in reach next ≡ true) ↔ ((edges : List Edge) × IsGuardedWalk test rest next to edges))
      (goals_are : (next : ℕ) → is_in goals next ≡ (is_in reach next && lets_through turn.among next)) where
    in_goals : (next : ℕ) (edges : List Edge) → lets_through turn.among next ≡ true → IsGuardedWalk test rest next to edges → is_in goals next ≡ true
    in_goals next edges lets walk = goals_are next ∙ and_from (is_in reach next) (lets_through turn.among next) ((reach_are next).1 (edges, walk)) lets

    of_goals : (next : ℕ) → is_in goals next ≡ true → (lets_through turn.among next ≡ true) × ((edges : List Edge) × IsGuardedWalk test rest next to edges)
    of_goals next among =
        let parts = and_parts (is_in reach next) (lets_through turn.among next) (sym (goals_are next) ∙ among) in
        (parts.1, (reach_are next).0 parts.0)

    led : (from : ℕ) (edge : Edge) (edges : List Edge) → IsGuardedWalk test (turn ∷ rest) from to (edge ∷ edges) → Leads test turn.step from goals edge
    led from edge edges walk = (walk.0, in_goals walk.0 edges walk.3 walk.4, walk.1, walk.2)

    pub more_turns : (turns : List Turn) → turns ≡ turn ∷ rest → (from : ℕ) (b : Bool) → ((b ≡ true) ↔ ((edge : Edge) × Leads test turn.step from goals edge))
        → (b ≡ true) ↔ ((edges : List Edge) × IsGuardedWalk test turns from to edges)
    more_turns turns is from b leads = subst (λ (ts : List Turn). (b ≡ true) ↔ ((edges : List Edge) × IsGuardedWalk test ts from to edges)) (sym is) (forth, back) where
      forth : b ≡ true → (edges : List Edge) × IsGuardedWalk test (turn ∷ rest) from to edges
      forth so =
          let first = leads.0 so in
          let tail = of_goals first.1.0 first.1.1 in
          (first.0 ∷ tail.1.0, (first.1.0, first.1.2, first.1.3, tail.0, tail.1.1))

      back : ((edges : List Edge) × IsGuardedWalk test (turn ∷ rest) from to edges) → b ≡ true
      back ([], walk) = absurd walk
      back (edge ∷ edges, walk) = leads.1 (edge, led from edge edges walk)

    pub no_turn : (turns : List Turn) → turns ≡ turn ∷ rest → (from : ℕ) → IsNone (Leads test turn.step from goals) → IsNone (IsGuardedWalk test turns from to)
    no_turn turns is from none = subst (λ (ts : List Turn). IsNone (IsGuardedWalk test ts from to)) (sym is) by where
      by : IsNone (IsGuardedWalk test (turn ∷ rest) from to)
      by [] walk = walk
      by (edge ∷ edges) walk = none edge (led from edge edges walk)

    pub least_turn : (turns : List Turn) → turns ≡ turn ∷ rest → (from : ℕ) (edge : Edge) (tail : List Edge) → Leads test turn.step from goals edge
        → ((other : Edge) → Leads test turn.step from goals other → edge_cmp other edge ≡ Less → ⊥)
        → IsLeast reason_place (IsGuardedWalk test rest (other_end edge from) to) tail → IsLeast reason_place (IsGuardedWalk test turns from to) (edge ∷ tail)
    least_turn turns is from edge tail leads first least =
        subst (λ (ts : List Turn). IsLeast reason_place (IsGuardedWalk test ts from to) (edge ∷ tail)) (sym is) by where
          end : other_end edge from ≡ leads.0
          end = end_is turn.step from edge leads.0 leads.3

          none_before : (other : List Edge) → IsGuardedWalk test (turn ∷ rest) from to other → ComesBefore (reason_place other) (reason_place (edge ∷ tail)) → ⊥
          none_before [] walk before = walk
          none_before (e ∷ es) walk before =
              let long = guarded_length rest walk.0 to es walk.4 in
              let as_long = guarded_length rest (other_end edge from) to tail least.has in
              elim (before_front e edge es tail (omega (arith, long, as_long)) before) [
                | inl less ↦ first e (led from e es walk) less
                | inr same ↦
                    let at : walk.0 ≡ other_end edge from = sym (end_is turn.step from e walk.0 walk.2) ∙ ap (λ x. other_end x from) same.0 in
                    least.first es (subst (λ next. IsGuardedWalk test rest next to es) at walk.4) same.1
              ]

          by : IsLeast reason_place (IsGuardedWalk test (turn ∷ rest) from to) (edge ∷ tail)
          by = record {
            has = (
              other_end edge from,
              leads.2,
              subst (Passes turn.step from edge) (sym end) leads.3,
              subst (λ next. lets_through turn.among next ≡ true) (sym end) (of_goals leads.0 leads.1).0,
              least.has,
            );
            first = none_before;
          }

  -- a walk is its first edge and the rest

  pub record TurnsAlong (from : ℕ) (kinds : List Kind) (among : Option Labels) (turns : List Turn) (to : ℕ) (x : List Edge) : Type 0 where
    pub next : ℕ
    pub kind : Kind
    pub of : is_of kinds kind ≡ true
    pub there : test from kind next ≡ true
    pub lets : lets_through among next ≡ true
    pub rest : List Edge
    pub is : x ≡ edge from kind next ∷ rest
    pub walk : IsGuardedWalk test turns next to rest

  pub record TurnsAgainst (from : ℕ) (kinds : List Kind) (among : Option Labels) (turns : List Turn) (to : ℕ) (x : List Edge) : Type 0 where
    pub next : ℕ
    pub kind : Kind
    pub of : is_of kinds kind ≡ true
    pub there : test next kind from ≡ true
    pub lets : lets_through among next ≡ true
    pub rest : List Edge
    pub is : x ≡ edge next kind from ∷ rest
    pub walk : IsGuardedWalk test turns next to rest

  pub turn_along : (turn : Turn) (kinds : List Kind) (turns : List Turn) (from to : ℕ) (x : List Edge) → GoesAlong kinds turn.step
      → IsGuardedWalk test (turn ∷ turns) from to x → TurnsAlong from kinds turn.among turns to x
  turn_along turn kinds turns from to [] goes walk = absurd walk
  turn_along turn kinds turns from to (e ∷ es) goes walk =
      let first = edge_along test turn.step kinds from e walk.0 goes walk.1 walk.2 in record {
        next = walk.0;
        kind = e.kind;
        of = first.0;
        there = first.1.there;
        lets = walk.3;
        rest = es;
        is = ap (λ d. d ∷ es) first.1.is;
        walk = walk.4;
      }

  pub turn_against : (turn : Turn) (kinds : List Kind) (turns : List Turn) (from to : ℕ) (x : List Edge) → GoesAgainst kinds turn.step
      → IsGuardedWalk test (turn ∷ turns) from to x → TurnsAgainst from kinds turn.among turns to x
  turn_against turn kinds turns from to [] goes walk = absurd walk
  turn_against turn kinds turns from to (e ∷ es) goes walk =
      let first = edge_against test turn.step kinds from e walk.0 goes walk.1 walk.2 in record {
        next = walk.0;
        kind = e.kind;
        of = first.0;
        there = first.1.there;
        lets = walk.3;
        rest = es;
        is = ap (λ d. d ∷ es) first.1.is;
        walk = walk.4;
      }

  pub ends_there : (from to : ℕ) (x : List Edge) → IsGuardedWalk test [] from to x → (x ≡ []) × (from ≡ to)
  ends_there from to [] walk = (refl, walk)
  ends_there from to (e ∷ es) walk = absurd walk

  -- a turn along edges of one kind

  pub one_turn_along : (turn : Turn) (kind : Kind) (turns : List Turn) (from to : ℕ) (x : List Edge) → GoesAlong (kind ∷ []) turn.step
      → IsGuardedWalk test (turn ∷ turns) from to x
      → (next : ℕ) × (rest : List Edge) × (test from kind next ≡ true) × (lets_through turn.among next ≡ true) × (x ≡ edge from kind next ∷ rest)
      × IsGuardedWalk test turns next to rest
  one_turn_along turn kind turns from to x goes walk =
      let front = turn_along turn (kind ∷ []) turns from to x goes walk in
      let same = only_of kind front.kind front.of in (
        front.next,
        front.rest,
        ap (λ k. test from k front.next) (sym same) ∙ front.there,
        front.lets,
        front.is ∙ ap (λ k. edge from k front.next ∷ front.rest) same,
        front.walk,
      )

  pub one_turn_against : (turn : Turn) (kind : Kind) (turns : List Turn) (from to : ℕ) (x : List Edge) → GoesAgainst (kind ∷ []) turn.step
      → IsGuardedWalk test (turn ∷ turns) from to x
      → (next : ℕ) × (rest : List Edge) × (test next kind from ≡ true) × (lets_through turn.among next ≡ true) × (x ≡ edge next kind from ∷ rest)
      × IsGuardedWalk test turns next to rest
  one_turn_against turn kind turns from to x goes walk =
      let front = turn_against turn (kind ∷ []) turns from to x goes walk in
      let same = only_of kind front.kind front.of in (
        front.next,
        front.rest,
        ap (λ k. test front.next k from) (sym same) ∙ front.there,
        front.lets,
        front.is ∙ ap (λ k. edge front.next k from ∷ front.rest) same,
        front.walk,
      )

  pub last_turn_along : (turn : Turn) (kind : Kind) (from to : ℕ) (x : List Edge) → GoesAlong (kind ∷ []) turn.step → IsGuardedWalk test (turn ∷ []) from to x
      → (test from kind to ≡ true) × (lets_through turn.among to ≡ true) × (x ≡ edge from kind to ∷ [])
  last_turn_along turn kind from to x goes walk =
      let front = one_turn_along turn kind [] from to x goes walk in
      let end = ends_there front.0 to front.1 front.5 in (
        ap (test from kind) (sym end.1) ∙ front.2,
        ap (lets_through turn.among) (sym end.1) ∙ front.3,
        front.4 ∙ (λ i. edge from kind (end.1 i) ∷ end.0 i),
      )

  pub last_turn_against : (turn : Turn) (kind : Kind) (from to : ℕ) (x : List Edge) → GoesAgainst (kind ∷ []) turn.step
      → IsGuardedWalk test (turn ∷ []) from to x
      → (test to kind from ≡ true) × (lets_through turn.among to ≡ true) × (x ≡ edge to kind from ∷ [])
  last_turn_against turn kind from to x goes walk =
      let front = one_turn_against turn kind [] from to x goes walk in
      let end = ends_there front.0 to front.1 front.5 in (
        ap (λ n. test n kind from) (sym end.1) ∙ front.2,
        ap (lets_through turn.among) (sym end.1) ∙ front.3,
        front.4 ∙ (λ i. edge (end.1 i) kind from ∷ end.0 i),
      )

  -- a walk with one more edge

  pub longer_along : (turn : Turn) (kinds : List Kind) (turns : List Turn) (from : ℕ) (kind : Kind) (next to : ℕ) (es : List Edge)
      → GoesAlong kinds turn.step → is_of kinds kind ≡ true → test from kind next ≡ true → lets_through turn.among next ≡ true
      → IsGuardedWalk test turns next to es → IsGuardedWalk test (turn ∷ turns) from to (edge from kind next ∷ es)
  longer_along turn kinds turns from kind next to es goes of there lets walk =
      (next, there, along (ap (λ ks. is_of ks kind) goes.0 ∙ of) refl refl, lets, walk)

  pub longer_against : (turn : Turn) (kinds : List Kind) (turns : List Turn) (from : ℕ) (kind : Kind) (next to : ℕ) (es : List Edge)
      → GoesAgainst kinds turn.step → is_of kinds kind ≡ true → test next kind from ≡ true → lets_through turn.among next ≡ true
      → IsGuardedWalk test turns next to es → IsGuardedWalk test (turn ∷ turns) from to (edge next kind from ∷ es)
  longer_against turn kinds turns from kind next to es goes of there lets walk =
      (next, there, against (ap (λ ks. is_of ks kind) goes.1 ∙ of) refl refl, lets, walk)

  pub more_turn_along : (turn : Turn) (kind : Kind) (turns : List Turn) (from next to : ℕ) (es : List Edge) → GoesAlong (kind ∷ []) turn.step
      → test from kind next ≡ true → lets_through turn.among next ≡ true → IsGuardedWalk test turns next to es
      → IsGuardedWalk test (turn ∷ turns) from to (edge from kind next ∷ es)
  more_turn_along turn kind turns from next to es goes there lets walk =
      longer_along turn (kind ∷ []) turns from kind next to es goes (of_itself kind) there lets walk

  pub more_turn_against : (turn : Turn) (kind : Kind) (turns : List Turn) (from next to : ℕ) (es : List Edge) → GoesAgainst (kind ∷ []) turn.step
      → test next kind from ≡ true → lets_through turn.among next ≡ true → IsGuardedWalk test turns next to es
      → IsGuardedWalk test (turn ∷ turns) from to (edge next kind from ∷ es)
  more_turn_against turn kind turns from next to es goes there lets walk =
      longer_against turn (kind ∷ []) turns from kind next to es goes (of_itself kind) there lets walk

  -- a walk of a chain of turns or one of others
  pub or_guarded : (a l : ℕ) (P : List Edge → Type 0) (chain : List Turn) (found lesser : Option (Vec Edge Global)) → FindsWalk P found
      → FindsLesserGuarded test chain a l found lesser → FindsWalk (λ x. P x ⊎ IsGuardedWalk test chain a l x) lesser
  or_guarded a l P chain found lesser finds (walk, least, is) =
      subst (FindsWalk (λ x. P x ⊎ IsGuardedWalk test chain a l x)) (sym is)
      (least_either found walk finds least (λ x h. inl h) (λ x h. inr h) (λ x h. h))
