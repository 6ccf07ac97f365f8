-- Arrows of the graph as flows, and its ways as chains of flows.
use Rattle.std.proofs.Common.{ℕ, ◌&&◌, ◌<◌, ◌==◌, ◌||◌, ◌↔◌, ◌∙◌, ◌≡◌, Bool, List, ap, arith, false, inl, inr, not, refl, subst, sym, true}
use Rattle.std.proofs.lemmas.Bool.{and_from, and_parts, cases_lt, eq-eqb, eqb-true}
use Rattle.std.proofs.lemmas.{Bool.{false≢true, or_cases, or_left, or_right}, List.get_or_past}
use Rattle.base.{specs.{declared.labels.Labels.Labels, Labels.{is_in, no_labels}}, proofs.LabelParts.in_no_labels}
use Rattle.{policy.specs.Change.WayToChange.own, reach.specs.Extents.{Limits, MayChangeIn, MayShrinkIn}}
use Rattle.flows.specs.Flowing.{FilterTest, FlowLeads, FlowLeads.{goes_on as leads_on, starts as leads_from}, FlowsBeside, GoesOn}
use Rattle.flows.specs.{Flowing.MayAffect, Ways.{IsArrow, IsGraph, Way, Way.{goes_on, starts}, programs_beside}}
use Rattle.base.specs.declared.label.TheConstants.Label as Label

-- what one conjunct forbids
none_left : (b : Bool) → (false && b) ≡ false
none_left b = refl

none_right : (b : Bool) → (b && false) ≡ false
none_right true = refl
none_right false = refl

not_same : (x : ℕ) → not (x == x) ≡ false
not_same x = ap not (eq-eqb x x refl)

-- an object of one of the two labels is of no third program
of_first : (limits : Limits) (x y : ℕ) → programs_beside limits x y x ≡ false
of_first limits x y = ap (λ b. (limits.acts x && b) && not (x == y)) (not_same x) ∙ ap (λ b. b && not (x == y)) (none_right (limits.acts x))

of_second : (limits : Limits) (x y : ℕ) → programs_beside limits x y y ≡ false
of_second limits x y = ap (λ b. (limits.acts y && not (y == x)) && b) (not_same y) ∙ none_right (limits.acts y && not (y == x))

-- the arrows from a label, as three sets of labels
module _ (limits : Limits) (from : ℕ) (others : Labels) (others_are : (l : ℕ) → is_in others l ≡ (limits.acts l && not (l == from))) (y : ℕ) where
  pub arrows_told : (beside changed shrunk both all : Bool) → (beside ≡ true) ↔ FlowsBeside limits (is_in others) from y
      → (changed ≡ true) ↔ MayChangeIn limits from y → (shrunk ≡ true) ↔ MayShrinkIn limits from y → both ≡ (beside || changed) → all ≡ (both || shrunk)
      → (all ≡ true) ↔ FlowsBeside limits (programs_beside limits from y) from y
  arrows_told beside changed shrunk both all flows changes shrinks both_is all_is = (forth, back) where
    own_object : MayAffect limits from y → FlowsBeside limits (programs_beside limits from y) from y
    own_object affects = record {
      object = y;
      flows = record { affects = affects; depends = inl refl };
      beside = of_second limits from y;
    }

    forth : all ≡ true → FlowsBeside limits (programs_beside limits from y) from y
    forth is = elim (or_cases both shrunk (sym all_is ∙ is)) [
      | inr shrinking ↦ own_object (inr (shrinks.0 shrinking))
      | inl one ↦ elim (or_cases beside changed (sym both_is ∙ one)) [
        | inr changing ↦ own_object (inl (changes.0 changing))
        | inl passing ↦
            let flow = flows.0 passing in
            record {
              object = flow.object;
              flows = flow.flows;
              beside = ap (λ b. b && not (flow.object == y)) (sym (others_are flow.object) ∙ flow.beside);
            }
      ]
    ]

    back : FlowsBeside limits (programs_beside limits from y) from y → all ≡ true
    back flow = by (is_in others flow.object) refl where
      to_all : both ≡ true → all ≡ true
      to_all is = all_is ∙ or_left both shrunk is

      affecting : MayAffect limits from y → all ≡ true
      affecting (inl change) = to_all (both_is ∙ or_right beside changed (changes.1 change))
      affecting (inr shrink) = all_is ∙ or_right both shrunk (shrinks.1 shrink)

      by : (b : Bool) → is_in others flow.object ≡ b → all ≡ true
      by false free = to_all (both_is ∙ or_left beside changed (flows.1 (record { object = flow.object; flows = flow.flows; beside = free })))
      by true among = affecting (same (flow.object == y) refl) where
        same : (b : Bool) → (flow.object == y) ≡ b → MayAffect limits from y
        same true is = subst_object (eqb-true flow.object y is) where
          subst_object : flow.object ≡ y → MayAffect limits from y
          subst_object at = subst (λ l. MayAffect limits from l) at flow.flows.affects
        same false is =
            absurd (false≢true (sym flow.beside
            ∙ and_from (limits.acts flow.object && not (flow.object == from)) (not (flow.object == y)) (sym (others_are flow.object) ∙ among) (ap not is)))

acting : (limits : Limits) (x l : ℕ) → MayAffect limits x l → limits.acts x ≡ true
acting limits x l (inl change) = change.actor
acting limits x l (inr shrink) = shrink.actor

module _ (limits : Limits) (rows : List Labels) (graph : IsGraph limits rows) where
  pub starts_below : (x y : ℕ) → IsArrow rows x y → x < Label.COUNT
  starts_below x y arrow = elim (cases_lt x Label.COUNT) [
    | inl below ↦ below
    | inr over ↦
        absurd (false≢true (sym (ap (λ row. is_in row y) (get_or_past rows x no_labels (omega (arith, over, graph.arrows.count))) ∙ in_no_labels y) ∙ arrow))
  ]

  flow_of : (x y : ℕ) → IsArrow rows x y → FlowsBeside limits (programs_beside limits x y) x y
  flow_of x y arrow = (graph.arrows.each x (starts_below x y arrow) y).0 arrow

  arrow_of : (x y : ℕ) → FlowsBeside limits (programs_beside limits x y) x y → IsArrow rows x y
  arrow_of x y flow = (graph.arrows.each x (graph.few x (acting limits x flow.object flow.flows.affects)) y).1 flow

  -- where a set of programs, without the first label, is left out
  module _ (set : FilterTest) (programs : (l : ℕ) → set l ≡ true → limits.acts l ≡ true) (from : ℕ) (not_from : set from ≡ false) where
    free : (x : ℕ) → GoesOn set from x → set x ≡ false
    free x (inl same) = ap set same ∙ not_from
    free x (inr is) = is

    -- an object of no third program is of none in the set
    object_free : (x y l : ℕ) → set x ≡ false → set y ≡ false → programs_beside limits x y l ≡ false → set l ≡ false
    object_free x y l x_free y_free beside = by (set l) refl where
      differs : (z : ℕ) → set z ≡ false → set l ≡ true → not (l == z) ≡ true
      differs z z_free is = at (l == z) refl where
        at : (b : Bool) → (l == z) ≡ b → not b ≡ true
        at true same = absurd (false≢true (sym z_free ∙ ap set (sym (eqb-true l z same)) ∙ is))
        at false other = refl

      by : (b : Bool) → set l ≡ b → set l ≡ false
      by false is = is
      by true is =
          absurd (false≢true (sym beside
          ∙ and_from (limits.acts l && not (l == x)) (not (l == y)) (and_from (limits.acts l) (not (l == x)) (programs l is) (differs x x_free is))
          (differs y y_free is)))

    pub chain_of : {y : ℕ} → Way rows set from y → set y ≡ false → FlowLeads limits set from y
    chain_of starts y_free = leads_from
    chain_of (goes_on {x} {y} before goes arrow) y_free =
        let x_free = free x goes in
        let flow = flow_of x y arrow in
        leads_on (chain_of before x_free) goes
        (record { object = flow.object; flows = flow.flows; beside = object_free x y flow.object x_free y_free flow.beside })

    pub way_of : {y : ℕ} → FlowLeads limits set from y → set y ≡ false → Way rows set from y
    way_of leads_from y_free = starts
    way_of (leads_on {x} {y} before goes flow) y_free =
        by (way_of before (free x goes)) (programs_beside limits x y flow.object) refl where
          by : Way rows set from x → (b : Bool) → programs_beside limits x y flow.object ≡ b → Way rows set from y
          by so_far false beside = goes_on so_far goes (arrow_of x y (record { object = flow.object; flows = flow.flows; beside = beside }))
          by so_far true third =
              let l = flow.object in
              let acts = (and_parts (limits.acts l) (not (l == x)) (and_parts (limits.acts l && not (l == x)) (not (l == y)) third).0).0 in
              let to_object : IsArrow rows x l =
              arrow_of x l (record { object = l; flows = record { affects = flow.flows.affects; depends = inl refl }; beside = of_second limits x l }) in
              let from_object : IsArrow rows l y =
              arrow_of l y (record {
                object = l;
                flows = record { affects = inl (record { actor = acts; way = own refl }); depends = flow.flows.depends };
                beside = of_first limits l y;
              }) in
              goes_on (goes_on so_far goes to_object) (inr flow.beside) from_object
