-- Cut authority as sets of labels, each found by steps along edges.
use Rattle.std.{specs.List.list_any, proofs.Common.{[], ℕ, ◌==◌, ◌||◌, ◌↔◌, ◌∙◌, ◌∷◌, ◌≡◌, ◌⊎◌, Bool, ap, inl, inr, not, refl, sym, true}}
use Rattle.std.proofs.lemmas.Bool.{eq-eqb, eqb-true, not-true, or_cases, or_left, or_right}
use Rattle.base.specs.{declared.{kind.Kind.{Kind, TheVariants.{Control, Derive, Space}}, labels.Labels.Labels}, Kinds.is_structural}
use Rattle.base.specs.Labels.{is_in}
use Rattle.policy.specs.{declared.cut.TheConstants.{HOLDING, LINKS}, Cut.{IsBase, IsCut, IsHolding, IsNear, is_link, IsNear.against}}
use Rattle.policy.{specs.{Cut.IsNear.{along, stays}, Domain.EdgeTest, Steps.{IsNearSome, IsSource, IsTarget}}, proofs.KindNumbers.each_kind}
use Rattle.policy.proofs.{KindNumbers.{is_kind, same_kind}, Stepping.{chosen, found_kind, of_kind, only_kind, target_by}}

-- the labels that a label of a set is near to

linking : (kind : Kind) → is_link kind ≡ true → list_any (is_kind kind) LINKS ≡ true
linking kind is = of_kind (is_link kind) _ is (each_kind (λ k. not (is_link k) || list_any (is_kind k) LINKS) refl kind)

module _ (test : EdgeTest) (labels : Labels) (other : ℕ) (linked linking_it : Bool)
    (linked_is : (linked ≡ true) ↔ IsTarget test LINKS labels other) (linking_is : (linking_it ≡ true) ↔ IsSource test LINKS labels other) where
  near_from : ((is_in labels other || linked) || linking_it) ≡ true → IsNearSome test labels other
  near_from is = elim (or_cases (is_in labels other || linked) linking_it is) [
    | inr last ↦
        let step = linking_is.0 last in
        let kind = chosen is_link (λ k. test other k step.to) LINKS refl step.joined in
        record { label = step.to; among = step.among; near = against kind.0 kind.1 kind.2 }
    | inl before ↦ elim (or_cases (is_in labels other) linked before) [
      | inl first ↦ record { label = other; among = first; near = stays refl }
      | inr last ↦
          let step = linked_is.0 last in
          let kind = chosen is_link (λ k. test step.from k other) LINKS refl step.joined in
          record { label = step.from; among = step.among; near = along kind.0 kind.1 kind.2 }
    ]
  ]

  near_to : (label : ℕ) → is_in labels label ≡ true → IsNear test label other → ((is_in labels other || linked) || linking_it) ≡ true
  near_to label among (stays same) = or_left _ linking_it (or_left (is_in labels other) linked (ap (is_in labels) (sym same) ∙ among))
  near_to label among (along kind is edge) =
      or_left _ linking_it (or_right (is_in labels other) linked
      (linked_is.1 (record { from = label; among = among; joined = found_kind (λ k. test label k other) LINKS kind (linking kind is) edge })))
  near_to label among (against kind is edge) =
      or_right (is_in labels other || linked) linking_it
      (linking_is.1 (record { to = label; among = among; joined = found_kind (λ k. test other k label) LINKS kind (linking kind is) edge }))

  pub near_is : (((is_in labels other || linked) || linking_it) ≡ true) ↔ IsNearSome test labels other
  near_is = (near_from, λ near. near_to near.label near.among near.near)

-- the labels that a label controls, itself among them, and where it may remove capabilities
module _ (test : EdgeTest) (actor : ℕ) (controlled : Labels) (controlled_is : (label : ℕ) → is_in controlled label ≡ ((label == actor) || test actor Control label))
    (base : ℕ) (derived : Bool) (derived_is : (derived ≡ true) ↔ IsTarget test (Derive ∷ []) controlled base) where
  of_control : (label : ℕ) → is_in controlled label ≡ true → (actor ≡ label) ⊎ (test actor Control label ≡ true)
  of_control label among = elim (or_cases (label == actor) (test actor Control label) (sym (controlled_is label) ∙ among)) [
    | inl same ↦ inl (sym (eqb-true label actor same))
    | inr controls ↦ inr controls
  ]

  to_control : (label : ℕ) → (actor ≡ label) ⊎ (test actor Control label ≡ true) → is_in controlled label ≡ true
  to_control label (inl same) = controlled_is label ∙ or_left (label == actor) (test actor Control label) (eq-eqb label actor (sym same))
  to_control label (inr controls) = controlled_is label ∙ or_right (label == actor) (test actor Control label) controls

  base_from : (is_in controlled base || derived) ≡ true → IsBase test actor base
  base_from is = elim (or_cases (is_in controlled base) derived is) [
    | inl first ↦ record { controlled = base; control = of_control base first; derive = inl refl }
    | inr last ↦
        let step = derived_is.0 last in
        record { controlled = step.from; control = of_control step.from step.among; derive = inr (only_kind test Derive step.from base step.joined) }
  ]

  base_to : (label : ℕ) → is_in controlled label ≡ true → (label ≡ base) ⊎ (test label Derive base ≡ true) → (is_in controlled base || derived) ≡ true
  base_to label among (inl same) = or_left (is_in controlled base) derived (ap (is_in controlled) (sym same) ∙ among)
  base_to label among (inr derives) =
      or_right (is_in controlled base) derived
      (derived_is.1 (target_by test Derive controlled label base among derives))

  pub base_is : ((is_in controlled base || derived) ≡ true) ↔ IsBase test actor base
  base_is = (base_from, λ is. base_to is.controlled (to_control is.controlled is.control) is.derive)

-- the kinds by which a capability leads to its object

abbrev is_holding : Kind → Bool
is_holding kind = not (is_structural kind) || is_kind Space kind

holding_from : (kind : Kind) → is_holding kind ≡ true → IsHolding kind
holding_from kind is = elim (or_cases (not (is_structural kind)) (is_kind Space kind) is) [
  | inl of_use ↦ inl (not-true (is_structural kind) of_use)
  | inr space ↦ inr (sym (same_kind Space kind (eqb-true _ _ space)))
]

holding_to : (kind : Kind) → IsHolding kind → list_any (is_kind kind) HOLDING ≡ true
holding_to kind (inl of_use) =
    of_kind (not (is_structural kind)) _ (ap not of_use) (each_kind (λ k. not (not (is_structural k)) || list_any (is_kind k) HOLDING) refl kind)
holding_to kind (inr space) = ap (λ k. list_any (is_kind k) HOLDING) space

-- the labels to which capabilities lead from there, and what is linked with those, in two steps

module _ (test : EdgeTest) (actor : ℕ) (bases led reached near : Labels) (bases_are : (base : ℕ) → (is_in bases base ≡ true) ↔ IsBase test actor base)
    (led_are : (to : ℕ) → (is_in led to ≡ true) ↔ IsTarget test HOLDING bases to)
    (reached_are : (label : ℕ) → is_in reached label ≡ (is_in bases label || is_in led label))
    (near_are : (other : ℕ) → (is_in near other ≡ true) ↔ IsNearSome test reached other) where
  cut_from : (object : ℕ) → IsNearSome test near object → IsCut test actor object
  cut_from object last =
      let before = (near_are last.label).0 last.among in
      elim (or_cases (is_in bases before.label) (is_in led before.label) (sym (reached_are before.label) ∙ before.among)) [
        | inl here ↦ record {
          base = before.label;
          based = (bases_are before.label).0 here;
          reached = before.label;
          edge = inl refl;
          near = last.label;
          one = before.near;
          two = last.near;
        }
        | inr further ↦
            let step = (led_are before.label).0 further in
            let kind = chosen is_holding (λ k. test step.from k before.label) HOLDING refl step.joined in
            record {
              base = step.from;
              based = (bases_are step.from).0 step.among;
              reached = before.label;
              edge = inr (kind.0, holding_from kind.0 kind.1, kind.2);
              near = last.label;
              one = before.near;
              two = last.near;
            }
      ]

  reached_to : (base label : ℕ) → is_in bases base ≡ true
      → (base ≡ label) ⊎ ((kind : Kind) × (IsHolding kind) × (test base kind label ≡ true)) → is_in reached label ≡ true
  reached_to base label among (inl same) = reached_are label ∙ or_left (is_in bases label) (is_in led label) (ap (is_in bases) (sym same) ∙ among)
  reached_to base label among (inr (kind, holding, edge)) =
      reached_are label ∙ or_right (is_in bases label) (is_in led label)
      ((led_are label).1 (record { from = base; among = among; joined = found_kind (λ k. test base k label) HOLDING kind (holding_to kind holding) edge }))

  cut_to : (object : ℕ) → IsCut test actor object → IsNearSome test near object
  cut_to object path = record {
    label = path.near;
    among = (near_are path.near).1 (record { label = path.reached; among = reached_to path.base path.reached ((bases_are path.base).1 path.based) path.edge; near = path.one });
    near = path.two;
  }

  pub cut_is : (object : ℕ) → IsNearSome test near object ↔ IsCut test actor object
  cut_is object = (cut_from object, cut_to object)
