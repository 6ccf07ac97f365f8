-- Sets of labels by what holds of their labels: rows, steps along edges of one kind, unions and intersections.
use Rattle.std.{specs.List.{list_all, list_any}, proofs.Common.{[], ℕ, ◌&&◌, ◌==◌, ◌||◌, ◌↔◌, ◌∙◌, ◌∷◌, ◌≡◌, ◌⊎◌, Bool, List, inl, inr, sym, true}}
use Rattle.std.proofs.lemmas.Bool.{and_from, and_parts, eq-eqb, eqb-true, or_cases, or_left, or_right}
use Rattle.base.specs.{declared.{kind.Kind.Kind, labels.Labels.Labels}, Labels.is_in}
use Rattle.policy.proofs.KindNumbers.{is_kind}
use Rattle.policy.{specs.{Domain.EdgeTest, Steps.{IsSource, IsTarget, is_joined}}, proofs.Stepping.{IsRow, chosen, found_kind, only_kind, source_by, target_by}}

-- a test tells whether something holds
abbrev pub Tells : Bool → Type 0 → Type 0
Tells b X = (b ≡ true) ↔ X

module _ {X Y : Type 0} (z x y : Bool) (one : Tells x X) (two : Tells y Y) where
  pub either : z ≡ (x || y) → Tells z (X ⊎ Y)
  either is = (forth, back) where
    forth : z ≡ true → X ⊎ Y
    forth e = elim (or_cases x y (sym is ∙ e)) [ inl first ↦ inl (one.0 first) | inr last ↦ inr (two.0 last) ]

    back : X ⊎ Y → z ≡ true
    back (inl first) = is ∙ or_left x y (one.1 first)
    back (inr last) = is ∙ or_right x y (two.1 last)

  pub both : z ≡ (x && y) → Tells z (X × Y)
  both is = (
    λ e. let parts = and_parts x y (sym is ∙ e) in (one.0 parts.0, two.0 parts.1),
    λ w. is ∙ and_from x y (one.1 w.0) (two.1 w.1),
  )

pub itself_tells : (b : Bool) → Tells b (b ≡ true)
itself_tells b = (λ e. e, λ e. e)

pub told_as : {X Y : Type 0} (b : Bool) → Tells b X → (X → Y) → (Y → X) → Tells b Y
told_as b tells to from = (λ e. to (tells.0 e), λ w. tells.1 (from w))

pub only_tells : (one : Labels) (label : ℕ) → ((other : ℕ) → is_in one other ≡ (other == label)) → (other : ℕ) → Tells (is_in one other) (other ≡ label)
only_tells one label only other = (λ e. eqb-true other label (sym (only other) ∙ e), λ same. only other ∙ eq-eqb other label same)

module _ (test : EdgeTest) (kind : Kind) where
  pub row_tells : (from : ℕ) (row : Labels) → IsRow test from kind row → (to : ℕ) → Tells (is_in row to) (test from kind to ≡ true)
  row_tells from row is to = (λ e. sym (is to) ∙ e, λ e. is to ∙ e)

  module _ (Holds : ℕ → Type 0) (labels : Labels) (are : (label : ℕ) → Tells (is_in labels label) (Holds label)) (other : ℕ) (b : Bool) where
    pub source_tells : Tells b (IsSource test (kind ∷ []) labels other) → Tells b ((to : ℕ) × Holds to × (test other kind to ≡ true))
    source_tells tells = told_as b tells
        (λ step. (step.to, (are step.to).0 step.among, only_kind test kind other step.to step.joined))
        (λ w. source_by test kind labels w.0 other ((are w.0).1 w.1) w.2)

    pub target_tells : Tells b (IsTarget test (kind ∷ []) labels other) → Tells b ((from : ℕ) × Holds from × (test from kind other ≡ true))
    target_tells tells = told_as b tells
        (λ step. (step.from, (are step.from).0 step.among, only_kind test kind step.from other step.joined))
        (λ w. target_by test kind labels w.0 other ((are w.0).1 w.1) w.2)

    -- of the sources, those in another set
    pub waiting_tells :
        (acts : Bool) → Tells b (IsSource test (kind ∷ []) labels other × (acts ≡ true))
        → Tells b ((to : ℕ) × Holds to × (test other kind to ≡ true) × (acts ≡ true))
    waiting_tells acts tells = told_as b tells
        (λ w. (w.0.to, (are w.0.to).0 w.0.among, only_kind test kind other w.0.to w.0.joined, w.1))
        (λ w. (source_by test kind labels w.0 other ((are w.0).1 w.1) w.2, w.3))

-- an edge of one of the kinds that pass a test
module _ (passes : Kind → Bool) (kinds : List Kind) (listed : list_all passes kinds ≡ true)
    (among : (kind : Kind) → passes kind ≡ true → list_any (is_kind kind) kinds ≡ true) (test : EdgeTest) where
  pub kinds_tell : (from to : ℕ) → Tells (is_joined test kinds from to) ((kind : Kind) × (passes kind ≡ true) × (test from kind to ≡ true))
  kinds_tell from to = (
    λ e. chosen passes (λ k. test from k to) kinds listed e,
    λ w. found_kind (λ k. test from k to) kinds w.0 (among w.0 w.1) w.2,
  )

  module _ (Holds : ℕ → Type 0) (labels : Labels) (are : (label : ℕ) → Tells (is_in labels label) (Holds label)) (other : ℕ) (b : Bool) where
    pub kinds_target_tells :
        Tells b (IsTarget test kinds labels other)
        → Tells b ((from : ℕ) × Holds from × ((kind : Kind) × (passes kind ≡ true) × (test from kind other ≡ true)))
    kinds_target_tells tells = told_as b tells
        (λ step. (step.from, (are step.from).0 step.among, (kinds_tell step.from other).0 step.joined))
        (λ w. record { from = w.0; among = (are w.0).1 w.1; joined = (kinds_tell w.0 other).1 w.2 })

    pub kinds_waiting_tells :
        (acts : Bool) → Tells b (IsSource test kinds labels other × (acts ≡ true))
        → Tells b ((to : ℕ) × Holds to × ((kind : Kind) × (passes kind ≡ true) × (test other kind to ≡ true)) × (acts ≡ true))
    kinds_waiting_tells acts tells = told_as b tells
        (λ w. (w.0.to, (are w.0.to).0 w.0.among, (kinds_tell other w.0.to).0 w.0.joined, w.1))
        (λ w. (record { to = w.0; among = (are w.0).1 w.1; joined = (kinds_tell other w.0).1 w.2 }, w.3))

-- an edge of one of two kinds
pub joined_either : (test : EdgeTest) (one two : Kind) (from to : ℕ) → is_joined test (one ∷ two ∷ []) from to ≡ true
    → (test from one to ≡ true) ⊎ (test from two to ≡ true)
joined_either test one two from to is = elim (or_cases (test from one to) _ is) [
  | inl first ↦ inl first
  | inr last ↦ inr (only_kind test two from to last)
]

pub first_joined : (test : EdgeTest) (one two : Kind) (from to : ℕ) → test from one to ≡ true → is_joined test (one ∷ two ∷ []) from to ≡ true
first_joined test one two from to edge = or_left (test from one to) _ edge

pub second_joined : (test : EdgeTest) (one two : Kind) (from to : ℕ) → test from two to ≡ true → is_joined test (one ∷ two ∷ []) from to ≡ true
second_joined test one two from to edge = or_right (test from one to) _ (or_left (test from two to) Bool.false edge)
