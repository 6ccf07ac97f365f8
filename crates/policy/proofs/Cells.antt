-- First places of a rule, by the labels for each kind, and by the labels of one kind.
use Rattle.std.{specs.{Option.option_map, Ordering.is_lt, Prelude.◌↔◌}, proofs.Common.{[], ℕ, ◌<◌, ◌∙◌, ◌∷◌, ◌≡◌, Bool, IfNone, IfSome}}
use Rattle.std.proofs.Common.{List, None, Option, Some, ap, arith, false, inl, inr, subst, sym, true}
use Rattle.base.specs.{declared.{kind.Kind.Kind, labels.Labels.Labels}, Kinds.kind_number, Labels.is_in}
use Rattle.policy.specs.{declared.broken.Broken.Broken, Broken.{IsBrokenAt, broken_place}, Domain.EdgeTest, Places.ComesBefore}
use Rattle.policy.{specs.Search.{FindsBroken, FindsCell, IsLeastIn, IsNobody}, proofs.{KindNumbers.same_kind, Places.{IsMade, decided}}}
use Rattle.policy.proofs.Places.{least_made, none_made}
use mathlib.Core.Bool.{false≢true}

-- what places add for a kind and a label, or for a label after a fixed kind

abbrev pub of_cell : Kind × ℕ → List ℕ
of_cell cell = kind_number cell.0 ∷ cell.1 ∷ []

abbrev pub of_target : ℕ → ℕ → List ℕ
of_target number label = number ∷ label ∷ []

abbrev pub IsMadeOf : {A : Type 0} → EdgeTest → List ℕ → (A → Broken) → (A → List ℕ) → Type 0
IsMadeOf test beginning make adds = IsMade broken_place (IsBrokenAt test) beginning make adds

not_less : ComesBefore [] [] → ⊥
not_less less = false≢true (ap is_lt less)

pub not_both : {b : Bool} → b ≡ true → b ≡ false → ⊥
not_both t f = false≢true (sym f ∙ t)

module _ (test : EdgeTest) (beginning : List ℕ) where
  -- the set has the labels at which the rule is broken
  abbrev pub AreTold : (ℕ → Broken) → Labels → Type 0
  AreTold make labels = (label : ℕ) → (is_in labels label ≡ true) ↔ IsBrokenAt test (make label)

  abbrev pub AreCellsTold : (Kind × ℕ → Broken) → (Kind → Labels → Type 0) → Type 0
  AreCellsTold make gives = (kind : Kind) (labels : Labels) → gives kind labels → AreTold (λ label. make (kind, label)) labels

  -- the first place of the rule is made of the first cell, or of the least label
  abbrev pub FindsByCell : (Kind × ℕ → Broken) → (Kind → Labels → Type 0) → Type 0
  FindsByCell make gives = (found known : Option (Kind × ℕ)) → FindsCell gives found → found ≡ known → FindsBroken test beginning (option_map make known)

  abbrev pub FindsByTarget : (ℕ → Broken) → Type 0
  FindsByTarget make =
      (labels : Labels) → AreTold make labels → (found : Option ℕ) → IfSome found (IsLeastIn labels) → IfNone found (IsNobody labels)
      → FindsBroken test beginning (option_map make found)

  least_of_cells :
      (make : Kind × ℕ → Broken) → IsMadeOf test beginning make of_cell → (gives : Kind → Labels → Type 0) → AreCellsTold make gives
      → (found : Option (Kind × ℕ)) → FindsCell gives found → FindsBroken test beginning (option_map make found)
  least_of_cells make made gives tells None nobody = none_made made (λ cell broken.
      let there = nobody cell.0 in
      not_both ((tells cell.0 there.0 there.1 cell.1).1 broken) (there.2 cell.1))
  least_of_cells make made gives tells (Some cell) found =
      let here = found.0 in
      least_made made cell ((tells cell.0 here.0 here.1 cell.1).0 here.2.0) (λ other broken before. elim (decided (kind_number other.0) (kind_number cell.0) _ before) [
        | inl lower ↦
            let there = found.1 other.0 lower in
            not_both ((tells other.0 there.0 there.1 other.1).1 broken) (there.2 other.1)
        | inr same ↦
            let kind = same_kind other.0 cell.0 same.0 in
            let lower : other.1 < cell.1 = elim (decided other.1 cell.1 _ same.1) [ inl lt ↦ lt | inr tie ↦ absurd (not_less tie.1) ] in
            not_both ((tells cell.0 here.0 here.1 other.1).1 (subst (λ (k : Kind). IsBrokenAt test (make (k, other.1))) kind broken)) (here.2.1 other.1 lower)
      ])

  pub least_cell : (make : Kind × ℕ → Broken) → IsMadeOf test beginning make of_cell → (gives : Kind → Labels → Type 0)
      → AreCellsTold make gives → FindsByCell make gives
  least_cell make made gives tells found known finds same =
      subst (λ (f : Option (Kind × ℕ)). FindsBroken test beginning (option_map make f)) same (least_of_cells make made gives tells found finds)

  pub least_target : (number : ℕ) (make : ℕ → Broken) → IsMadeOf test beginning make (of_target number) → FindsByTarget make
  least_target number make made labels tells None least nobody =
      none_made made (λ label broken. not_both ((tells label).1 broken) (nobody label))
  least_target number make made labels tells (Some label) least nobody =
      least_made made label ((tells label).0 least.0) (λ other broken before.
      let lower : other < label = elim (decided number number _ before) [
        | inl lt ↦ absurd (omega (arith, lt))
        | inr same ↦ elim (decided other label _ same.1) [ inl lt ↦ lt | inr tie ↦ absurd (not_less tie.1) ]
      ] in
      not_both ((tells other).1 broken) (least.1 other lower))
