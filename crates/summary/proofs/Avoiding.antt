-- Chains that avoid programs: one avoids none if nothing flows beside the programs that it avoids.
use Rattle.std.proofs.{Common.{ℕ, ◌&&◌, ◌==◌, ◌∙◌, ◌≡◌, Bool, ap, false, not, refl, sym, true}, lemmas.Bool.{and_parts, eq-eqb}}
use Rattle.{base.specs.{declared.labels.Labels.Labels, Labels.is_in}, reach.specs.Extents.Limits}
use Rattle.flows.specs.{declared.smallest.Smallest.{Smallest, Smallest as smallest}, Flowing.GoesThrough, Smallest.IsFilterSet}
use Rattle.{flows.specs.Smallest.IsSmallest, summary.specs.FlowText.AreAvoided}

-- a test that fails

first_fails : (b c : Bool) → ((b && not true) && c) ≡ false
first_fails true c = refl
first_fails false c = refl

second_fails : (b : Bool) → (b && not true) ≡ false
second_fails true = refl
second_fails false = refl

pub none_avoided :
    (limits : Limits) (from to most : ℕ) (sets : Smallest) (avoided : Labels) → IsSmallest (IsFilterSet limits from to) most sets
    → AreAvoided limits from to sets avoided → GoesThrough limits (is_in avoided) from to → (l : ℕ) → is_in avoided l ≡ false
none_avoided limits from to most smallest.Direct avoided none are goes =
    absurd
    (none avoided (record {
      programs = λ l in_set.
          (and_parts (limits.acts l) (not (l == from)) (and_parts (limits.acts l && not (l == from)) (not (l == to)) (sym (are l) ∙ in_set)).0).0;
      not_from =
          are from
          ∙ ap (λ e. (limits.acts from && not e) && not (from == to)) (eq-eqb from from refl)
          ∙ first_fails (limits.acts from) (not (from == to));
      not_to =
          are to
          ∙ ap (λ e. (limits.acts to && not (to == from)) && not e) (eq-eqb to to refl)
          ∙ second_fails (limits.acts to && not (to == from));
      through = goes;
    }))
none_avoided limits from to most smallest.Larger avoided is are goes = are
none_avoided limits from to most (smallest.Fewest sets) avoided is are goes = are
