-- The walk along arrows that finds a way, step by step.
use Rattle.std.proofs.Common.{[], ℕ, ◌&&◌, ◌+◌, ◌++◌, ◌∷◌, ◌<◌, ◌==◌, ◌||◌, ◌∙◌, ◌≡◌, ◌≢◌, ◌≤◌, ◌⊎◌, All, Any, Bool, List, ap, arith, false, get_or, inl, inr, length}
use Rattle.std.proofs.{Common.{not, refl, subst, sym, true}, lemmas.{Bool.{and_from, and_parts, cases_order, eq-eqb, eqb-true, false≢true, or_cases, or_left, or_right}}}
use Rattle.std.proofs.lemmas.List.{Elements.{All-nil, All-push}, Quantifiers.Any-push, get_or_append_left, length-append}
use Rattle.base.specs.{declared.labels.Labels.Labels, Labels.is_in}
use Rattle.flows.specs.{declared.ways.Step.Step, Flowing.{FilterTest, GoesOn}, Stages.AreBetween, Ways.{IsArrow, Way, Way.goes_on}}
use Rattle.flows.specs.Ways.Way.{starts}

module _ (rows : List Labels) (set : FilterTest) (from to : ℕ) where
  -- a way leads to the label past labels that aren't in the set
  pub record IsStep (step : Step) : Type 0 where
    pub on : GoesOn set from step.label
    pub not_to : step.label ≢ to
    pub beside : (l : ℕ) → is_in step.between l ≡ true → set l ≡ false
    pub not_from : is_in step.between from ≡ false
    pub no_end : is_in step.between to ≡ false
    pub leads : (other : FilterTest) → ((l : ℕ) → is_in step.between l ≡ true → other l ≡ false) → Way rows other from step.label

  pub first_step : from ≢ to → (step : Step) → step.label ≡ from → ((l : ℕ) → is_in step.between l ≡ false) → IsStep step
  first_step differ step at none = record {
    on = inl at;
    not_to = λ end. differ (sym at ∙ end);
    beside = λ l is. absurd (false≢true (sym (none l) ∙ is));
    not_from = none from;
    no_end = none to;
    leads = λ other apart. subst (λ n. Way rows other from n) (sym at) starts;
  }

  -- the labels on a way with the one to which it leads
  module _ (step : Step) (is : IsStep step) (past : Labels)
      (past_is : (l : ℕ) → is_in past l ≡ (is_in step.between l || ((l == step.label) && not (l == from))))
    where
      past_beside : (l : ℕ) → is_in past l ≡ true → set l ≡ false
      past_beside l there = elim (or_cases (is_in step.between l) ((l == step.label) && not (l == from)) (sym (past_is l) ∙ there)) [
        | inl before ↦ is.beside l before
        | inr here ↦
            let parts = and_parts (l == step.label) (not (l == from)) here in
            let at = eqb-true l step.label parts.0 in
            elim is.on [
              | inl first ↦ absurd (false≢true (sym (ap not (eq-eqb l from (at ∙ first))) ∙ parts.1))
              | inr free ↦ ap set at ∙ free
            ]
      ]

      past_without : (x : ℕ) → is_in step.between x ≡ false → ((x == step.label) && not (x == from)) ≡ false → is_in past x ≡ false
      past_without x before here = past_is x ∙ both before here where
        both : {b c : Bool} → b ≡ false → c ≡ false → (b || c) ≡ false
        both {b} {c} out neither = ap (λ d. d || c) out ∙ neither

      past_not_from : is_in past from ≡ false
      past_not_from = past_without from is.not_from (ap (λ b. (from == step.label) && not b) (eq-eqb from from refl) ∙ never (from == step.label)) where
        never : (b : Bool) → (b && false) ≡ false
        never true = refl
        never false = refl

      past_not_to : is_in past to ≡ false
      past_not_to = past_without to is.no_end (by (to == step.label) refl) where
        by : (b : Bool) → (to == step.label) ≡ b → ((to == step.label) && not (to == from)) ≡ false
        by true same = absurd (is.not_to (sym (eqb-true to step.label same)))
        by false other = ap (λ b. b && not (to == from)) other

      past_leads : (y : ℕ) → IsArrow rows step.label y → (other : FilterTest) → ((l : ℕ) → is_in past l ≡ true → other l ≡ false) → Way rows other from y
      past_leads y arrow other apart =
          goes_on (is.leads other (λ l before. apart l (past_is l ∙ or_left (is_in step.between l) ((l == step.label) && not (l == from)) before)))
          (by (step.label == from) refl) arrow where
            by : (b : Bool) → (step.label == from) ≡ b → GoesOn other from step.label
            by true same = inl (eqb-true step.label from same)
            by false differ =
                inr (apart step.label (past_is step.label
                ∙ or_right (is_in step.between step.label) ((step.label == step.label) && not (step.label == from))
                (and_from (step.label == step.label) (not (step.label == from)) (eq-eqb step.label step.label refl) (ap not differ))))

      -- an arrow leads to the end
      pub arrived : IsArrow rows step.label to → AreBetween rows set from to past
      arrived arrow = record {
        beside = past_beside;
        not_from = past_not_from;
        not_to = past_not_to;
        leads = past_leads to arrow;
      }

      -- or to a label that wasn't seen
      pub next_step : (next : Step) → IsArrow rows step.label next.label → set next.label ≡ false → next.label ≢ to → next.between ≡ past → IsStep next
      next_step next arrow free differ same = record {
        on = inr free;
        not_to = differ;
        beside = λ l there. past_beside l (sym (ap (λ p. is_in p l) same) ∙ there);
        not_from = ap (λ p. is_in p from) same ∙ past_not_from;
        no_end = ap (λ p. is_in p to) same ∙ past_not_to;
        leads = λ other apart. past_leads next.label arrow other (λ l there. apart l (ap (λ p. is_in p l) same ∙ there));
      }

  abbrev pub IsStepTo : List Step → ℕ → Type 0
  IsStepTo steps l = Any (λ step. step.label ≡ l) steps

  -- steps that were found, the first of which are done: all to which an arrow leads from these was seen, and isn't the end
  pub record AreSteps (seen : ℕ → Bool) (steps : List Step) (at : ℕ) : Type 0 where
    pub each : All IsStep steps
    pub begins : IsStepTo steps from
    pub known : (l : ℕ) → seen l ≡ true → ((set l ≡ true) ⊎ (l ≡ to)) ⊎ IsStepTo steps l
    pub barred : (l : ℕ) → seen l ≡ false → (set l ≡ false) × (l ≢ to)
    pub done : (k : ℕ) (d : Step) → k < at → (y : ℕ) → IsArrow rows (get_or steps k d).label y → (seen y ≡ true) × (y ≢ to)
    pub within : at ≤ length steps

  pub first_steps : from ≢ to → (steps : List Step) (step : Step) → steps ≡ [] ++ step ∷ [] → step.label ≡ from
      → ((l : ℕ) → is_in step.between l ≡ false) → (seen : ℕ → Bool) → ((l : ℕ) → seen l ≡ ((set l || (l == from)) || (l == to)))
      → AreSteps seen steps 0
  first_steps differ steps step are at none seen seen_is = record {
    each = subst (λ s. All IsStep s) (sym are) (All-push IsStep [] step (All-nil IsStep) (first_step differ step at none));
    begins = begins;
    known = λ l is. elim (or_cases (set l || (l == from)) (l == to) (sym (seen_is l) ∙ is)) [
      | inr end ↦ inl (inr (eqb-true l to end))
      | inl one ↦ elim (or_cases (set l) (l == from) one) [
        | inl barred ↦ inl (inl barred)
        | inr first ↦ inr (subst (λ n. IsStepTo steps n) (sym (eqb-true l from first)) begins)
      ]
    ];
    barred = λ l free. (
      by_parts (set l) (l == from) (l == to) (sym (seen_is l) ∙ free),
      λ end. false≢true (sym free ∙ seen_is l ∙ or_right (set l || (l == from)) (l == to) (eq-eqb l to end)),
    );
    done = λ k d before. absurd (omega (arith, before));
    within = omega arith;
  } where
    begins : IsStepTo steps from
    begins = subst (λ s. IsStepTo s from) (sym are) (Any-push (λ s. s.label ≡ from) [] step at)

    by_parts : (b c d : Bool) → ((b || c) || d) ≡ false → b ≡ false
    by_parts true c d is = is
    by_parts false c d is = refl

  module _ (seen : ℕ → Bool) (steps : List Step) (at : ℕ) (are : AreSteps seen steps at) where
    -- a step to a label that wasn't seen
    pub more_steps : (step next : Step) → IsStep step → (past : Labels)
        → ((l : ℕ) → is_in past l ≡ (is_in step.between l || ((l == step.label) && not (l == from)))) → IsArrow rows step.label next.label
        → seen next.label ≡ false → next.between ≡ past → (longer : List Step) → longer ≡ steps ++ next ∷ [] → (grown : ℕ → Bool)
        → ((l : ℕ) → grown l ≡ (seen l || (l == next.label))) → AreSteps grown longer at
    more_steps step next is past past_is arrow fresh between longer longer_is grown grown_is = record {
      each = subst (λ s. All IsStep s) (sym longer_is)
          (All-push IsStep steps next are.each (next_step step is past past_is next arrow (are.barred next.label fresh).0 (are.barred next.label fresh).1 between));
      begins = kept from are.begins;
      known = λ l there. elim (or_cases (seen l) (l == next.label) (sym (grown_is l) ∙ there)) [
        | inl before ↦ elim (are.known l before) [
          | inl barred ↦ inl barred
          | inr led ↦ inr (kept l led)
        ]
        | inr now ↦
            inr (subst (λ n. IsStepTo longer n) (sym (eqb-true l next.label now))
            (subst (λ s. IsStepTo s next.label) (sym longer_is) (Any-push (λ s. s.label ≡ next.label) steps next refl)))
      ];
      barred = λ l free. are.barred l (neither (seen l) (l == next.label) (sym (grown_is l) ∙ free));
      done = λ k d before y leads.
          let under : k < length steps = omega (arith, before, are.within) in
          let same : get_or longer k d ≡ get_or steps k d = ap (λ s. get_or s k d) longer_is ∙ get_or_append_left steps (next ∷ []) d k under in
          let told = are.done k d before y (subst (λ s. IsArrow rows s.label y) same leads) in
          (grown_is y ∙ or_left (seen y) (y == next.label) told.0, told.1);
      within = omega (arith, are.within, ap length longer_is, length-append steps (next ∷ []));
    } where
      kept : (l : ℕ) → IsStepTo steps l → IsStepTo longer l
      kept l (k, one, below, there, led) =
          let longer_than : length longer ≡ length steps + 1 = ap length longer_is ∙ length-append steps (next ∷ []) in (
            k,
            one,
            omega (arith, below, longer_than),
            ap (λ s. get_or s k one) longer_is ∙ get_or_append_left steps (next ∷ []) one k below ∙ there,
            led,
          )

      neither : (b c : Bool) → (b || c) ≡ false → b ≡ false
      neither true c is = is
      neither false c is = refl

    -- all to which an arrow leads from a step was seen
    pub step_done : at < length steps → (step : Step) → ((d : Step) → get_or steps at d ≡ step)
        → ((y : ℕ) → IsArrow rows step.label y → (seen y ≡ true) × (y ≢ to)) → AreSteps seen steps (at + 1)
    step_done below step here all = record {
      each = are.each;
      begins = are.begins;
      known = are.known;
      barred = are.barred;
      done = λ k d before y leads. elim (cases_order k at) [
        | inl same ↦ all y (subst (λ s. IsArrow rows s.label y) (ap (λ n. get_or steps n d) same ∙ here d) leads)
        | inr (inl less) ↦ are.done k d less y leads
        | inr (inr more) ↦ absurd (omega (arith, before, more))
      ];
      within = omega (arith, below);
    }

    -- no way leads to the end once all are done
    pub none_leads : length steps ≤ at → set to ≡ false → ¬ Way rows set from to
    none_leads all free way = end (reached way) where
      reached : {y : ℕ} → Way rows set from y → (set y ≡ true) ⊎ IsStepTo steps y
      reached starts = inr are.begins
      reached (goes_on {x} {y} before goes arrow) = next (stepped (reached before) goes) where
        stepped : (set x ≡ true) ⊎ IsStepTo steps x → GoesOn set from x → IsStepTo steps x
        stepped (inr led) goes = led
        stepped (inl barred) (inl first) = subst (λ n. IsStepTo steps n) (sym first) are.begins
        stepped (inl barred) (inr free) = absurd (false≢true (sym free ∙ barred))

        next : IsStepTo steps x → (set y ≡ true) ⊎ IsStepTo steps y
        next (k, one, below, there, led) =
            let told =
            are.done k one (omega (arith, below, all)) y (subst (λ n. IsArrow rows n y) (sym led ∙ ap (λ s. s.label) (sym there)) arrow) in
            by told (are.known y told.0) where
              by : (seen y ≡ true) × (y ≢ to) → ((set y ≡ true) ⊎ (y ≡ to)) ⊎ IsStepTo steps y → (set y ≡ true) ⊎ IsStepTo steps y
              by told (inl (inl barred)) = inl barred
              by told (inl (inr same)) = absurd (told.1 same)
              by told (inr found) = inr found

      end : (set to ≡ true) ⊎ IsStepTo steps to → ⊥
      end (inl barred) = false≢true (sym free ∙ barred)
      end (inr (k, one, below, there, led)) = (subst IsStep there (are.each k one below)).not_to led
