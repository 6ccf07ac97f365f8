-- The sets that complete a stage: none, what is chosen, or those with the first label and then those without it.
use Rattle.std.{specs.Option.MatchOption, proofs.Common.{ℕ, ◌&&◌, ◌+◌, ◌-◌, ◌==◌, ◌||◌, ◌∙◌, ◌≡◌, ap, arith, not, subst}}
use Rattle.{std.proofs.lemmas.Result.IfOk-weaker, base.specs.{declared.labels.Labels.Labels, Labels.is_in}}
use Rattle.flows.{specs.Stages.{AreAdded, AreUseful, Completes}, proofs.{Adding.{none_added, one_tried}, Staging.{added_all, added_some}}}
use Rattle.flows.proofs.Staging.{chosen_alone, chosen_completes, fewer_allowed, is_with, is_without, none_useful}
use Rattle.flows.proofs.searching.+add_sets.Goals as goal

pub returns-in_default : goal.returns-in_default
returns-in_default t c =
    let Is = Completes c.args.rows.now c.args.question.now.from c.args.question.now.to c.args.stage.now in
    none_added Is
    (subst (λ found. MatchOption found ((set : Labels) → ¬ Is set) (AreUseful c.args.rows.now c.args.question.now.from c.args.question.now.to c.args.stage.now))
    c.in_default.is c.in_ok-useful.ensures) c.args.sets.now.items c.args.question.now.most c.requires.few

pub returns-then-stage-eq0 : goal.returns-then-stage-eq0
returns-then-stage-eq0 t c =
    let rows = c.args.rows.now in
    let from = c.args.question.now.from in
    let to = c.args.question.now.to in
    let stage = c.args.stage.now in
    let are : AreUseful rows from to stage c.in-Some.useful =
    subst (λ found. MatchOption found ((set : Labels) → ¬ Completes rows from to stage set) (AreUseful rows from to stage)) c.in-Some.is c.in_ok-useful.ensures in
    IfOk-weaker c.add_set.result _ (AreAdded (Completes rows from to stage) c.args.sets.now.items c.add_set.new.sets.items c.args.question.now.most)
    (one_tried (Completes rows from to stage) stage.chosen (chosen_completes rows from to stage c.requires.stage c.in-Some.useful are c.if-stage-eq0.true)
    (chosen_alone rows from to stage c.requires.stage c.in-Some.useful are c.if-stage-eq0.true) c.args.sets.now.items c.add_set.new.sets.items
    c.args.question.now.most) c.add_set.ensures

pub returns-in_default-first : goal.returns-in_default-first
returns-in_default-first t c =
    let rows = c.args.rows.now in
    let from = c.args.question.now.from in
    let to = c.args.question.now.to in
    let stage = c.args.stage.now in
    let are : AreUseful rows from to stage c.in-Some.useful =
    subst (λ found. MatchOption found ((set : Labels) → ¬ Completes rows from to stage set) (AreUseful rows from to stage)) c.in-Some.is c.in_ok-useful.ensures in
    none_added (Completes rows from to stage)
    (none_useful rows from to stage c.requires.stage c.in-Some.useful are c.if-stage-eq0.false c.in_default-first.ensures.none) c.args.sets.now.items
    c.args.question.now.most c.requires.few

pub add_sets-requires : goal.add_sets-requires
add_sets-requires t c =
    let rows = c.args.rows.now in
    let from = c.args.question.now.from in
    let to = c.args.question.now.to in
    let stage = c.args.stage.now in
    let useful = c.in-Some.useful in
    let first = c.in-Some-first.first in
    let are : AreUseful rows from to stage useful =
    subst (λ found. MatchOption found ((set : Labels) → ¬ Completes rows from to stage set) (AreUseful rows from to stage)) c.in-Some.is c.in_ok-useful.ensures in
    let rest_is : (l : ℕ) → is_in c.difference-rest.result l ≡ (is_in useful l && not (l == first)) =
    λ l. c.difference-rest.ensures l ∙ ap (λ b. is_in useful l && not b) (c.only-first.ensures l) in
    let taken_is : (l : ℕ) → is_in c.union.result l ≡ (is_in stage.chosen l || (l == first)) =
    λ l. c.union.ensures l ∙ ap (λ b. is_in stage.chosen l || b) (c.only-first.ensures l) in
    let some : stage.room ≡ stage.room - 1 + 1 = omega (arith, c.if-stage-eq0.false) in (
      omega (
        arith,
        c.decreases,
        fewer_allowed rows from to stage c.requires.stage useful are first c.in-Some-first.ensures.some.0 c.in-Some-first.ensures.some.1 c.difference-rest.result
            rest_is c.union.result taken_is (stage.room - 1) some,
      ),
      (
        c.requires.count,
        (
          is_with rows from to stage c.requires.stage useful are first c.in-Some-first.ensures.some.0 c.in-Some-first.ensures.some.1 c.difference-rest.result
              rest_is c.union.result taken_is (stage.room - 1) some,
          c.requires.few,
        ),
      ),
    )

pub returns-then-not-branch : goal.returns-then-not-branch
returns-then-not-branch t c =
    let rows = c.args.rows.now in
    let from = c.args.question.now.from in
    let to = c.args.question.now.to in
    let stage = c.args.stage.now in
    let useful = c.in-Some.useful in
    let first = c.in-Some-first.first in
    let are : AreUseful rows from to stage useful =
    subst (λ found. MatchOption found ((set : Labels) → ¬ Completes rows from to stage set) (AreUseful rows from to stage)) c.in-Some.is c.in_ok-useful.ensures in
    let rest_is : (l : ℕ) → is_in c.difference-rest.result l ≡ (is_in useful l && not (l == first)) =
    λ l. c.difference-rest.ensures l ∙ ap (λ b. is_in useful l && not b) (c.only-first.ensures l) in
    let taken_is : (l : ℕ) → is_in c.union.result l ≡ (is_in stage.chosen l || (l == first)) =
    λ l. c.union.ensures l ∙ ap (λ b. is_in stage.chosen l || b) (c.only-first.ensures l) in
    let some : stage.room ≡ stage.room - 1 + 1 = omega (arith, c.if-stage-eq0.false) in
    added_some rows from to stage c.requires.stage useful are first c.in-Some-first.ensures.some.0 c.in-Some-first.ensures.some.1 c.difference-rest.result
    rest_is c.union.result taken_is (stage.room - 1) some c.args.sets.now.items c.add_sets.new.sets.items c.args.question.now.most
    (subst (AreAdded (Completes rows from to (record { chosen = c.union.result; allowed = c.difference-rest.result; room = stage.room - 1 }))
    c.args.sets.now.items c.add_sets.new.sets.items c.args.question.now.most) c.if-not-branch.true c.in_ok-add_sets.ensures)

pub add_sets-requires-2 : goal.add_sets-requires-2
add_sets-requires-2 t c =
    let rows = c.args.rows.now in
    let from = c.args.question.now.from in
    let to = c.args.question.now.to in
    let stage = c.args.stage.now in
    let useful = c.in-Some.useful in
    let first = c.in-Some-first.first in
    let are : AreUseful rows from to stage useful =
    subst (λ found. MatchOption found ((set : Labels) → ¬ Completes rows from to stage set) (AreUseful rows from to stage)) c.in-Some.is c.in_ok-useful.ensures in
    let rest_is : (l : ℕ) → is_in c.difference-rest.result l ≡ (is_in useful l && not (l == first)) =
    λ l. c.difference-rest.ensures l ∙ ap (λ b. is_in useful l && not b) (c.only-first.ensures l) in
    let taken_is : (l : ℕ) → is_in c.union.result l ≡ (is_in stage.chosen l || (l == first)) =
    λ l. c.union.ensures l ∙ ap (λ b. is_in stage.chosen l || b) (c.only-first.ensures l) in
    let some : stage.room ≡ stage.room - 1 + 1 = omega (arith, c.if-stage-eq0.false) in (
      omega (
        arith,
        c.decreases,
        fewer_allowed rows from to stage c.requires.stage useful are first c.in-Some-first.ensures.some.0 c.in-Some-first.ensures.some.1 c.difference-rest.result
            rest_is c.union.result taken_is (stage.room - 1) some,
      ),
      (
        c.requires.count,
        (
          is_without rows from to stage c.requires.stage useful are first c.in-Some-first.ensures.some.0 c.in-Some-first.ensures.some.1 c.difference-rest.result
              rest_is c.union.result taken_is (stage.room - 1) some,
          c.in_ok-add_sets.ensures.few,
        ),
      ),
    )

pub returns : goal.returns
returns t c =
    let rows = c.args.rows.now in
    let from = c.args.question.now.from in
    let to = c.args.question.now.to in
    let stage = c.args.stage.now in
    let useful = c.in-Some.useful in
    let first = c.in-Some-first.first in
    let are : AreUseful rows from to stage useful =
    subst (λ found. MatchOption found ((set : Labels) → ¬ Completes rows from to stage set) (AreUseful rows from to stage)) c.in-Some.is c.in_ok-useful.ensures in
    let rest_is : (l : ℕ) → is_in c.difference-rest.result l ≡ (is_in useful l && not (l == first)) =
    λ l. c.difference-rest.ensures l ∙ ap (λ b. is_in useful l && not b) (c.only-first.ensures l) in
    let taken_is : (l : ℕ) → is_in c.union.result l ≡ (is_in stage.chosen l || (l == first)) =
    λ l. c.union.ensures l ∙ ap (λ b. is_in stage.chosen l || b) (c.only-first.ensures l) in
    let some : stage.room ≡ stage.room - 1 + 1 = omega (arith, c.if-stage-eq0.false) in
    IfOk-weaker c.add_sets-2.result _ (AreAdded (Completes rows from to stage) c.args.sets.now.items c.add_sets-2.new.sets.items c.args.question.now.most)
    (λ all hind. added_all rows from to stage c.requires.stage useful are first c.in-Some-first.ensures.some.0 c.in-Some-first.ensures.some.1
    c.difference-rest.result rest_is c.union.result taken_is (stage.room - 1) some c.args.sets.now.items c.add_sets.new.sets.items c.args.question.now.most
    c.add_sets-2.new.sets.items all
    (subst (AreAdded (Completes rows from to (record { chosen = c.union.result; allowed = c.difference-rest.result; room = stage.room - 1 }))
    c.args.sets.now.items c.add_sets.new.sets.items c.args.question.now.most) c.if-not-branch.false c.in_ok-add_sets.ensures) hind) c.add_sets-2.ensures
