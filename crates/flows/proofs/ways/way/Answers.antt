-- Each turn takes a step, until one leads to the end, or all are done.
use Rattle.std.proofs.Common.{[], ℕ, ◌*◌, ◌++◌, ◌+◌, ◌-◌, ◌<◌, ◌==◌, ◌||◌, ◌∙◌, ◌∷◌, ◌≡◌, ◌≤◌, List, ap, arith, get_or, length, not, refl}
use Rattle.std.proofs.{Common.{subst, sym}, lemmas.{Bool.{and_parts, eq-eqb, or_left, or_right}, Grind.common_steps, List.get_or_default}}
use Rattle.{base.specs.{declared.labels.Labels.Labels, Labels.{is_in, no_labels}}, sharp.proofs.Missing.{fewer_missing, missing_below}}
use Rattle.flows.{specs.{declared.ways.Step.Step, Rows.row_at}, proofs.{Chains.was_not, Walking.{IsStep, arrived, first_steps, more_steps}}}
use Rattle.flows.proofs.Walking.{none_leads}
use Rattle.flows.proofs.ways.way.Goals as goal

-- a label's row, as it is read
row_read : (rows : List Labels) (index label : ℕ) (default : Labels) → index < length rows → index ≡ label → get_or rows index default ≡ row_at rows label
row_read rows index label default below same = get_or_default rows index default no_labels below ∙ ap (λ n. get_or rows n no_labels) same

falls : (a b m n at : ℕ) → a < b → m ≡ n + 1 → at ≤ n → 2 * a + (m - at) < 2 * b + (n - at)
falls a b m n at less longer within = omega (arith, less, longer, within)

pub loop-at-init : goal.loop-at-init
loop-at-init c =
    let set = is_in c.args.set in
    let from = c.args.from in
    let to = c.args.to in
    let step : Step = record { label = from; between = c.none.result } in
    let one : c.push.new.self.items ≡ [] ++ step ∷ [] = grind (arith, common_steps) in
    first_steps c.args.rows.now set from to c.requires.differ c.push.new.self.items step one refl c.none.ensures (is_in c.union-seen.result)
    (λ l. c.union-seen.ensures l
    ∙ ap (λ b. b || is_in c.only-2.result l) (c.union.ensures l ∙ ap (λ b. set l || b) (c.only.ensures l))
    ∙ ap (λ b. (set l || (l == from)) || b) (c.only-2.ensures l))

pub returns-then-has : goal.returns-then-has
returns-then-has c =
    let rows = c.args.rows.now in
    let step = c.index.result.now in
    let at = c.loop-at.at in
    let within : at < length c.loop-at.steps.items = omega (arith, c.loop-at-test.true, c.len.ensures) in
    let is : IsStep rows (is_in c.args.set) c.args.from c.args.to step =
    subst (IsStep rows (is_in c.args.set) c.args.from c.args.to) (sym c.index.ensures) (c.loop-at.invariant.each at _ within) in
    let same : c.from.result ≡ step.label = omega arith in
    let below : c.from.result < length rows = omega (arith, c.number.ensures.below, c.requires.count) in
    arrived rows (is_in c.args.set) c.args.from c.args.to step is c.past-between.result c.past-between.ensures
    (ap (λ row. is_in row c.args.to) (sym (row_read rows c.from.result step.label _ below same)) ∙ sym c.has.ensures ∙ c.if-has.true)

pub loop-at-smaller-in-Continue-branch-2 : goal.loop-at-smaller-in-Continue-branch-2
loop-at-smaller-in-Continue-branch-2 c =
    let seen = c.loop-at.seen in
    let steps = c.loop-at.steps.items in
    let label = c.in-Some.label in
    let parts = and_parts _ (not (is_in seen label)) (sym (c.difference.ensures label) ∙ c.in-Some.ensures.some.0) in
    let longer : length c.push-in-Some.new.self.items ≡ length steps + 1 = grind (arith, common_steps) in
    falls (missing_below (is_in c.union-seen-in-Some.result) 256) (missing_below (is_in seen) 256) (length c.push-in-Some.new.self.items) (length steps)
    c.loop-at.at
    (fewer_missing (is_in seen) (is_in c.union-seen-in-Some.result)
    (λ l is. c.union-seen-in-Some.ensures l ∙ or_left (is_in seen l) (is_in c.only-in-Some.result l) is) label (was_not (is_in seen label) parts.1)
    (c.union-seen-in-Some.ensures label
    ∙ or_right (is_in seen label) (is_in c.only-in-Some.result label) (c.only-in-Some.ensures label ∙ eq-eqb label label refl))
    256 (subst (λ n. n < 256) c.number-in-Some.ensures.value c.number-in-Some.ensures.below))
    longer c.loop-at.invariant.within

pub loop-at-preserved-in-Continue-branch-2 : goal.loop-at-preserved-in-Continue-branch-2
loop-at-preserved-in-Continue-branch-2 c =
    let rows = c.args.rows.now in
    let set = is_in c.args.set in
    let seen = c.loop-at.seen in
    let steps = c.loop-at.steps.items in
    let step = c.index.result.now in
    let label = c.in-Some.label in
    let next : Step = record { label = label; between = c.past-between.result } in
    let parts = and_parts _ (not (is_in seen label)) (sym (c.difference.ensures label) ∙ c.in-Some.ensures.some.0) in
    let within : c.loop-at.at < length steps = omega (arith, c.loop-at-test.true, c.len.ensures) in
    let is : IsStep rows set c.args.from c.args.to step =
    subst (IsStep rows set c.args.from c.args.to) (sym c.index.ensures) (c.loop-at.invariant.each c.loop-at.at _ within) in
    let same : c.from.result ≡ step.label = omega arith in
    let below : c.from.result < length rows = omega (arith, c.number.ensures.below, c.requires.count) in
    let grown : c.push-in-Some.new.self.items ≡ steps ++ next ∷ [] = grind (arith, common_steps) in
    more_steps rows set c.args.from c.args.to (is_in seen) steps c.loop-at.at c.loop-at.invariant step next is c.past-between.result c.past-between.ensures
    (ap (λ row. is_in row label) (sym (row_read rows c.from.result step.label _ below same)) ∙ parts.0) (was_not (is_in seen label) parts.1) refl
    c.push-in-Some.new.self.items grown (is_in c.union-seen-in-Some.result)
    (λ l. c.union-seen-in-Some.ensures l ∙ ap (λ b. is_in seen l || b) (c.only-in-Some.ensures l))

pub returns : goal.returns
returns c =
    none_leads c.args.rows.now (is_in c.args.set) c.args.from c.args.to (is_in c.loop-at.seen) c.loop-at.steps.items c.loop-at.at c.loop-at.invariant
    (omega (arith, c.loop-at-test.false, c.len.ensures)) c.requires.ends
