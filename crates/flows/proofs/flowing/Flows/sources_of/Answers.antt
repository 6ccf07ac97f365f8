-- Each turn is done with one label more, until all that were found are done.
use Rattle.std.proofs.Common.{◌&&◌, ◌<◌, ◌||◌, ◌∙◌, ◌≡◌, Bool, ap, false, not, refl, subst, sym, true}
use Rattle.{std.proofs.lemmas.Bool.{and_parts, eq-eqb, or_left, or_right}, base.specs.Labels.is_in, sharp.proofs.Missing.fewer_missing}
use Rattle.{reach.specs.Extents.limits_of, flows.proofs.Leading.{all_leading, first_leading, more_leading}}
use Rattle.flows.proofs.flowing.Flows.sources_of.Goals as goal

pub loop-label-init : goal.loop-label-init
loop-label-init c =
    first_leading (limits_of c.args.self.now) (is_in c.args.filters) c.args.to (is_in c.difference-done.result) (is_in c.only-leading.result)
    (λ l. c.difference-done.ensures l ∙ ap (λ b. is_in c.args.filters l && not b) (c.only.ensures l)) c.only-leading.ensures

was_false : (b : Bool) → not b ≡ true → b ≡ false
was_false true is = sym is
was_false false is = refl

pub loop-label-smaller : goal.loop-label-smaller
loop-label-smaller c =
    let done = c.loop-label.done in
    let label = c.in-Some.label in
    let parts =
    and_parts (is_in c.loop-label.leading label) (not (is_in done label)) (sym (c.difference.ensures label) ∙ c.in-Some.ensures.some.0) in
    fewer_missing (is_in done) (is_in c.union-done.result)
    (λ l is. c.union-done.ensures l ∙ or_left (is_in done l) (is_in c.only-in-Some.result l) is) label (was_false (is_in done label) parts.1)
    (c.union-done.ensures label ∙ or_right (is_in done label) (is_in c.only-in-Some.result label) (c.only-in-Some.ensures label ∙ eq-eqb label label refl))
    256 (subst (λ n. n < 256) c.number.ensures.value c.number.ensures.below)

pub loop-label-preserved : goal.loop-label-preserved
loop-label-preserved c =
    let done = c.loop-label.done in
    let label = c.in-Some.label in
    let parts =
    and_parts (is_in c.loop-label.leading label) (not (is_in done label)) (sym (c.difference.ensures label) ∙ c.in-Some.ensures.some.0) in
    more_leading (limits_of c.args.self.now) (is_in c.args.filters) c.args.to (is_in done) (is_in c.loop-label.leading) c.loop-label.invariant label
    (is_in c.previous_beside.result) (is_in c.union-done.result) (is_in c.union-leading.result) parts.0 (was_false (is_in done label) parts.1)
    c.previous_beside.ensures (λ l. c.union-done.ensures l ∙ ap (λ b. is_in done l || b) (c.only-in-Some.ensures l)) c.union-leading.ensures

pub returns : goal.returns
returns c =
    all_leading (limits_of c.args.self.now) (is_in c.args.filters) c.args.to (is_in c.loop-label.done) (is_in c.loop-label.leading) c.loop-label.invariant
    (λ a. sym (c.difference.ensures a) ∙ c.in_default.ensures.none a)
