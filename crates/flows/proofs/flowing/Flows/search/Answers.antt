-- Each turn finds one link more, or is done with a label to which no other flows, until all that were found are done.
use Rattle.std.proofs.Common.{[], ℕ, ◌&&◌, ◌++◌, ◌+◌, ◌<◌, ◌||◌, ◌∙◌, ◌∷◌, ◌≡◌, ap, arith, inl, length, not, refl, subst, sym}
use Rattle.std.proofs.lemmas.{Bool.{and_parts, eq-eqb, eqb-true, or_left, or_right}, Grind.common_steps}
use Rattle.{base.specs.Labels.is_in, sharp.proofs.Missing.{fewer_missing, missing_below}, reach.specs.Extents.limits_of}
use Rattle.flows.{specs.{Chains.{AreFoundLinks, IsLinked}, Flowing.{FlowsBeside, FlowsBy}}, proofs.{Chains.was_not, Leading.all_leading}}
use Rattle.flows.proofs.{Leading.first_leading, FoundLinks.{found_more, links_more, new_link, none_found, one_done, one_leading}}
use Rattle.flows.proofs.flowing.Flows.search.Goals as goal

pub loop-label-init : goal.loop-label-init
loop-label-init c =
    let to = c.args.to in (
      first_leading (limits_of c.args.self.now) (is_in c.args.filters) to (is_in c.difference-done.result) (is_in c.only-labels.result)
          (λ l. c.difference-done.ensures l ∙ ap (λ b. is_in c.args.filters l && not b) (c.only.ensures l)) c.only-labels.ensures,
      λ l is. inl (eqb-true l to (sym (c.only-labels.ensures l) ∙ is)),
      none_found (limits_of c.args.self.now) (is_in c.args.filters) to c.new-links.result.items c.new-links.ensures.items,
    )

less_right : (x y z : ℕ) → y < z → x + y < x + z
less_right x y z less = omega (arith, less)

less_left : (x y z : ℕ) → x < y → x + z < y + z
less_left x y z less = omega (arith, less)

pub loop-label-smaller-in-Continue-1 : goal.loop-label-smaller-in-Continue-1
loop-label-smaller-in-Continue-1 c =
    let labels = c.loop-label.labels in
    let from = c.in-Some-link_to.link.from in
    less_right (missing_below (is_in c.loop-label.done) 256) (missing_below (is_in c.union-labels.result) 256) (missing_below (is_in labels) 256)
    (fewer_missing (is_in labels) (is_in c.union-labels.result)
    (λ l is. c.union-labels.ensures l ∙ or_left (is_in labels l) (is_in c.only-in-Some-link_to.result l) is) from c.in-Some-link_to.ensures.2
    (c.union-labels.ensures from
    ∙ or_right (is_in labels from) (is_in c.only-in-Some-link_to.result from) (c.only-in-Some-link_to.ensures from ∙ eq-eqb from from refl))
    256 (subst (λ n. n < 256) c.number-in-Some-link_to.ensures.value c.number-in-Some-link_to.ensures.below))

pub loop-label-preserved-in-Continue-1 : goal.loop-label-preserved-in-Continue-1
loop-label-preserved-in-Continue-1 c =
    let limits = limits_of c.args.self.now in
    let filters = is_in c.args.filters in
    let to = c.args.to in
    let done = c.loop-label.done in
    let labels = c.loop-label.labels in
    let links = c.loop-label.links.items in
    let label = c.in-Some.label in
    let link = c.in-Some-link_to.link in
    let so_far = c.loop-label.invariant in
    let is = c.in-Some-link_to.ensures in
    let parts = and_parts (is_in labels label) (not (is_in done label)) (sym (c.difference.ensures label) ∙ c.in-Some.ensures) in
    let undone = was_not (is_in done label) parts.1 in
    let flow : FlowsBeside limits filters link.from label =
    record { object = link.object; flows = subst (λ n. FlowsBy limits link.from link.object n) is.1 is.0.flows; beside = is.0.beside } in
    let grown : c.push.new.self.items ≡ links ++ link ∷ [] = grind (arith, common_steps) in
    let more = new_link limits filters to (is_in done) (is_in labels) links label link so_far.0 (so_far.1 label parts.0) undone is.0 is.1 is.2 in (
      one_leading limits filters to (is_in done) (is_in labels) so_far.0 label link.from (is_in c.union-labels.result) parts.0 undone flow
          (λ l. c.union-labels.ensures l ∙ ap (λ b. is_in labels l || b) (c.only-in-Some-link_to.ensures l)),
      λ l has.
          subst (λ ls. IsLinked to ls (length ls) l) (sym grown)
          (found_more links link to (is_in labels) l so_far.1
          (ap (λ b. is_in labels l || b) (sym (c.only-in-Some-link_to.ensures l)) ∙ sym (c.union-labels.ensures l) ∙ has)),
      subst (AreFoundLinks limits filters to) (sym grown) (links_more links link to limits filters so_far.2 more),
    )

pub loop-label-smaller : goal.loop-label-smaller
loop-label-smaller c =
    let done = c.loop-label.done in
    let label = c.in-Some.label in
    let parts =
    and_parts (is_in c.loop-label.labels label) (not (is_in done label)) (sym (c.difference.ensures label) ∙ c.in-Some.ensures) in
    less_left (missing_below (is_in c.union-done.result) 256) (missing_below (is_in done) 256) (missing_below (is_in c.loop-label.labels) 256)
    (fewer_missing (is_in done) (is_in c.union-done.result)
    (λ l is. c.union-done.ensures l ∙ or_left (is_in done l) (is_in c.only-in-None.result l) is) label (was_not (is_in done label) parts.1)
    (c.union-done.ensures label ∙ or_right (is_in done label) (is_in c.only-in-None.result label) (c.only-in-None.ensures label ∙ eq-eqb label label refl))
    256 (subst (λ n. n < 256) c.number.ensures.value c.number.ensures.below))

pub loop-label-preserved : goal.loop-label-preserved
loop-label-preserved c =
    let so_far = c.loop-label.invariant in (
      one_done (limits_of c.args.self.now) (is_in c.args.filters) c.args.to (is_in c.loop-label.done) (is_in c.loop-label.labels) so_far.0 c.in-Some.label
          (is_in c.union-done.result) c.in-None.ensures
          (λ l. c.union-done.ensures l ∙ ap (λ b. is_in c.loop-label.done l || b) (c.only-in-None.ensures l)),
      so_far.1,
      so_far.2,
    )

pub returns : goal.returns
returns c =
    let so_far = c.loop-label.invariant in
    record {
      leads = all_leading (limits_of c.args.self.now) (is_in c.args.filters) c.args.to (is_in c.loop-label.done) (is_in c.loop-label.labels) so_far.0
          (λ a. sym (c.difference.ensures a) ∙ c.in_default.ensures a);
      found = so_far.1;
      links = so_far.2;
    }
