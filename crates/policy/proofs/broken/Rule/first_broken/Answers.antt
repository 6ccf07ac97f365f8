use Rattle.std.{specs.{List.{AllZip, range_with_len}, Prelude.filter_map}, proofs.Common.{ℕ, ◌-◌, ◌<◌, ◌∙◌, ◌∷◌, ◌≡◌, ◌≤◌}}
use Rattle.{std.proofs.Common.{List, Option, ap, arith, slice_get, subst, sym}, rayon.proofs.ToStd.nat_range-All}
use Rattle.policy.specs.{declared.broken.Broken.Broken, Policy.{JoinsBelow, allows}, Search.FindsBroken, Sweep.{count_of, place_of}}
use Rattle.policy.{specs.Sweep.rule_number, proofs.{RulePlaces.{of_places, of_rule}, Sweep.{all_pass, found_first, least_found, numbers}}}
use Rattle.base.specs.declared.label.TheConstants.Label as Label
use Rattle.policy.proofs.broken.Rule.first_broken.Goals as goal

-- each place is below the rule's count, and every answer passes
pub find_first-requires-clause-items : goal.find_first-requires-clause-items
find_first-requires-clause-items g c κs =
    let ends = c.into_par_iter.ensures in
    let labels = c.from-labels.result in
    let few : labels ≤ Label.COUNT = omega arith in
    let count = count_of labels c.args.self in
    rw (c.filter_map.ensures.base, c.filter_map.ensures.f, c.with_min_len.ensures.base, ends.0, ends.1, c.places.ensures)
    (λ loans k d lt. (nat_range-All (λ i. (labels ≤ Label.COUNT) × (i < count)) 0 count (λ i low high. (few, high)) k d lt, λ y least p e. tt))

pub returns : goal.returns
returns g c =
    let h = c.find_first.ensures in
    let ends = c.into_par_iter.ensures in
    let test = allows c.args.policy.now in
    let rule = c.args.self in
    let labels = c.from-labels.result in
    let count = count_of labels rule in
    let gives = λ (number : ℕ) (found : Option Broken). FindsBroken test (rule_number rule ∷ place_of labels rule number) found in
    let chain = rw (c.filter_map.ensures.base, c.filter_map.ensures.f, c.with_min_len.ensures.base, ends.0, ends.1, c.places.ensures) at h.2 in
    let joins = subst (λ n. JoinsBelow n c.args.policy.now) (sym c.from-labels.ensures) c.span.ensures.joins in
    let whole : count - 0 ≡ count = omega arith in
    let zipped : AllZip gives (numbers count) chain.1 =
    subst (λ (xs : List ℕ). AllZip gives xs chain.1) (chain.2 ∙ ap (range_with_len 0) whole) chain.3 in
    let first : c.find_first.result ≡ slice_get (filter_map (λ (o : Option Broken). o) chain.1) 0 =
    h.4 ∙ ap (λ (l : List Broken). slice_get l 0) (all_pass h.0 h.1 h.3 ∙ chain.4) in
    subst (FindsBroken test (of_rule rule)) (sym first)
    (least_found (of_places test labels joins rule) (slice_get (filter_map (λ (o : Option Broken). o) chain.1) 0)
    (found_first gives (numbers count) chain.1 zipped))
