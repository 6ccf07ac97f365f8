use Rattle.std.proofs.Common.{[], ◌∷◌, arith, below_more, subst}
use Rattle.base.specs.Labels.{is_in}
use Rattle.policy.specs.{Places.{IsLeast, IsNone, IsUnder}, Policy.allows, Sharp.Told}
use Rattle.sharp.{specs.Broken.{IsSharplyBrokenAt, s3, sharp_place}, proofs.{PlaceSearch.{least_of_labels, none_of_labels}, RulePlaces.grant_labels}}
use Rattle.sharp.proofs.broken.rules.grant_lacks.Goals as goal

pub returns-in-Some : goal.returns-in-Some
returns-in-Some c =
    let test = allows c.args.policy.now in
    let keeps = Told (is_in c.args.keeping) in
    let n = c.span-number-end.result in
    least_of_labels n (grant_labels test keeps n c.span-number-end.ensures.joins c.args.giver) c.loop-number.number (omega arith)
    c.loop-number.invariant c.in-Some.broken
    (subst (λ label. IsLeast sharp_place (IsUnder sharp_place (IsSharplyBrokenAt test keeps) (s3 ∷ c.args.giver ∷ label ∷ [])) c.in-Some.broken)
    c.label.ensures c.in-Some.ensures)

pub loop-number-preserved : goal.loop-number-preserved
loop-number-preserved c =
    let test = allows c.args.policy.now in
    let keeps = Told (is_in c.args.keeping) in
    below_more (λ label. IsNone (IsUnder sharp_place (IsSharplyBrokenAt test keeps) (s3 ∷ c.args.giver ∷ label ∷ []))) c.loop-number.number
    c.loop-number.invariant
    (subst (λ label. IsNone (IsUnder sharp_place (IsSharplyBrokenAt test keeps) (s3 ∷ c.args.giver ∷ label ∷ []))) c.label.ensures
    c.in_default.ensures)

pub returns : goal.returns
returns c =
    let test = allows c.args.policy.now in
    let keeps = Told (is_in c.args.keeping) in
    let n = c.span-number-end.result in
    none_of_labels n (grant_labels test keeps n c.span-number-end.ensures.joins c.args.giver)
    (λ label below. c.loop-number.invariant label (omega (arith, below)))
