-- That a domain is within itself, and any other is within a domain if its parent is.
use Rattle.std.proofs.Common.{◌-◌, ◌∙◌, ◌≡◌, ◌≤◌, ap, arith, eq-eqb, sym}
use Rattle.{microkit.specs.View.description_of, separation.{specs.Users.is_within, proofs.Levels.{within_else, within_here}}}
use Rattle.separation.proofs.users.+is_within.Goals as goal

pub returns-then-domain-outer : goal.returns-then-domain-outer
returns-then-domain-outer t c =
    eq-eqb _ _ c.if-domain-outer.true
    ∙ sym (within_here (description_of c.args.description.now) _ c.args.levels _ c.if-domain-outer.true)

pub returns-else-domain-outer : goal.returns-else-domain-outer
returns-else-domain-outer t c =
    let d = description_of c.args.description.now in
    let p = c.in-Some-Some.parent in
    let less : c.in-Some-Some.below ≡ c.args.levels - 1 = omega (arith, c.in-Some-Some.ensures) in
    let some : 1 ≤ c.args.levels = omega (arith, c.in-Some-Some.ensures) in
    c.is_within.ensures
    ∙ ap (λ k. is_within d c.args.outer k p) less
    ∙ within_else d c.args.outer c.args.levels c.args.domain p c.if-domain-outer.false some c.in-Some-Some.ensures'
