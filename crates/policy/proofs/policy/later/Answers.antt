use Rattle.std.{specs.Ordering.{is_lt, is_some_and}, proofs.Common.{◌∙◌, ap, cond, sym}}
use Rattle.policy.{specs.Rows.last_with, proofs.Order.partial_cmp-of_code}
use Rattle.policy.proofs.policy.later.Goals as goal

pub returns-in-Some : goal.returns-in-Some
returns-in-Some c =
    let less = sym c.if-lt.true ∙ c.lt.ensures ∙ ap (is_some_and is_lt) (partial_cmp-of_code c.args.edge c.in-Some.last) in
    ap (λ b. cond b c.in-Some.last c.args.edge) less ∙ ap (λ last. last_with last c.args.edge) (sym c.in-Some.is)

pub returns-in_default : goal.returns-in_default
returns-in_default c =
    let less = sym c.if-lt.false ∙ c.lt.ensures ∙ ap (is_some_and is_lt) (partial_cmp-of_code c.args.edge c.in-Some.last) in
    ap (λ b. cond b c.in-Some.last c.args.edge) less ∙ ap (λ last. last_with last c.args.edge) (sym c.in-Some.is)

pub returns-in_default-2 : goal.returns-in_default-2
returns-in_default-2 c = ap (λ last. last_with last c.args.edge) (sym c.in_default.is)
