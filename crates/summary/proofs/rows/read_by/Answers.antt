use Rattle.std.proofs.Common.{◌||◌, ◌∙◌, ap}
use Rattle.{base.specs.{declared.kind.Kind.TheVariants.{Read, Receive}, Labels.is_in}, policy.specs.Policy.allows}
use Rattle.summary.proofs.rows.read_by.Goals as goal

pub returns : goal.returns
returns c l =
    let test = allows c.args.policy.now in
    c.union.ensures l
    ∙ ap (λ b. b || is_in c.row-poll.result l)
    (c.union-taken.ensures l ∙ ap (λ b. b || is_in c.row-receive.result l) (c.row-read.ensures l)
    ∙ ap (λ b. test c.args.label Read l || b) (c.row-receive.ensures l))
    ∙ ap (λ b. (test c.args.label Read l || test c.args.label Receive l) || b) (c.row-poll.ensures l)
