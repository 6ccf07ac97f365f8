use Rattle.std.{specs.Ordering.{is_lt, is_some_and}, proofs.Common.{◌∙◌, ap, length, sym}}
use Rattle.policy.proofs.WalkOrder.{apart_first, numbers_cmp, same_first}
use Rattle.policy.proofs.walks.comes_before.Goals as goal

pub returns-then-one-other : goal.returns-then-one-other
returns-then-one-other c = apart_first (length c.args.one.now) (length c.args.other.now) _ c.if-one-other.true

pub returns : goal.returns
returns c =
    c.lt.ensures ∙ ap (is_some_and is_lt) (numbers_cmp c.args.one.now c.args.other.now)
    ∙ sym (ap is_lt (same_first (length c.args.one.now) (length c.args.other.now) _ c.if-one-other.false))
