use Rattle.std.proofs.{Common.{arith, refl}, lemmas.List.same_lists}
use Rattle.runs.proofs.comparing.same_slots.Goals as goal

pub returns : goal.returns
returns c = (
  λ _. same_lists c.args.is.now c.args.was.now c.if-is-was.false (λ k d within. c.loop-index.invariant k d (omega arith)),
  λ _. refl,
)
