-- A keeper may grant to itself, and to a keeper, where both control a label.
use Rattle.{policy.specs.Sharp.Told, verdict.proofs.Following.{derive_follows, fall_follows}}
use Rattle.verdict.proofs.counterexamples.sharp_rules_that_follow.Goals as goal

pub returns-clause-derive : goal.returns-clause-derive
returns-clause-derive c = λ test keeps. derive_follows test (Told keeps)

pub returns-clause-fall : goal.returns-clause-fall
returns-clause-fall c = λ test keeps. fall_follows test (Told keeps)
