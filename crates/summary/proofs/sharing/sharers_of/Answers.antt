use mathlib.Core.Bool.{false≢true}
use Rattle.std.proofs.Common.{◌∙◌, not, sym}
use Rattle.{base.specs.Labels.is_in, policy.proofs.Gathering.{both, either, only_tells, told_as}, summary.proofs.Waiting.not_tells}
use Rattle.summary.proofs.sharing.sharers_of.Goals as goal

pub returns-then-not-has : goal.returns-then-not-has
returns-then-not-has c l = (
  λ is. absurd (false≢true (sym (c.none.ensures l) ∙ is)),
  λ held. absurd (false≢true (sym c.if-not-has.true ∙ c.has.ensures ∙ c.requires c.args.region ∙ held.memory)),
)

pub returns : goal.returns
returns c l =
    let memory = sym (c.requires c.args.region) ∙ sym c.has.ensures ∙ c.if-not-has.false in
    told_as (is_in c.difference.result l)
    (both (is_in c.difference.result l) (is_in c.union-holders.result l) (not (is_in c.only-itself.result l))
    (either (is_in c.union-holders.result l) (is_in c.sources_of-readers.result l) (is_in c.sources_of-writers.result l) (c.sources_of-readers.ensures l)
    (c.sources_of-writers.ensures l) (c.union-holders.ensures l))
    (not_tells (is_in c.only-itself.result l) (only_tells c.only-itself.result c.args.region c.only-itself.ensures l)) (c.difference.ensures l))
    (λ w. record { memory = memory; has = w.0; apart = w.1 }) (λ held. (held.has, held.apart))
