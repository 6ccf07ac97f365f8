use Rattle.std.{specs.Prelude.bytes_eq, proofs.Common.{◌∙◌, ap, arith, sym}}
use Rattle.base.proofs.KindNames.{named_by, named_by_none, not_named, number_below}
use Rattle.base.proofs.kind.Kind.from_name.Goals as goal

pub loop-kind-init : goal.loop-kind-init
loop-kind-init c kind below = absurd (omega (arith, below))

pub returns-then-eq : goal.returns-then-eq
returns-then-eq c =
    let name = sym (c.as_bytes.ensures.value ∙ c.name.ensures) in
    sym (named_by c.args.name.now _ (ap (λ word. bytes_eq word c.args.name.now) name ∙ sym c.eq.ensures ∙ c.if-eq.true))

pub loop-kind-preserved : goal.loop-kind-preserved
loop-kind-preserved c =
    let name = sym (c.as_bytes.ensures.value ∙ c.name.ensures) in
    not_named c.args.name.now c.loop-kind.kind-index
    (ap (λ word. bytes_eq word c.args.name.now) name ∙ sym c.eq.ensures ∙ c.if-eq.false) c.loop-kind.invariant

pub returns : goal.returns
returns c = sym (named_by_none c.args.name.now (λ kind. c.loop-kind.invariant kind (omega (arith, number_below kind, c.loop-kind-test.false))))
