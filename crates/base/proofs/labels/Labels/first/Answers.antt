use Rattle.std.{specs.Prelude.IfSome, proofs.Common.{ℕ, ◌*◌, ◌+◌, ◌<◌, ◌≡◌, None, Option, Some, arith, false, refl, subst, sym, true}}
use Rattle.base.{specs.Labels.is_in, proofs.LabelParts.{least_in_part, none_at_all, none_in_part}}
use Rattle.base.proofs.labels.Labels.first.Goals as goal

-- what holds of a number holds of a label that has it
of_number : (P : ℕ → Type 0) (number : ℕ) (found : Option ℕ) → IfSome found (λ label. label ≡ number) → P number → IfSome found P
of_number P number None is holds = tt
of_number P number (Some label) is holds = subst P (sym is) holds

pub returns-in-Some-clause-some : goal.returns-in-Some-clause-some
returns-in-Some-clause-some c =
    let parts = c.args.self.parts in
    let k = c.loop-index.index in
    let part = c.in-Some.ensures.some in
    of_number (λ least. (is_in c.args.self least ≡ true) × ((label : ℕ) → label < least → is_in c.args.self label ≡ false)) _ c.new.result
    c.new.ensures.value
    (subst (λ n. (is_in c.args.self (k * 64 + n) ≡ true) × ((label : ℕ) → label < k * 64 + n → is_in c.args.self label ≡ false)) (sym c.from.ensures)
    (least_in_part parts _ k c.in-Some.number refl part.0 part.1 part.2 c.loop-index.invariant))

pub loop-index-preserved : goal.loop-index-preserved
loop-index-preserved c = none_in_part c.args.self.parts _ c.loop-index.index refl c.in_default.ensures.none c.loop-index.invariant

pub returns-clause-none : goal.returns-clause-none
returns-clause-none c = none_at_all c.args.self.parts (omega arith) c.loop-index.index c.loop-index-test.false c.loop-index.invariant
