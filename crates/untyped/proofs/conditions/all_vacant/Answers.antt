-- That the first filled slot refuses, and that empty ones leave the decision to the others.
use Rattle.std.{specs.Prelude.{None, Some}, proofs.Common.{ℕ, ◌+◌, ◌-◌, ◌∙◌, ◌≡◌, Err, arith, refl, suc, sym, zero}}
use Rattle.base.specs.declared.{ids.ObjId.ObjId, refusal.Cause.TheVariants.DeleteFirst}
use Rattle.machine.specs.{declared.cap.Cap.Cap, Machine.{Machine, cap_of}, Step.Retype.{all_vacant, window}}
use Rattle.untyped.proofs.conditions.all_vacant.Goals as goal

first_filled :
    (m : Machine) (node : ObjId) (index left : ℕ) (held : Cap) → cap_of m (record { holder = node; index = index }) ≡ Some held
    → all_vacant m (window node index (suc left)) ≡ Err DeleteFirst
first_filled m node index left held is = rw is refl

first_vacant :
    (m : Machine) (node : ObjId) (index left : ℕ) → cap_of m (record { holder = node; index = index }) ≡ None
    → all_vacant m (window node index (suc left)) ≡ all_vacant m (window node (index + 1) left)
first_vacant m node index left is = rw is refl

pub returns-in-Some : goal.returns-in-Some
returns-in-Some c =
    let a = c.args in
    let index = c.loop-index.index in
    let left = a.offset + a.count - (index + 1) in
    let within = c.loop-index-test.true in
    sym (first_filled a.state.now a.node index left c.in-Some.field-0 (sym c.cap.ensures ∙ c.in-Some.is))
    ∙ c.loop-index.invariant (suc left) (omega (arith, within))

pub loop-index-preserved : goal.loop-index-preserved
loop-index-preserved c =
    let a = c.args in
    let index = c.loop-index.index in
    λ left at.
    sym (first_vacant a.state.now a.node index left (sym c.cap.ensures ∙ c.in_default.is))
    ∙ c.loop-index.invariant (suc left) (omega (arith, at))

pub returns : goal.returns
returns c =
    let past = c.loop-index-test.false in
    let most = c.loop-index.auto.index-end in
    let first = c.loop-index.auto.index in
    c.loop-index.invariant zero (omega (arith, past, most, first))
