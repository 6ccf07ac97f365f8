-- A walk ends with a hop that fails, with no bits left, or at a slot that shows no CNode; else it goes on.
use Rattle.std.proofs.{Common.{ℕ, ◌∙◌, ◌≡◌, Bool, List, Ok, Result, ap, arith, sym}, lemmas.Result.err_from_is_err_and}
use Rattle.{base.specs.declared.{ids.SlotRef.SlotRef, refusal.LookupFailure.LookupFailure}, machine.specs.Bits.bits}
use Rattle.cspace.{specs.Strings.level_shown, proofs.WalkLemmas.{walk-done, walk-err, walk-none, walk-some}}
use Rattle.cspace.proofs.walk.+walk.Goals as goal

pub returns-in_err-slot : goal.returns-in_err-slot
returns-in_err-slot t c = λ most h.
    let p = err_from_is_err_and c.from_residual.result c.from_residual.ensures.1 in
    rw (p.1, p.2)
    (sym
    (walk-err most c.args.state.now (level_shown c.args.level) (bits c.args.left c.args.address) c.in_err-slot.field-0.0
    (omega arith) (sym c.in_err-slot.ensures.value)))

pub returns-in-Some : goal.returns-in-Some
returns-in-Some t c = λ most h.
    walk-some most c.args.left c.in_ok-slot.rest c.args.address c.args.state.now (level_shown c.args.level)
    (level_shown c.in-Some.next) (bits c.args.left c.args.address) c.in_ok-slot.slot _
    h c.in_ok-slot.ensures.fewer (omega arith) (sym c.in_ok-slot.ensures.value) (sym c.in-Some.ensures) c.walk.ensures

-- no bits are left
pub returns-then-rest-eq0 : goal.returns-then-rest-eq0
returns-then-rest-eq0 t c = λ most h.
    let string = bits c.args.left c.args.address in
    let ends : ℕ → Result (SlotRef × List Bool) LookupFailure = λ rest. Ok (c.in_ok-slot.slot, bits rest c.args.address) in
    let none : c.in_ok-slot.rest ≡ 0 = omega arith in
    sym
    (walk-done most c.args.state.now (level_shown c.args.level) string c.in_ok-slot.slot (omega arith)
    (sym c.in_ok-slot.ensures.value ∙ ap ends none))

-- the slot shows no CNode
pub returns-in-None : goal.returns-in-None
returns-in-None t c = λ most h.
    sym
    (walk-none most c.args.state.now (level_shown c.args.level) (bits c.args.left c.args.address) c.in_ok-slot.slot
    (bits c.in_ok-slot.rest c.args.address) (omega arith) (sym c.in_ok-slot.ensures.value) (sym c.in-None.ensures))
