-- The slot is the walk's end, if no bits are left there.
use Rattle.std.proofs.Common.{ℕ, ◌∙◌, ◌≡◌, Ok, ap, arith, sym}
use Rattle.{base.specs.declared.ids.SlotRef.SlotRef, machine.specs.{Bits.bits, Lookup.{counted, walk}}}
use Rattle.cspace.{specs.Strings.level_shown, proofs.{RootLemmas.{counted-shown, failed-cases}, TargetLemmas.{below-ends, deep}}}
use Rattle.cspace.proofs.target.target_below.Goals as goal

pub returns : goal.returns
returns c =
    let m = c.args.state.now in
    let index = c.args.index in
    let depth = c.args.depth in
    let level = level_shown c.args.level.now in
    let place : SlotRef × ℕ = (c.in_ok-slot.slot, c.in_ok-slot.left) in
    let ends : counted (walk 65 m level (bits depth index)) ≡ Ok place =
    ap counted (sym (c.walk.ensures 65 (omega arith))) ∙ counted-shown index c.walk.result
    ∙ sym (failed-cases c.walk.result c.map_err.result c.map_err.ensures.cases) ∙ c.in_ok-slot.was {u = tt} in
    c.exactly.ensures
    ∙ sym
    (below-ends m index depth level place (deep depth (omega arith) (omega arith)) ends)
