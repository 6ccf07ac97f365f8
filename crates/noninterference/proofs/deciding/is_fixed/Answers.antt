-- A system is fixed if no filled slot is loose, slot by slot.
use mathlib.Core.Bool.{false≢true}
use Rattle.std.proofs.{Common.{◌∙◌, ap, arith, below_more, length, refl, sym}, lemmas.Option.same_Some}
use Rattle.{machine.specs.declared.layout.Filled.Filled, table.proofs.Lookups.read_at}
use Rattle.noninterference.{specs.Loose.is_loose, proofs.LooseSlots.{loose_breaks, none_loose}}
use Rattle.noninterference.proofs.deciding.is_fixed.Goals as goal

pub returns-then-is_loose : goal.returns-then-is_loose
returns-then-is_loose c =
    let t = c.args.table.now in (
      λ is. absurd (false≢true is),
      λ fixed. absurd (loose_breaks t _ (sym c.is_loose.ensures ∙ c.if-is_loose.true) fixed),
    )

pub loop-filled-preserved : goal.loop-filled-preserved
loop-filled-preserved c =
    let t = c.args.table.now in
    let items = c.caps-filled-items in
    let n = c.loop-filled.filled-index in
    let at = read_at items.result.now t.caps n _ items.ensures.caps c.loop-filled-test.true in
    below_more _ _ c.loop-filled.invariant
    (λ filled here.
    ap (λ (f : Filled). is_loose t f.slot) (same_Some filled _ (sym here ∙ at)) ∙ sym c.is_loose.ensures ∙ c.if-is_loose.false)

pub returns : goal.returns
returns c =
    let t = c.args.table.now in
    let items = c.caps-filled-items in (
      λ is. none_loose t c.loop-filled.filled-index (omega (arith, ap length items.ensures.caps)) c.loop-filled.invariant,
      λ fixed. refl,
    )
