-- A change through `get_mut` edits the one slot.
use Rattle.std.proofs.{Common.{arith, refl, sym}, lemmas.Bool.false≢true}
use Rattle.objects.specs.declared.slots.Slot.{Slot}
use Rattle.objects.proofs.{EditLemmas.{edited_past, edited_within}, slots.Slots.set_previous.Goals.{in-Some, in_default}}
use Rattle.objects.proofs.slots.Slots.set_previous.Goals as goal

pub returns : goal.returns
returns c =
    elim c.match-get_mut.branch [
      | in-Some w ↦
          rw (w.self-inside-is, ← c.self.view_is)
          (sym
          (edited_within (λ (slot : Slot). record slot { links = record slot.links { previous = c.args.previous } })
          w.in-Some.slot.now c.self.inside.items.items c.args.index
          (omega (arith, w.in-Some.ensures.variant.0 refl)) w.in-Some.ensures.value))
      | in_default w ↦
          rw (w.self-inside-is, ← c.self.view_is)
          (sym
          (edited_past _ c.self.inside.items.items c.args.index
          (λ within. false≢true (w.in_default.ensures.variant.1 (omega arith)))))
    ]
