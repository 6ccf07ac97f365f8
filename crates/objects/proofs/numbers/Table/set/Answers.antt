-- A write through `get_mut` edits the one place.
use Rattle.std.proofs.{Common.{arith, refl, sym}, lemmas.Bool.false≢true}
use Rattle.objects.proofs.{EditLemmas.{edited_past, edited_within}, numbers.Table.set.Goals.{in-Some, in_default}}
use Rattle.objects.proofs.numbers.Table.set.Goals as goal

pub returns : goal.returns
returns c =
    elim c.match-get_mut.branch [
      | in-Some w ↦
          rw (w.self-inside-is, ← c.self.view_is)
          (sym
          (edited_within (λ _. c.args.place) w.in-Some.item.now c.self.inside.items.items c.args.number
          (omega (arith, w.in-Some.ensures.variant.0 refl)) w.in-Some.ensures.value))
      | in_default w ↦
          rw (w.self-inside-is, ← c.self.view_is)
          (sym
          (edited_past _ c.self.inside.items.items c.args.number
          (λ within. false≢true (w.in_default.ensures.variant.1 (omega arith)))))
    ]
