-- A write through `get_mut` sets the one word; past the end there is none to set.
use Rattle.std.proofs.{Common.{arith, inl, inr, length, refl, sym}, lemmas.{Bool.{cases_lt, false≢true}, List.set_past}}
use Rattle.objects.proofs.words.Words.set.Goals.{in-Some, in_default}
use Rattle.objects.proofs.words.Words.set.Goals as goal

pub returns : goal.returns
returns c =
    elim c.match-get_mut.branch [
      | in-Some w ↦ rw (w.self-inside-is, ← c.self.view_is) refl
      | in_default w ↦
          rw (w.self-inside-is, ← c.self.view_is)
          (sym
          (set_past c.self.inside.items.items c.args.index c.args.word
          (elim (cases_lt c.args.index (length c.self.inside.items.items)) [
            | inl within ↦ absurd (false≢true (w.in_default.ensures.variant.1 (omega arith)))
            | inr past ↦ past
          ])))
    ]
