-- That the new object's extent takes its place among the others, none of which it meets.
use Rattle.std.{specs.List.list_any, proofs.{Common.{◌∙◌, ◌≡◌, Bool, ap, arith, false, not, true}, lemmas.Bool.false≢true}}
use Rattle.std.proofs.lemmas.Grind.{common_steps}
use Rattle.table.{specs.{Inventory.Inventory, Placement.{meets, touches}}, proofs.ExtentLemmas.{extents_with, meets_any-extents}}
use Rattle.table.proofs.objects.Objects.add.Goals as goal

unmet : (met : Bool) → not met ≡ true → met ≡ false
unmet true free = absurd (false≢true free)
unmet false free = ap not free

pub insert_within-requires-clause-free : goal.insert_within-requires-clause-free
insert_within-requires-clause-free c =
    let met =
    meets_any-extents c.of.result c.args.initial.object c.self.inside.extents.items c.self.inside.items.items
    c.self.invariant.extents c.of.ensures.start c.of.ensures.end in
    let objects =
    ap (λ (v : Inventory). list_any (λ initial. meets initial.object c.args.initial.object) v.objects) c.self.view_is in
    ap (list_any (λ other. touches other c.of.result)) c.in_ok-reserve-2.ensures.items ∙ met ∙ objects ∙ unmet _ c.requires.free

pub invariant_of-self-in-Tcb : goal.invariant_of-self-in-Tcb
invariant_of-self-in-Tcb c = record {
  named = grind (arith, common_steps);
  extents = extents_with c.args.initial c.of.result c.self.inside.items.items c.self.inside.extents.items
      c.self.invariant.extents c.of.ensures.start c.of.ensures.end (grind (arith, common_steps)) _ _ c.in_ok-reserve-2.ensures.items
      c.insert_within.ensures.items _ _ c.in_ok-reserve.ensures.items c.push_within.ensures;
  apart = c.insert_within.ensures.apart;
  slots = grind (arith, common_steps);
  threads = grind (arith, common_steps);
}

pub invariant_of-self-in_default : goal.invariant_of-self-in_default
invariant_of-self-in_default c = record {
  named = grind (arith, common_steps);
  extents = extents_with c.args.initial c.of.result c.self.inside.items.items c.self.inside.extents.items
      c.self.invariant.extents c.of.ensures.start c.of.ensures.end (grind (arith, common_steps)) _ _ c.in_ok-reserve-2.ensures.items
      c.insert_within.ensures.items _ _ c.in_ok-reserve.ensures.items c.push_within.ensures;
  apart = c.insert_within.ensures.apart;
  slots = grind (arith, common_steps);
  threads = grind (arith, common_steps);
}
