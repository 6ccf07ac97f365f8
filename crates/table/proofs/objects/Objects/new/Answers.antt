use Rattle.{std.proofs.{Common.arith, lemmas.Grind.common_steps}, table.proofs.ExtentLemmas.{no_extents, none_apart}}
use Rattle.table.proofs.objects.Objects.new.Goals as goal

pub invariant_of-result : goal.invariant_of-result
invariant_of-result c = record {
  named = grind (arith, common_steps);
  extents = no_extents _ _ c.new-2.ensures.items c.new-3.ensures.items;
  apart = none_apart _ c.new-3.ensures.items;
  slots = grind (arith, common_steps);
  threads = grind (arith, common_steps);
}
