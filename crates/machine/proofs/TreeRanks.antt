-- Ranks that rise from parents to children: no slot descends from itself.
use Rattle.std.proofs.Common.{◌<◌, arith}
use Rattle.{base.specs.declared.ids.SlotRef.SlotRef, machine.specs.{Machine.Machine, Tree.IsRanked, WellFormed.{Descends, child, further}}}

module _ (m : Machine) (ranked : IsRanked m) where
  rank_rises : {slot above : SlotRef} → Descends m slot above → ranked.0 above < ranked.0 slot
  rank_rises (child {slot} {parent} is) = ranked.1 slot parent is
  rank_rises (further {slot} {parent} {above} is rest) =
      let step : ranked.0 parent < ranked.0 slot = ranked.1 slot parent is in
      let less : ranked.0 above < ranked.0 parent = rank_rises rest in omega arith

  pub ranked_acyclic : (slot : SlotRef) → ¬ (Descends m slot slot)
  ranked_acyclic slot descends = let less : ranked.0 slot < ranked.0 slot = rank_rises descends in omega arith
