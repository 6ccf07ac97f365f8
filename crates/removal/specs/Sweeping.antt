-- A removal in which all that goes has been found: its slots are empty, and the chosen ones have left the derivation tree (seL4
-- manual, "Deletion, Revocation, and Recycling"; in this order it is confine's own).
use Rattle.std.specs.Prelude.{◌≡◌, Bool, true}
use Rattle.{base.specs.declared.ids.SlotRef.SlotRef, machine.specs.{Gone.gone_of, Machine.Machine, Tree.IsAlone, WellFormed.IsWellFormed}}
use Rattle.{derivation.specs.Thinning.IsThinned, removal.specs.UnderWay.{AreEmptied, AreGoing}}

-- each slot that goes with the chosen ones has been emptied, from a well-formed machine on; the chosen ones are in no pair of the tree, in
-- which each slot that stays has the nearest ancestor that stays which it had
pub record IsSwept (m : Machine) (chosen : SlotRef → Bool) (now : Machine) : Type 0 where
  pub formed : IsWellFormed m
  pub emptied : AreEmptied m chosen now
  pub going : AreGoing now
  pub thinned : IsThinned m (gone_of m chosen) now
  pub alone : (slot : SlotRef) → chosen slot ≡ true → IsAlone now slot
