-- A copy of the same kind fills a slot that takes it.
use Rattle.{std.proofs.Common.{subst, sym}, machine.specs.{Machine.Machine, WellFormed.IsWellFormed}}
use Rattle.cnodeops.proofs.CopyLemmas.{derived_formed}
use Rattle.cnodeops.proofs.copies.derive.Goals as goal

pub returns-clause-well_formed : goal.returns-clause-well_formed
returns-clause-well_formed c alike typed root =
    subst (λ (m : Machine). IsWellFormed m) (sym c.add_copy.ensures)
    (derived_formed c.args.state.now c.args.ends c.args.detail c.requires.well_formed c.requires.there c.requires.vacant c.requires.filled
    alike typed root)
