use Rattle.{std.proofs.Common.{subst, sym}, machine.specs.{Machine.{Machine, same_slot}, WellFormed.IsWellFormed}}
use Rattle.removal.proofs.Finds.{formed_filled, one_found}
use Rattle.removal.proofs.removing.remove.Goals as goal

pub empty_all_with-requires : goal.empty_all_with-requires
empty_all_with-requires c = formed_filled c.args.state.now c.requires

pub sweep-requires : goal.sweep-requires
sweep-requires c =
    let e = c.empty_all_with.ensures in (
      c.args.state.now,
      same_slot c.args.slot,
      one_found c.args.state.now c.args.slot c.empty_all_with.new.state c.requires e.emptied e.going e.parents,
    )

pub returns-clause-changes : goal.returns-clause-changes
returns-clause-changes c =
    let e = c.empty_all_with.ensures in
    c.sweep.ensures c.args.state.now (same_slot c.args.slot)
    (one_found c.args.state.now c.args.slot c.empty_all_with.new.state c.requires e.emptied e.going e.parents)

pub returns-clause-well_formed : goal.returns-clause-well_formed
returns-clause-well_formed c =
    subst (λ (m : Machine). IsWellFormed m) (sym (returns-clause-changes c))
    (c.removals_keep_machines_well_formed.ensures c.args.state.now (same_slot c.args.slot) c.requires)
