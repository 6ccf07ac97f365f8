use Rattle.{machine.specs.Below.is_below, removal.proofs.Finds.{below_found, formed_filled}}
use Rattle.removal.proofs.removing.remove_below.Goals as goal

pub empty_all_below-requires : goal.empty_all_below-requires
empty_all_below-requires c = formed_filled c.args.state.now c.requires

pub sweep-requires : goal.sweep-requires
sweep-requires c =
    let e = c.empty_all_below.ensures in (
      c.args.state.now,
      is_below c.args.state.now c.args.above,
      below_found c.args.state.now c.args.above c.empty_all_below.new.state c.requires e.emptied e.going e.parents,
    )

pub returns : goal.returns
returns c =
    let e = c.empty_all_below.ensures in
    c.sweep.ensures c.args.state.now (is_below c.args.state.now c.args.above)
    (below_found c.args.state.now c.args.above c.empty_all_below.new.state c.requires e.emptied e.going e.parents)
