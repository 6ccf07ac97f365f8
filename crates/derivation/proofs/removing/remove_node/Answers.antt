use Rattle.{std.proofs.Common.{subst, sym}, derivation.{specs.Removing.{HasParents, parent_past, parent_without}, proofs.Removals.leaves}}
use Rattle.derivation.proofs.removing.remove_node.Goals as goal

pub returns : goal.returns
returns c =
    subst (λ m. HasParents c.args.state.now m (parent_without c.args.state.now c.args.slot)) (sym c.detach.ensures)
    (leaves c.args.state.now c.give_up.new.state c.args.slot
    (subst (λ above. HasParents c.args.state.now c.give_up.new.state (parent_past c.args.state.now c.args.slot above))
    c.parent-parent.ensures c.give_up.ensures))
