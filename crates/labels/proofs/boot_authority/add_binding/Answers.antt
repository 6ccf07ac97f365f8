use Rattle.std.proofs.Common.{◌∙◌, ap, option_to_list, sym}
use Rattle.labels.{specs.TableEdges.edges_of_binding, proofs.EdgeLists.{none_added, one_added}}
use Rattle.labels.proofs.boot_authority.add_binding.Goals as goal

pub returns-in_ok-add-clause-ok : goal.returns-in_ok-add-clause-ok
returns-in_ok-add-clause-ok c = λ from kind to.
    one_added (edges_of_binding c.args.table.now c.args.binding.now) c.args.found.now c.add.new.self c.in-Some.edge from kind to
    (sym (ap option_to_list c.in-Some.is) ∙ c.edge_between.ensures) (c.in_ok-add.ensures.added from kind to)

pub returns-in_default-clause-ok : goal.returns-in_default-clause-ok
returns-in_default-clause-ok c = λ from kind to.
    none_added (edges_of_binding c.args.table.now c.args.binding.now) c.args.found.now from kind to
    (sym (ap option_to_list c.in_default.is) ∙ c.edge_between.ensures)
