use Rattle.std.proofs.Common.{◌∙◌, ap, lit≤, sym}
use Rattle.policy.{specs.{Policy.last_edge, Rows.edges_of_rows}, proofs.RowEdges.{no_bits, no_rows}}
use Rattle.policy.proofs.policy.Policy.new.Goals as goal

pub invariant_of-result : goal.invariant_of-result
invariant_of-result c =
    rw c.new.ensures.items (record { count = lit≤ tt; few = lit≤ tt; labels = no_bits; greatest = sym (ap last_edge no_rows) })

pub returns : goal.returns
returns c = ap edges_of_rows c.new.ensures.items ∙ no_rows
