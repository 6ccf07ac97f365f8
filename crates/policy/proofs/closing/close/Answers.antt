use Rattle.std.proofs.Common.{◌++◌, ◌∙◌}
use Rattle.policy.proofs.ClosingGrowth.{both_added, least_of_same}
use Rattle.policy.proofs.closing.close.Goals as goal

pub returns : goal.returns
returns c =
    let old = c.args.policy.now in
    let edges = c.args.edges.now in
    let second = c.extend-2.new.self in
    least_of_same (old ++ edges) second c.settle.new.policy
    (both_added old edges c.deref.result.now c.new-closed.result c.extend.new.self second (c.deref.ensures.value ∙ c.in_ok-edges.ensures) c.new-closed.ensures
    c.in_ok-extend.ensures c.in_ok-extend-2.ensures)
    c.in_ok-settle.ensures
