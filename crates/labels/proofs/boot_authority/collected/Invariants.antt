use Rattle.std.proofs.Common.{ℕ, ◌++◌, ◌≡◌, flat_map, take}
use Rattle.{base.specs.declared.kind.Kind.Kind, policy.specs.Policy.allows, labels.specs.TableEdges.{edges_of_binding, edges_of_filled}}
use Rattle.labels.proofs.boot_authority.collected.Given as goal

-- the edges so far are found

abbrev pub invariant-loop-filled : goal.invariant-loop-filled
invariant-loop-filled l =
    (from : ℕ) (kind : Kind) (to : ℕ) → allows l.found from kind to
    ≡ allows (flat_map (edges_of_filled l.table) (take l.filled-index l.table.caps)) from kind to

abbrev pub invariant-loop-binding : goal.invariant-loop-binding
invariant-loop-binding l =
    (from : ℕ) (kind : Kind) (to : ℕ) → allows l.found from kind to
    ≡ allows
    (flat_map (edges_of_filled l.table) l.table.caps ++ flat_map (edges_of_binding l.table) (take l.binding-index l.table.bindings))
    from kind to
