use Rattle.std.proofs.Common.{◌++◌, ◌∙◌, ◌≡◌, List, ap, filter, map}
use Rattle.{machine.specs.declared.layout.{Binding.Binding, Filled.Filled, Pair.Pair}, table.specs.Rules.kind_at}
use Rattle.certificate.specs.Right.{cap_line, cap_lines, derive_line, is_cnode, is_thread}
use Rattle.certificate.{specs.Right.{runs_line, space_line, space_lines}, proofs.RightLines.sections}
use Rattle.certificate.proofs.making.right_lines.Goals as goal

-- one section after another is added
pub returns : goal.returns
returns c =
    let t = c.args.table.now in
    let caps : c.add_caps.new.lines.items ≡ cap_lines t =
    c.in_ok-add_caps.ensures
    ∙ (λ i. c.new-lines.ensures.items i
    ++ map (cap_line t) (filter (λ (filled : Filled). is_cnode (kind_at t filled.slot.holder)) (c.caps.ensures.caps i))) in
    let spaces : c.add_spaces.new.lines.items ≡ c.add_caps.new.lines.items ++ space_lines t =
    c.in_ok-add_spaces.ensures
    ∙ ap (λ (all : List Filled). c.add_caps.new.lines.items
    ++ map (space_line t) (filter (λ (filled : Filled). is_thread (kind_at t filled.slot.holder)) all)) c.caps-2.ensures.caps in
    let pairs : c.add_pairs.new.lines.items ≡ c.add_spaces.new.lines.items ++ map (derive_line t) t.pairs =
    c.in_ok-add_pairs.ensures
    ∙ ap (λ (all : List Pair). c.add_spaces.new.lines.items ++ map (derive_line t) all) c.pairs.ensures.pairs in
    let bindings : c.add_bindings.new.lines.items ≡ c.add_pairs.new.lines.items ++ map (runs_line t) t.bindings =
    c.in_ok-add_bindings.ensures
    ∙ ap (λ (all : List Binding). c.add_pairs.new.lines.items ++ map (runs_line t) all) c.bindings.ensures.bindings in
    sections t _ _ _ _ caps spaces pairs bindings
