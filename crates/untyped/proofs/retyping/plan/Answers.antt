-- That a call that met each condition in a well-formed machine can be made.
use Rattle.std.proofs.Common.{◌∙◌, ap, refl, subst, sym}
use Rattle.machine.specs.{declared.object.Object.Object, Memory.Source, Step.Retype.within_limits}
use Rattle.{cspace.specs.Strings.level_shown, untyped.{specs.Shown.source_shown, proofs.Planned.{IsBegun, begins, can_be_made}}}
use Rattle.untyped.proofs.retyping.plan.Goals as goal

pub roomy-requires-clause-bits : goal.roomy-requires-clause-bits
roomy-requires-clause-bits c =
    let a = c.args in
    let found = source_shown c.in_ok-source.source in
    (subst (λ (s : Source). IsBegun found s) (sym c.begun-source.ensures)
    (begins a.state.now a.caller a.untyped found c.requires (sym (c.in_ok-source.ensures {u = tt})))).bits

pub roomy-requires-clause-ends : goal.roomy-requires-clause-ends
roomy-requires-clause-ends c =
    let a = c.args in
    let found = source_shown c.in_ok-source.source in
    (subst (λ (s : Source). IsBegun found s) (sym c.begun-source.ensures)
    (begins a.state.now a.caller a.untyped found c.requires (sym (c.in_ok-source.ensures {u = tt})))).ends

pub roomy-requires-clause-mark : goal.roomy-requires-clause-mark
roomy-requires-clause-mark c =
    let a = c.args in
    let found = source_shown c.in_ok-source.source in
    (subst (λ (s : Source). IsBegun found s) (sym c.begun-source.ensures)
    (begins a.state.now a.caller a.untyped found c.requires (sym (c.in_ok-source.ensures {u = tt})))).mark

pub returns-clause-ready : goal.returns-clause-ready
returns-clause-ready c =
    let a = c.args in
    let limits =
    c.in_ok-within_limits.ensures {u = tt}
    ∙ ap (λ (object : Object). within_limits a.state.now object a.count) c.new_object.ensures
    in
    let node = c.in_ok-in_node.ensures {u = tt} in
    can_be_made a.state.now a.caller a.untyped a.to (source_shown c.in_ok-source.source) (level_shown c.in_ok-level.level) _
    c.requires (sym (c.in_ok-source.ensures {u = tt})) (sym (c.in_ok-sized.ensures {u = tt}))
    (sym (c.in_ok-a_few.ensures {u = tt})) (sym (c.in_ok-level.ensures {u = tt})) refl (sym node.value) node.within
    (sym (c.in_ok-all_vacant.ensures {u = tt})) c.begun-source.ensures (sym limits)
