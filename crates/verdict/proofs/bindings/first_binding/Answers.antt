-- That the loop finds the first binding that breaks A4.
use Rattle.{std.proofs.Common.{ap, arith, length}, table.proofs.Lookups.{bound_from, read_at}}
use Rattle.{policy.{specs.Policy.allows, proofs.Places.{least_here, none_at_all, none_more}}, verdict.proofs.BindingPlaces.bindings}
use Rattle.verdict.proofs.bindings.first_binding.Goals as goal

pub binding_excess-requires : goal.binding_excess-requires
binding_excess-requires c =
    bound_from c.args.table.now c.bindings-binding-items.ensures.lawful c.loop-binding.binding-index _
    (read_at _ _ _ _ c.bindings-binding-items.ensures.bindings c.loop-binding-test.true)

pub returns-in-Some : goal.returns-in-Some
returns-in-Some c =
    let t = c.args.table.now in
    let items = c.bindings-binding-items in
    least_here (bindings t (allows c.args.policy.now) items.ensures.lawful) c.loop-binding.binding-index _
    (read_at items.result.now t.bindings c.loop-binding.binding-index _ items.ensures.bindings c.loop-binding-test.true)
    c.loop-binding.invariant _ c.in-Some.ensures

pub loop-binding-preserved : goal.loop-binding-preserved
loop-binding-preserved c =
    let t = c.args.table.now in
    let items = c.bindings-binding-items in
    none_more (bindings t (allows c.args.policy.now) items.ensures.lawful) c.loop-binding.binding-index _
    (read_at items.result.now t.bindings c.loop-binding.binding-index _ items.ensures.bindings c.loop-binding-test.true)
    c.loop-binding.invariant c.in_default.ensures

pub returns : goal.returns
returns c =
    let items = c.bindings-binding-items in
    none_at_all (bindings c.args.table.now (allows c.args.policy.now) items.ensures.lawful) c.loop-binding.binding-index
    (omega (arith, ap length items.ensures.bindings)) c.loop-binding.invariant
