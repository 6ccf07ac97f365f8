use Rattle.std.{specs.List.{list_any, Sorted.IsPermutation}, proofs.Common.{◌∙◌, ap, not, subst, sym}}
use Rattle.table.{specs.{Inventory.{Inventory, extents_from}, Placement.meets}, proofs.ExtentLemmas.meets_any-extents}
use Rattle.table.proofs.objects.Objects.is_free.Goals as goal

pub meets_any-requires : goal.meets_any-requires
meets_any-requires c = rw c.as_slice.ensures.value c.self.invariant.apart

pub returns : goal.returns
returns c =
    let extents =
    subst (λ extents. IsPermutation (extents_from 0 c.self.inside.items.items) extents)
    (sym c.as_slice.ensures.value) c.self.invariant.extents in
    let met =
    meets_any-extents c.of.result c.args.object.now c.as_slice.result.now c.self.inside.items.items extents c.of.ensures.start
    c.of.ensures.end in
    ap not
    (c.meets_any.ensures ∙ met
    ∙ ap (λ (v : Inventory). list_any (λ initial. meets initial.object c.args.object.now) v.objects) c.self.view_is)
