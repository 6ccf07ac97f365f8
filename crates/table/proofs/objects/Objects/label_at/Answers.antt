-- That the untyped memory that holds an address is the one whose extent holds it.
use Rattle.std.{specs.{List.{find, slice_get}, Option.option_map}, proofs.Common.{ℕ, ◌∙◌, ◌≡◌, IsPermutation, None, Option, Some, ap}}
use Rattle.std.proofs.{Common.{subst, sym}, lemmas.Option.{slice_get-get_or, slice_get_past}}
use Rattle.machine.specs.{declared.layout.Initial.Initial, Authority.has_memory_at}
use Rattle.table.{specs.Inventory.{Inventory, extents_from}, proofs.ExtentLemmas.{has_it, is_numbered, lacks_it, memory_nowhere}}
use Rattle.table.proofs.ExtentLemmas.{memory_there, no_memory_there}
use Rattle.table.proofs.objects.Objects.label_at.Goals as goal

label : Initial → ℕ
label initial = initial.label

labelled : ℕ → Inventory → Option ℕ
labelled address v = option_map label (find (has_memory_at address) v.objects)

pub returns-in_err-extent : goal.returns-in_err-extent
unfolding labelled label
returns-in_err-extent c =
    let nowhere =
    memory_nowhere c.args.address c.self.inside.items.items c.as_slice.result.now
    (subst (λ extents. IsPermutation (extents_from 0 c.self.inside.items.items) extents) (sym c.as_slice.ensures.value)
    c.self.invariant.extents)
    c.holder.result c.holder.ensures.alone c.in_err-extent.was in
    c.from_residual.ensures ∙ sym (ap (labelled c.args.address) (sym c.self.view_is) ∙ ap (option_map label) nowhere)

pub returns-in_err-initial : goal.returns-in_err-initial
returns-in_err-initial c =
    let at : slice_get c.self.inside.items.items c.in_ok-extent.extent.number ≡ None =
    subst (λ items. slice_get items c.in_ok-extent.extent.number ≡ None) c.deref.ensures.value
    (slice_get_past c.deref.result.now c.in_ok-extent.extent.number c.in_err-initial.ensures.lookup.3) in
    absurd
    (is_numbered c.args.address c.self.inside.items.items c.as_slice.result.now
    (subst (λ extents. IsPermutation (extents_from 0 c.self.inside.items.items) extents) (sym c.as_slice.ensures.value)
    c.self.invariant.extents)
    c.holder.result c.holder.ensures.alone
    c.in_ok-extent.extent c.in_ok-extent.was c.in_ok-extent.ensures.found.0 at)

pub returns-in-Untyped : goal.returns-in-Untyped
unfolding labelled label
returns-in-Untyped c =
    let at : slice_get c.self.inside.items.items c.in_ok-extent.extent.number ≡ Some c.in_ok-initial.initial.now =
    subst (λ items. slice_get items c.in_ok-extent.extent.number ≡ Some c.in_ok-initial.initial.now) c.deref.ensures.value
    (slice_get-get_or c.deref.result.now c.in_ok-extent.extent.number c.in_ok-initial.initial.now
    c.in_ok-initial.ensures.lookup.3.0
    ∙ ap (λ initial. Some initial) (sym c.in_ok-initial.ensures.lookup.1)) in
    let has =
    has_it c.args.address c.self.inside.items.items c.as_slice.result.now
    (subst (λ extents. IsPermutation (extents_from 0 c.self.inside.items.items) extents) (sym c.as_slice.ensures.value)
    c.self.invariant.extents)
    c.holder.result c.holder.ensures.alone
    c.in_ok-extent.extent c.in_ok-extent.was c.in_ok-extent.ensures.found.0 c.in_ok-initial.initial.now at c.in-Untyped.field-0 c.in-Untyped.is
    c.in_ok-extent.ensures.found.1 in
    let there =
    memory_there c.args.address c.self.inside.items.items c.as_slice.result.now
    (subst (λ extents. IsPermutation (extents_from 0 c.self.inside.items.items) extents) (sym c.as_slice.ensures.value)
    c.self.invariant.extents)
    c.holder.result c.holder.ensures.alone
    c.in_ok-extent.extent c.in_ok-extent.was c.in_ok-extent.ensures.found.0 c.in_ok-initial.initial.now at has in
    ap (option_map label) (sym there) ∙ ap (labelled c.args.address) c.self.view_is

pub returns-in_default : goal.returns-in_default
unfolding labelled label
returns-in_default c =
    let at : slice_get c.self.inside.items.items c.in_ok-extent.extent.number ≡ Some c.in_ok-initial.initial.now =
    subst (λ items. slice_get items c.in_ok-extent.extent.number ≡ Some c.in_ok-initial.initial.now) c.deref.ensures.value
    (slice_get-get_or c.deref.result.now c.in_ok-extent.extent.number c.in_ok-initial.initial.now
    c.in_ok-initial.ensures.lookup.3.0
    ∙ ap (λ initial. Some initial) (sym c.in_ok-initial.ensures.lookup.1)) in
    let lacks =
    lacks_it c.args.address c.self.inside.items.items c.as_slice.result.now
    (subst (λ extents. IsPermutation (extents_from 0 c.self.inside.items.items) extents) (sym c.as_slice.ensures.value)
    c.self.invariant.extents)
    c.holder.result c.holder.ensures.alone
    c.in_ok-extent.extent c.in_ok-extent.was c.in_ok-extent.ensures.found.0 c.in_ok-initial.initial.now at c.in_default.not-Untyped in
    let nowhere =
    no_memory_there c.args.address c.self.inside.items.items c.as_slice.result.now
    (subst (λ extents. IsPermutation (extents_from 0 c.self.inside.items.items) extents) (sym c.as_slice.ensures.value)
    c.self.invariant.extents)
    c.holder.result c.holder.ensures.alone
    c.in_ok-extent.extent c.in_ok-extent.was c.in_ok-extent.ensures.found.0 c.in_ok-initial.initial.now at lacks in
    ap (option_map label) (sym nowhere) ∙ ap (labelled c.args.address) c.self.view_is
