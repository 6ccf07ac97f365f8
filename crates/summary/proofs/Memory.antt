-- Labels of frames have memory in the table: a frame is an initial one, or was made of initial untyped memory of its label.
use Rattle.std.{specs.List.{find, slice_get}, proofs.Common.{ℕ, ◌&&◌, ◌==◌, ◌∙◌, ◌≡◌, Bool, None, Option, Some, ap, false, if◌then◌else◌}}
use Rattle.std.proofs.{Common.{length, nat_lt, option_and_then, option_map, refl, sym, true}, lemmas.{Bool.eq-eqb, List.Folds.list_any_at}}
use Rattle.{std.proofs.lemmas.Option.{get_or_from_slice_get, none-some, same_Some, slice_get_within}, base.specs.declared.ids.ObjId.ObjId}
use Rattle.machine.specs.declared.{call.Call.{Call, Call as call}, layout.Initial.Initial, object.Object.{Object, Object as o}}
use Rattle.machine.specs.{Authority.{has_memory_at, label_at, label_of}, Capabilities.kind_of_detail, Layout.{Layout, declared_label}}
use Rattle.machine.specs.{Layout.initial_of, Machine.{Machine, object_of}, Objects.{address_of, kind_of_object}, WellFormed.kind_of}
use Rattle.{steps.proofs.Finding.{as_kind, finds, found_kind}, table.proofs.Lookups.found_at, policy.specs.Domain.EdgeTest}
use Rattle.integrity.{specs.{Invariant.IsSound, OfTable.IsOfTable, Safe.IsReached}, proofs.ObjectLabels.kind_there}
use Rattle.summary.specs.{Labelled.{has_memory, is_memory}, Reading.{IsUsed, Use, use_of}}
use Rattle.base.specs.declared.kind.Kind.TheVariants as authority
use Rattle.machine.specs.declared.object.ObjectKind.TheVariants as kind

-- frames and untyped memory are memory

frame_is : (object : Object) → kind_of_object object ≡ kind.Frame → is_memory object ≡ true
frame_is (o.Frame _) is = refl
frame_is (o.Untyped _) is = refl
frame_is _ is = cc

untyped_is : (initial : Initial) (address : ℕ) → has_memory_at address initial ≡ true → is_memory initial.object ≡ true
untyped_is initial address has = by initial.object refl where
  by : (object : Object) → initial.object ≡ object → is_memory object ≡ true
  by (o.Untyped memory) is = refl
  by _ is = let seen : has_memory_at address initial ≡ false = rw is refl in cc

-- the initial object that a label comes from
some_label :
    (found : Option Initial) (label : ℕ) → option_map (λ (i : Initial). i.label) found ≡ Some label
    → (initial : Initial) × (found ≡ Some initial) × (initial.label ≡ label)
some_label None label e = absurd (none-some label e)
some_label (Some initial) label e = (initial, refl, same_Some initial.label label e)

-- an initial object that is memory
has_at :
    (t : Layout) (label at : ℕ) (initial : Initial) → slice_get t.objects at ≡ Some initial → initial.label ≡ label
    → is_memory initial.object ≡ true → has_memory t label ≡ true
has_at t label at initial here labelled is =
    let p = λ (i : Initial). is_memory i.object && (label == i.label) in
    let passes : p initial ≡ true = rw is (eq-eqb label initial.label (sym labelled)) in
    list_any_at p t.objects at initial (slice_get_within t.objects at initial here)
    (ap p (get_or_from_slice_get t.objects at initial initial here) ∙ passes)

-- a present frame's label has memory
pub frame_has_memory :
    (t : Layout) (m : Machine) → IsOfTable t m → (id : ObjId) (object : Object) → object_of m id ≡ Some object
    → kind_of_object object ≡ kind.Frame → (label : ℕ) → label_of t m id ≡ Some label → has_memory t label ≡ true
unfolding label_of declared_label label_at initial_of
frame_has_memory t m of_table id object there frame label labelled =
    by (nat_lt id.0 (length t.objects))
    (sym
    (ap (option_and_then (λ (x : Object). if nat_lt id.0 (length t.objects) then declared_label t id else label_at t (address_of x)))
    there)
    ∙ labelled)
  where
    by : (initial : Bool) → (if initial then declared_label t id else label_at t (address_of object)) ≡ Some label → has_memory t label ≡ true
    by true e =
        let found = some_label (initial_of t id) label e in
        has_at t label id.0 found.0 found.1 found.2
        (frame_is (found.0).object (sym (of_table.initial id object found.0 there found.1).0 ∙ frame))
    by false e =
        let found = some_label (find (has_memory_at (address_of object)) t.objects) label e in
        let at = found_at (has_memory_at (address_of object)) t.objects found.0 found.1 in
        has_at t label at.at found.0 at.here found.2 (untyped_is found.0 (address_of object) at.passes)

-- the object that a call writes is a frame
writes_frame : (c : Call) (usage : Use) → use_of c ≡ Some usage → usage.authority ≡ authority.Write → usage.object ≡ kind.Frame
writes_frame (call.Read address index) usage is so = ap (λ (u : Use). u.object) (sym (same_Some _ usage is))
writes_frame (call.Write address index word) usage is so = ap (λ (u : Use). u.object) (sym (same_Some _ usage is))
writes_frame (call.Poll address) usage is so =
    let other : authority.Await ≡ authority.Write = ap (λ (u : Use). u.authority) (same_Some _ usage is) ∙ so in cc
writes_frame (call.Wait address) usage is so =
    let other : authority.Await ≡ authority.Write = ap (λ (u : Use). u.authority) (same_Some _ usage is) ∙ so in cc
writes_frame (call.Receive address reply slot) usage is so =
    let other : authority.Receive ≡ authority.Write = ap (λ (u : Use). u.authority) (same_Some _ usage is) ∙ so in cc
writes_frame _ usage is so = absurd (none-some usage is)

-- a label of which threads write a frame has memory
pub written_has_memory :
    (t : Layout) (allowed : EdgeTest) → ((m : Machine) → IsReached t m → IsSound t allowed m) → (a region : ℕ)
    → IsUsed t a authority.Write region → has_memory t region ≡ true
written_has_memory t allowed sound a region used =
    let m = used.before in
    let here = sound m used.reached in
    let usage = used.uses.usage in
    let frame = writes_frame used.event.call usage used.uses.uses used.uses.so in
    let found = finds usage.object m used.event.thread usage.address (used.uses.slot, used.uses.held) used.uses.finds in
    let is : kind_of m used.id ≡ Some kind.Frame =
    ap (kind_of m) (sym used.uses.object) ∙ found_kind here.well_formed found ∙ ap (λ k. Some (kind_of_detail (as_kind k used.uses.held.detail))) frame in
    let there = kind_there m used.id kind.Frame is in
    let frame_there : kind_of_object there.0 ≡ kind.Frame =
    same_Some (kind_of_object there.0) kind.Frame (sym (ap (option_map kind_of_object) there.1) ∙ is) in
    frame_has_memory t m here.of_table used.id there.0 there.1 frame_there region used.labelled
