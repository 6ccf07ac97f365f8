-- Objects in the range of untyped memory have the label of that memory.
use Rattle.std.proofs.Common.{ℕ, ◌+◌, ◌<◌, ◌∙◌, ◌≡◌, ◌≢◌, ◌≤◌, Bool, None, Option, Some, ap, arith, false}
use Rattle.std.proofs.Common.{if◌then◌else◌, length, nat_lt, option_and_then, option_map, refl, sym, true}
use Rattle.{std.proofs.lemmas.{Nat.pow_pos, Option.{none-some, same_Some}}, base.specs.declared.ids.ObjId.ObjId}
use Rattle.machine.specs.declared.{layout.Initial.Initial, object.{Object.{Object, Object as o}, Untyped.Untyped}}
use Rattle.machine.specs.{Authority.{label_at, label_of}, Layout.{Layout, declared_label, initial_of}, Machine.{Machine, object_of}}
use Rattle.{machine.specs.{Objects.{address_of, end_of, kind_of_object}, WellFormed.LiesIn}, integrity.specs.OfTable.IsOfTable}
use Rattle.machine.specs.declared.object.ObjectKind.TheVariants as kind

-- each object but a control takes memory
pub takes_memory : (object : Object) → kind_of_object object ≢ kind.Control → address_of object < end_of object
takes_memory (o.Untyped memory) other = omega (arith, pow_pos memory.bits)
takes_memory (o.CNode node) other = omega (arith, pow_pos (node.radix + 5))
takes_memory (o.Tcb thread) other = omega arith
takes_memory (o.Endpoint endpoint) other = omega arith
takes_memory (o.Notification notification) other = omega arith
takes_memory (o.Reply answer) other = omega arith
takes_memory (o.Context context) other = omega arith
takes_memory (o.Frame frame) other = omega arith
takes_memory (o.Control control) other = absurd (other refl)

-- what lies in memory is no control
pub lies_other : (memory : Untyped) (object : Object) → LiesIn memory object → kind_of_object object ≢ kind.Control
lies_other memory (o.Control control) lies e = lies
lies_other memory _ lies e = cc

lies_from : (memory : Untyped) (object : Object) → LiesIn memory object → memory.base ≤ address_of object
lies_from memory (o.Control control) lies = absurd lies
lies_from memory _ lies = lies.0

lies_below : (memory : Untyped) (object : Object) → LiesIn memory object → end_of object ≤ end_of (o.Untyped memory)
lies_below memory (o.Control control) lies = absurd lies
lies_below memory _ lies = lies.1

-- the label of what a table declares
declared_by :
    (found : Option Initial) (label : ℕ) → option_map (λ (i : Initial). i.label) found ≡ Some label
    → (initial : Initial) × (found ≡ Some initial) × (initial.label ≡ label)
declared_by None label e = absurd (none-some label e)
declared_by (Some initial) label e = (initial, refl, same_Some initial.label label e)

pub label_inside :
    (t : Layout) (m : Machine) → IsOfTable t m → (id above : ObjId) (memory : Untyped) (made : Object) (label over : ℕ)
    → object_of m above ≡ Some (o.Untyped memory) → object_of m id ≡ Some made → LiesIn memory made
    → label_of t m id ≡ Some label → label_of t m above ≡ Some over → label ≡ over
unfolding label_of declared_label initial_of
label_inside t m of_table id above memory made label over at there lies labelled is =
    by (nat_lt id.0 (length t.objects)) refl
    (sym
    (ap (option_and_then (λ (x : Object). if nat_lt id.0 (length t.objects) then declared_label t id else label_at t (address_of x)))
    there)
    ∙ labelled)
  where
    other : kind_of_object made ≢ kind.Control
    other = lies_other memory made lies

    ranged : label_at t (address_of made) ≡ Some over
    ranged =
        let taken = takes_memory made other in
        let below = lies_below memory made lies in
        of_table.ranged above memory over (address_of made) at is (lies_from memory made lies) (omega (arith, taken, below))

    by :
        (initial : Bool) → nat_lt id.0 (length t.objects) ≡ initial
        → (if initial then declared_label t id else label_at t (address_of made)) ≡ Some label → label ≡ over
    by false made_later e = same_Some label over (sym e ∙ ranged)
    by true initial e =
        let declared = declared_by (initial_of t id) label e in
        let kept = of_table.initial id made declared.0 there declared.1 in
        sym declared.2
        ∙ of_table.inside id declared.0 over declared.1 (λ control. other (kept.0 ∙ control)) (ap (label_at t) (sym kept.1) ∙ ranged)
