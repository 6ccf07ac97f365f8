-- Loose slots: a table is of a fixed system exactly if none of its filled slots is loose.
use mathlib.Core.Bool.{false≢true}
use Rattle.std.proofs.Common.{ℕ, ◌<◌, ◌∙◌, ◌≡◌, ◌≢◌, ◌≤◌, Option, Some, ap, arith, false, length, refl, slice_get, sym, true}
use Rattle.{std.proofs.lemmas.Option.slice_get_within, base.specs.declared.ids.SlotRef.SlotRef}
use Rattle.machine.specs.declared.{cap.{Cap.Cap, Detail.{Detail, Detail as d}}, layout.Filled.Filled}
use Rattle.machine.specs.{declared.object.ObjectKind.{ObjectKind, ObjectKind as kind}, Capabilities.kind_of_detail}
use Rattle.{machine.specs.Layout.{Layout, initial_cap}, table.{specs.Rules.kind_at, proofs.Lookups.filled_at}}
use Rattle.noninterference.specs.{Fixed.IsFixed, Loose.{is_loose, is_loose_detail, is_loose_in}}

-- a capability that is for neither
kept_detail :
    (detail : Detail) → is_loose_detail detail ≡ false → (kind_of_detail detail ≢ kind.CNode) × (kind_of_detail detail ≢ kind.Tcb)
kept_detail (d.CNode guard) is = absurd (false≢true (sym is))
kept_detail d.Tcb is = absurd (false≢true (sym is))
kept_detail _ is = (λ same. cc, λ same. cc)

loose_detail :
    (detail : Detail) → is_loose_detail detail ≡ true → kind_of_detail detail ≢ kind.CNode → kind_of_detail detail ≢ kind.Tcb → ⊥
loose_detail (d.CNode guard) is node thread = node refl
loose_detail d.Tcb is node thread = thread refl
loose_detail _ is node thread = false≢true is

-- a loose slot is of a CNode, and holds a capability for a CNode or a thread
pub loose_breaks : (t : Layout) (slot : SlotRef) → is_loose t slot ≡ true → IsFixed t → ⊥
loose_breaks t slot is fixed = by_parts (kind_at t slot.holder) (initial_cap t slot) refl refl is where
  by_parts :
      (at : Option ObjectKind) (filling : Option Cap) → kind_at t slot.holder ≡ at → initial_cap t slot ≡ filling
      → is_loose_in at filling ≡ true → ⊥
  by_parts (Some kind.CNode) (Some held) at filled is =
      let none = fixed slot held filled at in loose_detail held.detail is none.0 none.1
  by_parts _ _ at filled is = false≢true is

-- none of the first filled slots is loose
abbrev pub NoneLoose : Layout → ℕ → Type 0
NoneLoose t n = (k : ℕ) → k < n → (filled : Filled) → slice_get t.caps k ≡ Some filled → is_loose t filled.slot ≡ false

pub none_loose : (t : Layout) (n : ℕ) → length t.caps ≤ n → NoneLoose t n → IsFixed t
none_loose t n all none slot held filled at =
    let place = filled_at t slot held filled in
    let within : place.at < n = omega (arith, slice_get_within t.caps place.at place.element place.here, all) in
    let kept : is_loose t slot ≡ false =
    ap (is_loose t) (sym place.key_is) ∙ none place.at within place.element place.here in
    let here : is_loose t slot ≡ is_loose_detail held.detail = rw (at, filled) refl in
    kept_detail held.detail (sym here ∙ kept)
