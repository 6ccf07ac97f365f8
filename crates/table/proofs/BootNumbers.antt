-- The ranges of memory in a boot state: no two objects overlap, and nothing is made of untyped memory yet.
use Rattle.std.{specs.Prelude.Some, proofs.Common.{ℕ, ◌+◌, ◌<◌, ◌∙◌, ◌≡◌, ◌≢◌, ◌≤◌, ◌⊎◌, ap, arith, get_or, inl, inr, subst, sym}}
use Rattle.{std.proofs.lemmas.{Bool.cases_lt, Nat.pow_pos, Option.same_Some}, base.specs.declared.ids.{ObjId.ObjId, SlotRef.SlotRef}}
use Rattle.machine.specs.declared.{cap.Cap.Cap, layout.{Filled.Filled, Initial.Initial}}
use Rattle.machine.specs.{declared.object.{Object.{Object, Object as o}, ObjectKind.ObjectKind as kind}, Boot.IsBoot}
use Rattle.machine.specs.{Capabilities.kind_of_detail, Layout.Layout, Machine.{Machine, cap_of, object_of}, Objects.{address_of, end_of}}
use Rattle.machine.{specs.WellFormed.{Meets, NumbersFit, kind_of}, proofs.Bound.{address-bound, end-bound}}
use Rattle.table.{specs.{Placement.IsApart, Rules.IsLawful}, proofs.BootContents.boot-ranged}
use Rattle.table.proofs.{BootParts.{at_boot, declares, fills, pair-cases}, BootSlots.kind-aimed}

-- two capabilities for one object are in one slot if the first is for untyped memory
one-slot :
    (t : Layout) (m : Machine) (a b : SlotRef) (first second : Cap) → IsLawful t → IsBoot t m → cap_of m a ≡ Some first
    → cap_of m b ≡ Some second → first.object ≡ second.object
    → kind_of_detail first.detail ≡ kind.Untyped → a ≡ b
one-slot t m a b first second lawful boot has_first has_second same untyped =
    let aims_first = kind-aimed t m a first lawful boot has_first in
    let aims_second = kind-aimed t m b second lawful boot has_second in
    let also : kind_of_detail second.detail ≡ kind.Untyped =
    same_Some _ _ (sym aims_second ∙ ap (kind_of m) (sym same) ∙ aims_first) ∙ untyped in
    let Once : Filled → Filled → Type 0 =
    λ one other. kind_of_detail other.cap.detail ≡ kind.Untyped → one.cap.object ≢ other.cap.object in
    let one : Filled = record { slot = a; cap = first } in
    let other : Filled = record { slot = b; cap = second } in
    elim
    (pair-cases Once t.caps one other lawful.draft.caps.untypeds_once (fills t m a first boot has_first)
    (fills t m b second boot has_second)) [
      | inl is ↦ ap (λ (filled : Filled). filled.slot) is
      | inr differ ↦ elim differ [ inl apart ↦ absurd (apart also same) | inr apart ↦ absurd (apart untyped (sym same)) ]
    ]

-- an object that has a byte has one at its address
occupied : (object : Object) (byte : ℕ) → byte < end_of object → address_of object < end_of object
occupied (o.Untyped memory) byte below = omega (arith, pow_pos memory.bits)
occupied (o.CNode node) byte below = omega (arith, pow_pos (node.radix + 5))
occupied (o.Tcb thread) byte below = omega arith
occupied (o.Endpoint endpoint) byte below = omega arith
occupied (o.Notification notification) byte below = omega arith
occupied (o.Reply answer) byte below = omega arith
occupied (o.Context context) byte below = omega arith
occupied (o.Frame frame) byte below = omega arith
occupied (o.Control control) byte below = absurd (omega arith)

-- objects that share no address don't meet
apart-unmet : (a b : Object) → IsApart a b → address_of a < end_of b → address_of b < end_of a → ⊥
apart-unmet a b apart from to = by_order (cases_lt (address_of a) (address_of b)) where
  by_order : (address_of a < address_of b) ⊎ (address_of b ≤ address_of a) → ⊥
  by_order (inl below) = let here = occupied b (address_of a) from in apart (address_of b) (omega arith, to) (omega arith, here)
  by_order (inr above) = let here = occupied a (address_of b) to in apart (address_of a) (omega arith, here) (above, from)

-- no two objects meet
unmet :
    (t : Layout) (m : Machine) (low high : ObjId) (first second : Object) → IsLawful t → IsBoot t m → low.0 < high.0
    → object_of m low ≡ Some first → object_of m high ≡ Some second
    → Meets first second → ⊥
unmet t m low high first second lawful boot below has_first has_second meet =
    let one = declares t m low first boot has_first in
    let other = declares t m high second boot has_second in
    let a : Object = one.initial.object in
    let b : Object = other.initial.object in
    let d : Initial = one.initial in
    let apart : IsApart a b =
    let P : Initial → Initial → Type 0 = λ one other. IsApart one.object other.object in
    subst (λ initial. P initial other.initial) (one.in_list d)
    (subst (P (get_or t.objects low.0 d)) (other.in_list d) (lawful.draft.objects.apart low.0 high.0 d below other.within)) in
    let first_from : address_of first ≡ address_of a = ap address_of one.is ∙ address-bound t low a in
    let first_to : end_of first ≡ end_of a = ap end_of one.is ∙ end-bound t low a in
    let second_from : address_of second ≡ address_of b = ap address_of other.is ∙ address-bound t high b in
    let second_to : end_of second ≡ end_of b = ap end_of other.is ∙ end-bound t high b in
    apart-unmet a b apart (subst (λ n. n < end_of b) first_from (subst (λ n. address_of first < n) second_to meet.0))
    (subst (λ n. n < end_of a) second_from (subst (λ n. address_of second < n) first_to meet.1))

pub boot-numbers : (t : Layout) (m : Machine) → IsLawful t → IsBoot t m → NumbersFit m
boot-numbers t m lawful boot = record {
  below_next =
      λ id object present.
      let declared = declares t m id object boot present in subst (λ n. id.0 < n) (sym boot.next) declared.within;
  ranged = λ id object present. boot-ranged t m id object lawful boot present;
  one_cap =
      λ a b first second has_first has_second same untyped.
      one-slot t m a b first second lawful boot has_first has_second same untyped;
  watermark =
      λ id memory present.
      let at_base : memory.watermark ≡ memory.base = at_boot t m id (o.Untyped memory) lawful boot present in
      (omega arith, omega (arith, pow_pos memory.bits));
  inside =
      λ low high first second below has_first has_second meet.
      absurd (unmet t m low high first second lawful boot below has_first has_second meet);
  made_from =
      λ low high first second slot above held over below has_first has_second meet _ _ _ _.
      absurd (unmet t m low high first second lawful boot below has_first has_second meet);
  has_cap =
      λ low high first second below has_first has_second meet.
      absurd (unmet t m low high first second lawful boot below has_first has_second meet);
}
