-- That copy and mint put a capability of the same kind into a slot, not for untyped memory and with no right that the source lacks.
use Rattle.std.{specs.{Int.{Bits.and_self, RustNames.bit_and}, Prelude.{Ok, Option, Some, nat_le}}, proofs.Common.{ℕ, ◌%◌, ◌+◌, ◌==◌, ◌^◌}}
use Rattle.std.proofs.{Common.{◌∙◌, ◌≡◌, ◌≢◌, Bool, ap, arith, false, refl, subst, sym, true}, lemmas.Nat.and_assoc}
use Rattle.base.specs.declared.rights.Rights.{Rights}
use Rattle.machine.specs.declared.{call.CapData.CapData, cap.{Badged.Badged, Detail.{Detail, Detail as d}, Guard.Guard}}
use Rattle.machine.specs.{declared.object.{Object.{Object, Object as o}, ObjectKind.ObjectKind as kind}, Capabilities.kind_of_detail}
use Rattle.machine.specs.{Narrower.{HasFewer, IsNarrower}, Step.{Copy.{both, copyable, masked}, Mint.{badged, guarded, minted}}}
use Rattle.machine.specs.declared.call.CapData.TheVariants as given
use Rattle.steps.proofs.Conditions.{same_ok}

pub kinds_alike : (few many : Detail) → IsNarrower few many → kind_of_detail few ≡ kind_of_detail many
kinds_alike (d.Endpoint few) (d.Endpoint many) narrow = refl
kinds_alike (d.Notification few) (d.Notification many) narrow = refl
kinds_alike (d.Frame few) (d.Frame many) narrow = refl
kinds_alike (d.CNode one) (d.CNode other) narrow = refl
kinds_alike d.Untyped d.Untyped narrow = refl
kinds_alike d.Tcb d.Tcb narrow = refl
kinds_alike d.Reply d.Reply narrow = refl
kinds_alike d.Context d.Context narrow = refl
kinds_alike d.Control d.Control narrow = refl
kinds_alike _ _ narrow = absurd narrow

-- a bit of both numbers is one of the first
in_first : (one other bit : ℕ) → bit_and (bit_and one other) bit ≡ bit → bit_and one bit ≡ bit
in_first one other bit e =
    sym (ap (bit_and one) e) ∙ sym (and_assoc bit one (bit_and one other))
    ∙ ap (λ n. bit_and n bit) (sym (and_assoc other one one) ∙ ap (λ n. bit_and n other) (and_self one)) ∙ e

right_in : (one other bit : ℕ) → (bit_and (bit_and one other) bit == bit) ≡ true → (bit_and one bit == bit) ≡ true
right_in one other bit e =
    let same : bit_and (bit_and one other) bit ≡ bit = grind (arith, e) in
    let first = in_first one other bit same in
    grind (arith, first)

fewer : (rights mask : Rights) → HasFewer (both rights mask) rights
fewer rights mask =
    record {
      read = right_in rights.0 mask.0 1;
      write = right_in rights.0 mask.0 2;
      grant = right_in rights.0 mask.0 4;
      grant_reply = right_in rights.0 mask.0 8;
    }

pub masked_narrower : (mask : Rights) (detail : Detail) → IsNarrower (masked mask detail) detail
masked_narrower mask (d.Endpoint end) = fewer end.rights mask
masked_narrower mask (d.Notification end) = fewer end.rights mask
masked_narrower mask (d.Frame rights) = fewer rights mask
masked_narrower mask (d.CNode guard) = tt
masked_narrower mask d.Untyped = tt
masked_narrower mask d.Tcb = tt
masked_narrower mask d.Reply = tt
masked_narrower mask d.Context = tt
masked_narrower mask d.Control = tt

is_badged :
    (detail : Badged → Detail) (badge : ℕ) (end : Badged) (new : Detail) → badged detail badge end ≡ Ok new
    → new ≡ detail (record end { badge = badge })
is_badged detail badge end new e = by_tie (end.badge == 0) refl where
  by_tie : (free : Bool) → (end.badge == 0) ≡ free → new ≡ detail (record end { badge = badge })
  by_tie true is =
      let ok : badged detail badge end ≡ Ok (detail (record end { badge = badge })) = rw is refl in sym (same_ok (sym ok ∙ e))
  by_tie false is = grind (arith, e, is)

is_guarded :
    (size value : ℕ) (object : Option Object) (new : Detail) → guarded size value object ≡ Ok new
    → (guard : Guard) × (new ≡ d.CNode guard)
is_guarded size value (Some (o.CNode node)) new e = by_tie (nat_le (size + node.radix) 64) refl where
  by_tie : (fits : Bool) → nat_le (size + node.radix) 64 ≡ fits → (guard : Guard) × (new ≡ d.CNode guard)
  by_tie true is =
      let guard : Guard = record { size = size; value = value % 2 ^ size } in
      let ok : guarded size value (Some (o.CNode node)) ≡ Ok (d.CNode guard) = rw is refl in
      (guard, sym (same_ok (sym ok ∙ e)))
  by_tie false is = grind (arith, e, is)
is_guarded size value _ new e = cc

pub minted_narrower :
    (object : Option Object) (given : CapData) (mask : Rights) (detail new : Detail)
    → minted object given (masked mask detail) ≡ Ok new → IsNarrower new detail
minted_narrower object (given.Badge badge) mask (d.Endpoint end) new e =
    subst (λ (n : Detail). IsNarrower n (d.Endpoint end)) (sym (is_badged d.Endpoint badge _ new e)) (fewer end.rights mask)
minted_narrower object (given.Badge badge) mask (d.Notification end) new e =
    subst (λ (n : Detail). IsNarrower n (d.Notification end)) (sym (is_badged d.Notification badge _ new e)) (fewer end.rights mask)
minted_narrower object (given.Guard size value) mask (d.CNode guard) new e =
    let is = is_guarded size value object new e in
    subst (λ (n : Detail). IsNarrower n (d.CNode guard)) (sym is.1) tt
minted_narrower object _ mask _ new e = cc

pub is_copyable : (detail : Detail) (u : Unit {0}) → copyable detail ≡ Ok u → kind_of_detail detail ≢ kind.Untyped
is_copyable d.Untyped u e same = grind (arith, e)
is_copyable _ u e same = cc
