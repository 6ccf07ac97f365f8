-- A removal stays under way as a slot that goes is emptied.
use Rattle.std.specs.FinMap as map
use Rattle.std.{specs.Prelude.{◌==◌, ◌⊎◌, Contains, None, Option, Some, slice_get}, proofs.Common.{[], ℕ, ◌++◌, ◌+◌, ◌<◌, ◌∙◌, ◌∷◌, ◌≡◌}}
use Rattle.std.proofs.Common.{◌≢◌, ◌≤◌, Bool, List, ap, arith, cond, eq-eqb, eqb-true, false, inl, inr, length, length-append, refl, subst}
use Rattle.std.proofs.{Common.{suc, sym, true, zero}, lemmas.{Bool.false≢true, List.Elements.{Contains-append_cases, Contains-append_left}}}
use Rattle.{std.proofs.lemmas.List.Elements.Contains-append_right, base.specs.declared.ids.{ObjId.ObjId, SlotRef.SlotRef}}
use Rattle.machine.specs.{declared.cap.Cap.Cap, Changes.with_going, Counts.caps_to, Gone.IsGone}
use Rattle.machine.specs.Machine.{Machine, cap_of, same_id, same_slot, without_cap}
use Rattle.machine.proofs.CapCounts.{caps_to-some, caps_to-without_cap, none_for_others, one_for, one_for_its_own}
use Rattle.machine.proofs.{FiniteLemmas.ties_itself, GoneLemmas.id_itself, LookUps.{one_id, one_slot, slot_apart, slot_total}}
use Rattle.removal.{specs.UnderWay.{HasNoneTwice, IsUnderWay, emptied, noted}, proofs.Fitting.{first_in, once_more, only_one}}

pub cap_of-without_cap : (m : Machine) (slot q : SlotRef) → cap_of (without_cap m slot) q ≡ cond (same_slot q slot) None (cap_of m q)
unfolding cap_of without_cap
cap_of-without_cap m slot q = map.get-remove slot_total m.caps slot q

pub emptied_here : (m : Machine) (slot : SlotRef) → cap_of (without_cap m slot) slot ≡ None
emptied_here m slot = cap_of-without_cap m slot slot ∙ ap (λ b. cond b None (cap_of m slot)) (ties_itself slot_total slot_apart slot)

pub stays_empty : (m : Machine) (slot q : SlotRef) → cap_of m q ≡ None → cap_of (without_cap m slot) q ≡ None
stays_empty m slot q none = cap_of-without_cap m slot q ∙ ap (λ x. cond (same_slot q slot) None x) none ∙ either (same_slot q slot) where
  either : (b : Bool) → cond {A = Option Cap} b None None ≡ None
  either true = refl
  either false = refl

pub cap_of-with_going : (m : Machine) (id : ObjId) (q : SlotRef) → cap_of (with_going m id) q ≡ cap_of m q
unfolding cap_of with_going
cap_of-with_going m id q = refl

pub get_front : {A : Type 0} → (front behind : List A) (k : ℕ) → k < length front → slice_get (front ++ behind) k ≡ slice_get front k
get_front [] behind k less = absurd (omega (arith, less))
get_front (x ∷ front) behind zero less = refl
get_front (x ∷ front) behind (suc k) less = get_front front behind k (omega (arith, less))

module _ (m : Machine) (chosen : SlotRef → Bool) (looked : ℕ) where
  -- an object that has lost its last capability is going then
  add :
      (now : Machine) (id : ObjId) → now ≡ record m { caps = now.caps; parents = now.parents; going = now.going }
      → ((slot : SlotRef) → (cap_of now slot ≡ cap_of m slot) ⊎ ((cap_of now slot ≡ None) × IsGone m chosen slot))
      → ((each : ObjId) → Contains now.going each → (1 ≤ caps_to m each) × (caps_to now each ≡ 0))
      → ((each : ObjId) → each ≢ id → 1 ≤ caps_to m each → caps_to now each ≡ 0 → Contains now.going each)
      → 1 ≤ caps_to m id → caps_to now id ≡ 0 → (¬ (Contains now.going id)) → HasNoneTwice now.going → looked ≤ length now.going
      → ((index : ℕ) (slot : SlotRef) → index < looked → slice_get now.going index ≡ Some slot.holder → cap_of now slot ≡ None)
      → IsUnderWay m chosen (with_going now id) looked
  unfolding with_going caps_to cap_of
  add now id rest kept found others some none apart once within through =
      record {
        rest = ap (λ (n : Machine). record n { going = now.going ++ id ∷ [] }) rest;
        kept = kept;
        going = λ each. (λ listed. by_place each (Contains-append_cases now.going (id ∷ []) each listed), λ lost. by_tie each lost.0 lost.1 (same_id each id) refl);
        once = once_more now.going id once apart;
        within = let longer = length-append now.going (id ∷ []) in omega (arith, within, longer);
        through =
            λ index slot less is.
            through index slot less (sym (get_front now.going (id ∷ []) index (omega (arith, less, within))) ∙ is);
      } where
        by_place : (each : ObjId) → Contains now.going each ⊎ Contains (id ∷ []) each → (1 ≤ caps_to m each) × (caps_to now each ≡ 0)
        by_place each (inl listed) = found each listed
        by_place each (inr last) =
            subst (λ (x : ObjId). (1 ≤ caps_to m x) × (caps_to now x ≡ 0)) (sym (only_one id each last)) (some, none)

        by_tie :
            (each : ObjId) → 1 ≤ caps_to m each → caps_to now each ≡ 0 → (tie : Bool) → same_id each id ≡ tie
            → Contains (now.going ++ id ∷ []) each
        by_tie each had lost true is =
            subst (λ (x : ObjId). Contains (now.going ++ id ∷ []) x) (sym (one_id each id is))
            (Contains-append_right now.going (id ∷ []) id (first_in id []))
        by_tie each had lost false is =
            Contains-append_left now.going (id ∷ []) each
            (others each (λ same. false≢true (sym is ∙ ap (λ (x : ObjId). same_id x id) same ∙ id_itself id)) had lost)

  module _ (now : Machine) (slot : SlotRef) (held : Cap) (way : IsUnderWay m chosen now looked) (filled : cap_of now slot ≡ Some held) (goes : IsGone m chosen slot) where
    abbrev less : Machine
    less = without_cap now slot

    had : 1 ≤ caps_to m held.object
    had = by_kept (way.kept slot) where
      by_kept : (cap_of now slot ≡ cap_of m slot) ⊎ ((cap_of now slot ≡ None) × IsGone m chosen slot) → 1 ≤ caps_to m held.object
      by_kept (inl same) = caps_to-some m slot held (sym same ∙ filled)
      by_kept (inr emptied) = let none = emptied.0 in cc

    counted : (id : ObjId) → caps_to now id ≡ caps_to less id + one_for id held
    counted id = caps_to-without_cap now slot held filled id

    kept_less : (q : SlotRef) → (cap_of less q ≡ cap_of m q) ⊎ ((cap_of less q ≡ None) × IsGone m chosen q)
    kept_less q = by_tie (same_slot q slot) refl where
      look : (tie : Bool) → same_slot q slot ≡ tie → cap_of less q ≡ cond tie None (cap_of now q)
      look tie is = cap_of-without_cap now slot q ∙ ap (λ b. cond b None (cap_of now q)) is

      by_kept :
          cap_of less q ≡ cap_of now q → (cap_of now q ≡ cap_of m q) ⊎ ((cap_of now q ≡ None) × IsGone m chosen q)
          → (cap_of less q ≡ cap_of m q) ⊎ ((cap_of less q ≡ None) × IsGone m chosen q)
      by_kept same (inl was) = inl (same ∙ was)
      by_kept same (inr gone) = inr (same ∙ gone.0, gone.1)

      by_tie : (tie : Bool) → same_slot q slot ≡ tie → (cap_of less q ≡ cap_of m q) ⊎ ((cap_of less q ≡ None) × IsGone m chosen q)
      by_tie true is = inr (look true is, subst (λ (s : SlotRef). IsGone m chosen s) (sym (one_slot q slot is)) goes)
      by_tie false is = by_kept (look false is) (way.kept q)

    rest_less : less ≡ record m { caps = less.caps; parents = less.parents; going = less.going }
    unfolding without_cap
    rest_less = ap (λ (n : Machine). record n { caps = map.remove now.caps slot }) way.rest

    found_less : (id : ObjId) → Contains now.going id → (1 ≤ caps_to m id) × (caps_to less id ≡ 0)
    found_less id listed =
        let found = (way.going id).0 listed in
        let count = counted id in (found.0, omega (arith, found.1, count))

    others_less : (id : ObjId) → id ≢ held.object → 1 ≤ caps_to m id → caps_to less id ≡ 0 → Contains now.going id
    others_less id differs some none =
        let count = counted id in
        let nothing = none_for_others id held (λ same. differs (sym same)) in
        (way.going id).1 (some, omega (arith, none, count, nothing))

    apart_less : ¬ (Contains now.going held.object)
    apart_less listed =
        let found = (way.going held.object).0 listed in
        let count = counted held.object in
        let one = one_for_its_own held in absurd (omega (arith, found.1, count, one))

    noted_way : IsUnderWay m chosen (noted less held.object) looked
    unfolding without_cap
    noted_way = by_count (caps_to less held.object == 0) refl where
      by_count : (b : Bool) → (caps_to less held.object == 0) ≡ b → IsUnderWay m chosen (cond b (with_going less held.object) less) looked
      by_count true is =
          add less held.object rest_less kept_less found_less others_less had (eqb-true (caps_to less held.object) 0 is) apart_less way.once way.within
          (λ index q few at. stays_empty now slot q (way.through index q few at))
      by_count false is =
          record {
            rest = rest_less;
            kept = kept_less;
            going = λ id. (found_less id, λ lost. by_tie id lost.0 lost.1 (same_id id held.object) refl);
            once = way.once;
            within = way.within;
            through = λ index q few at. stays_empty now slot q (way.through index q few at);
          } where
            by_tie :
                (id : ObjId) → 1 ≤ caps_to m id → caps_to less id ≡ 0 → (tie : Bool) → same_id id held.object ≡ tie → Contains now.going id
            by_tie id some none true same =
                absurd (false≢true (sym is ∙ eq-eqb (caps_to less held.object) 0 (ap (caps_to less) (sym (one_id id held.object same)) ∙ none)))
            by_tie id some none false apart =
                others_less id
                (λ same. false≢true (sym apart ∙ ap (λ (x : ObjId). same_id x held.object) same ∙ id_itself held.object)) some none

  pub emptied_way :
      (now : Machine) (slot : SlotRef) → IsUnderWay m chosen now looked → IsGone m chosen slot
      → IsUnderWay m chosen (emptied now slot) looked
  unfolding emptied
  emptied_way now slot way goes = by_cap (cap_of now slot) refl where
    by_cap : (found : Option Cap) → cap_of now slot ≡ found → IsUnderWay m chosen (emptied now slot) looked
    by_cap None is = rw is way
    by_cap (Some held) is = rw is (noted_way now slot held way is goes)
