-- The line of a filled slot that the table takes next: it is read, and its words are plain.
use Rattle.std.{specs.List.AllByRecursion, proofs.Common.{ℕ, ◌+◌, ◌<◌, ◌^◌, ◌∙◌, ◌∷◌, ◌≡◌, ◌≤◌, List, None, Ok, Option, Some, ap, arith}}
use Rattle.std.proofs.{Common.{codes, false, length, option_map, refl, subst, sym, true}, Math.Pow.pow_mono, lemmas.Bool.and_from}
use Rattle.std.proofs.lemmas.{Bool.{and_parts, cond-true, false≢true, leb-true, ltb-true}, Option.{get_or_from_slice_get, slice_get_within}}
use Rattle.base.specs.{declared.{ids.{ObjId.ObjId, SlotRef.SlotRef}, limits.TheConstants.MAX_RADIX, rights.Rights.Rights}, Rights.IsRights}
use Rattle.words.{specs.{Name.is_name, Reading.bind, Text.{IsPlainLine, IsPlainWord}}, proofs.{Parts.last_again, WordLaws.plain_bytes}}
use Rattle.machine.specs.declared.{cap.{Detail.{Detail, Detail as d}, Guard.Guard}, layout.{Filled.Filled, Initial.Initial}}
use Rattle.machine.specs.declared.{object.{Object.{Object, Object as o}, ObjectKind.{ObjectKind, ObjectKind as kind}}, thread.Tcb.Tcb}
use Rattle.machine.specs.{Capabilities.kind_of_detail, Layout.{Layout, initial_of}, Objects.{kind_of_object, slot_count}}
use Rattle.table.specs.Building.{AdmitsCap, declares_slot, fits, fits_target, has_index, is_above_caps, is_fitting, may_hold, with_filled}
use Rattle.table.specs.{Items.BeforePairs, Names.object_named, Rules.{IsBlank, IsDraft, kind_at}}
use Rattle.captext.specs.{declared.shapes.{Place.Place, Term.{Term, Term as term}}, Spelling.{AreTerms, IsPlace}, TableText.cap_words}
use Rattle.captext.specs.{TableText.{detail_words, object_name, place_in, slot_name}, Tables.{NamedCap, cap_line, capability, capped}}
use Rattle.captext.specs.Tables.{detail_for, detail_of, filled, fits_holder, fits_place, is_claimed, is_plain, may_fill, slot_in}
use Rattle.captext.{specs.Tables.takes_caps, proofs.{Admits.claims, CapLines.{HasCap, cap_part}, LineLaws.caps_again}}
use Rattle.captext.proofs.{NameLaws.{is_object_name, object_again}, TermLaws.terms_words}
use Rattle.captext.specs.declared.shapes.Place.TheVariants as place

abbrev terms_of : Detail → Option Term × Option Term
terms_of (d.CNode guard) = (Some (term.Decimal guard.size), Some (term.Hexadecimal guard.value))
terms_of (d.Endpoint end) = (Some (term.Rights end.rights), Some (term.Decimal end.badge))
terms_of (d.Notification end) = (Some (term.Rights end.rights), Some (term.Decimal end.badge))
terms_of (d.Frame rights) = (Some (term.Rights rights), None)
terms_of _ = (None, None)

words_of_terms : (detail : Detail) → detail_words detail ≡ terms_words (terms_of detail)
words_of_terms d.Untyped = refl
words_of_terms _ = refl

abbrev ReadsDetail : Object → Detail → Type 0
ReadsDetail object detail =
    (detail_of object (terms_of detail).0 (terms_of detail).1 ≡ Ok detail) × AreTerms (terms_of detail)
    × (kind_of_object object ≡ kind_of_detail detail)

plain_is : (rights : Rights) → is_plain rights ≡ true → IsRights rights
plain_is rights plain = let low : rights.0 < 4 = ltb-true _ _ plain in omega arith

detail_again : (object : Object) (detail : Detail) → fits object detail ≡ true → ReadsDetail object detail
detail_again (o.CNode node) (d.CNode guard) fitting =
    let parts = and_parts _ _ fitting in
    let few : guard.size + node.radix ≤ 64 = leb-true _ _ parts.0 in
    let low : guard.value < 2 ^ guard.size = ltb-true _ _ parts.1 in
    let powers : 2 ^ guard.size ≤ 2 ^ 64 = pow_mono {i = guard.size} {j = 64} (omega arith) in
    let size : guard.size < 2 ^ 64 = omega arith in
    let value : guard.value < 2 ^ 64 = omega arith in (cond-true _ _ _ fitting, (size, value), refl)
detail_again (o.Endpoint _) (d.Endpoint end) fitting = let parts = and_parts _ _ fitting in (refl, (ltb-true _ _ parts.0, ltb-true _ _ parts.1), refl)
detail_again (o.Notification _) (d.Notification end) fitting =
    let parts = and_parts _ _ fitting in
    (cond-true _ _ _ parts.0, (plain_is end.rights parts.0, ltb-true _ _ parts.1), refl)
detail_again (o.Frame _) (d.Frame rights) fitting = (cond-true _ _ _ fitting, (plain_is rights fitting, tt), refl)
detail_again (o.Untyped _) d.Untyped fitting = (refl, tt, refl)
detail_again (o.Tcb _) d.Tcb fitting = (refl, tt, refl)
detail_again (o.Reply _) d.Reply fitting = (refl, tt, refl)
detail_again (o.Context _) d.Context fitting = (refl, tt, refl)
detail_again (o.Control _) d.Control fitting = (refl, tt, refl)
detail_again _ _ fitting = absurd (false≢true fitting)

-- what is found is there

some_holder : (found : Option Initial) (index : ℕ) → has_index found index ≡ true
    → (holder : Initial) × (found ≡ Some holder) × (index < slot_count holder.object)
some_holder None index h = absurd (false≢true h)
some_holder (Some holder) index h = (holder, refl, ltb-true _ _ h)

some_target : (found : Option Initial) (detail : Detail) → fits_target found detail ≡ true
    → (target : Initial) × (found ≡ Some target) × (fits target.object detail ≡ true)
some_target None detail h = absurd (false≢true h)
some_target (Some target) detail h = (target, refl, h)

-- the slot of an object with slots has a place there
abbrev HasPlace : Object → SlotRef → Type 0
HasPlace object slot =
    let holder : Option ObjectKind = Some (kind_of_object object) in
    let at = place_in holder slot.index in
    IsPlace at × (slot_in slot.holder at ≡ slot) × (fits_holder holder at ≡ true)

place_again : (object : Object) (slot : SlotRef) → IsBlank object → slot.index < slot_count object → HasPlace object slot
place_again (o.CNode node) slot blank within =
    let few = blank.1 in
    let powers : 2 ^ node.radix ≤ 2 ^ MAX_RADIX = pow_mono {i = node.radix} {j = MAX_RADIX} few in
    (omega arith, refl, refl)
place_again (o.Tcb _) slot blank within =
    let first : 0 ≡ slot.index = omega arith in
    (tt, ap (λ (index : ℕ). record { holder = slot.holder; index = index }) first, refl)
place_again _ slot blank within = absurd (omega arith)

-- a slot that the table declares has a name, which is that slot's alone, and it fits its holder
pub record IsPlaced (t : Layout) (slot : SlotRef) : Type 0 where
  pub named : is_name (object_name t slot.holder) ≡ true
  pub indexed : IsPlace (place_in (kind_at t slot.holder) slot.index)
  pub found : object_named t (object_name t slot.holder) ≡ Some slot.holder
  pub slot_is : slot_in slot.holder (place_in (kind_at t slot.holder) slot.index) ≡ slot
  pub fits : fits_holder (kind_at t slot.holder) (place_in (kind_at t slot.holder) slot.index) ≡ true

pub placed : (t : Layout) (slot : SlotRef) → IsDraft t → declares_slot t slot ≡ true → IsPlaced t slot
unfolding initial_of kind_at declares_slot
placed t slot draft declares =
    let id = slot.holder in
    let each = draft.objects.named in
    let holder = some_holder (initial_of t id) slot.index declares in
    let held : id.0 < length t.objects = slice_get_within t.objects id.0 holder.0 holder.1 in
    let blank : IsBlank holder.0.object =
    subst (λ (i : Initial). IsBlank i.object) (get_or_from_slice_get t.objects id.0 holder.0 holder.0 holder.1)
    (draft.objects.each id.0 holder.0 held).blank in
    let kind_held : kind_at t id ≡ Some (kind_of_object holder.0.object) =
    ap (option_map (λ (i : Initial). kind_of_object i.object)) holder.1 in
    let there : place_in (kind_at t id) slot.index ≡ place_in (Some (kind_of_object holder.0.object)) slot.index =
    ap (λ k. place_in k slot.index) kind_held in
    let place = place_again holder.0.object slot blank holder.2 in
    let named : id.0 < length t.names = omega arith in
    let is_name = is_object_name t id draft named in
    let is_place = subst IsPlace (sym there) place.0 in
    record {
      named = is_name;
      indexed = is_place;
      found = object_again t id draft named;
      slot_is = ap (slot_in id) there ∙ place.1;
      fits = (λ i. fits_holder (kind_held i) (there i)) ∙ place.2;
    }

-- a thread's root slot takes the capability of a CNode alone
cnode_target : (target : Object) (guard : Guard) → fits target (d.CNode guard) ≡ true → kind_of_object target ≡ kind.CNode
cnode_target (o.CNode _) guard h = refl
cnode_target _ guard h = absurd (false≢true h)

root_takes : (label : ℕ) (thread : Tcb) (target : Object) (detail : Detail)
    → may_hold (Some (record { label = label; object = o.Tcb thread })) detail ≡ true → fits target detail ≡ true
    → fits_place place.Root (Some (kind_of_object target)) ≡ true
root_takes label thread target (d.CNode guard) holds fitting =
    ap (λ k. fits_place place.Root (Some k)) (cnode_target target guard fitting)
root_takes label thread target _ holds fitting = absurd (false≢true holds)

place_fits : (label : ℕ) (holder target : Object) (index : ℕ) (detail : Detail)
    → may_hold (Some (record { label = label; object = holder })) detail ≡ true → fits target detail ≡ true
    → fits_place (place_in (Some (kind_of_object holder)) index) (Some (kind_of_object target)) ≡ true
place_fits label (o.Tcb thread) target index detail holds fitting = root_takes label thread target detail holds fitting
place_fits label _ target index detail holds fitting = refl

-- the steps after its words one after another
capped_is :
    (t : Layout) (name other : List ℕ) (at : Place) (holder target : ObjId) (terms : Option Term × Option Term) (detail : Detail)
    → takes_caps t ≡ true → object_named t name ≡ Some holder → is_above_caps t (slot_in holder at) ≡ true
    → object_named t other ≡ Some target → is_claimed t target ≡ false → may_fill (kind_at t holder) at (kind_at t target) ≡ true
    → detail_for t target terms ≡ Ok detail → declares_slot t (slot_in holder at) ≡ true
    → capped t ((name, at), (other, terms)) ≡ Ok (with_filled t (record { slot = slot_in holder at; cap = capability target detail }))
unfolding capped filled bind
capped_is t name other at holder target terms detail now held rising aimed once fills told within =
    rw (held, and_from _ _ now rising, aimed, once, fills, told, within) refl

-- what a capability that the table takes has to do with its objects
record Places (t : Layout) (filled : Filled) : Type 0 where
  place : IsPlaced t filled.slot
  target : filled.cap.object.0 < length t.names
  fills : may_fill (kind_at t filled.slot.holder) (place_in (kind_at t filled.slot.holder) filled.slot.index)
      (kind_at t filled.cap.object)
      ≡ true
  once : is_claimed t filled.cap.object ≡ false
  told : detail_for t filled.cap.object (terms_of filled.cap.detail) ≡ Ok filled.cap.detail
  terms : AreTerms (terms_of filled.cap.detail)

places : (t : Layout) (filled : Filled) → IsDraft t → AdmitsCap t filled → Places t filled
unfolding initial_of kind_at declares_slot is_fitting detail_for bind
places t filled draft admits =
    let id = filled.slot.holder in
    let to = filled.cap.object in
    let detail = filled.cap.detail in
    let each = draft.objects.named in
    let place = placed t filled.slot draft admits.slot in
    let holder = some_holder (initial_of t id) filled.slot.index admits.slot in
    let target = some_target (initial_of t to) detail admits.fits in
    let aimed : to.0 < length t.objects = slice_get_within t.objects to.0 target.0 target.1 in
    let kind_held : kind_at t id ≡ Some (kind_of_object holder.0.object) =
    ap (option_map (λ (i : Initial). kind_of_object i.object)) holder.1 in
    let kind_aimed : kind_at t to ≡ Some (kind_of_object target.0.object) =
    ap (option_map (λ (i : Initial). kind_of_object i.object)) target.1 in
    let root : may_hold (Some holder.0) detail ≡ true = ap (λ found. may_hold found detail) (sym holder.1) ∙ admits.root in
    let reads = detail_again target.0.object detail target.2 in
    record {
      place = place;
      target = omega arith;
      fills = and_from _ _ place.fits
          ((λ i. fits_place (place_in (kind_held i) filled.slot.index) (kind_aimed i))
          ∙ place_fits holder.0.label holder.0.object target.0.object filled.slot.index detail root target.2);
      once = sym (claims t to detail (kind_aimed ∙ ap (λ k. Some k) reads.2)) ∙ admits.once;
      told = rw target.1 reads.0;
      terms = reads.1;
    }

-- the words of a filled slot as they are read
abbrev named_cap : Layout → Filled → NamedCap
named_cap t filled = (
  (object_name t filled.slot.holder, place_in (kind_at t filled.slot.holder) filled.slot.index),
  (object_name t filled.cap.object, terms_of filled.cap.detail),
)

has_cap : (t : Layout) (filled : Filled) → IsDraft t → Places t filled → HasCap (named_cap t filled)
has_cap t filled draft p = ((p.place.named, p.place.indexed), (is_object_name t filled.cap.object draft p.target, p.terms))

pub cap_line_again : (t : Layout) (filled : Filled) → IsDraft t → BeforePairs t → AdmitsCap t filled
    → cap_line t (slot_name t filled.slot ∷ object_name t filled.cap.object ∷ detail_words filled.cap.detail)
    ≡ Ok (with_filled t filled)
unfolding cap_line
cap_line_again t filled draft now admits =
    let id = filled.slot.holder in
    let to = filled.cap.object in
    let detail = filled.cap.detail in
    let p = places t filled draft admits in
    let at : Place = place_in (kind_at t id) filled.slot.index in
    let within : declares_slot t (slot_in id at) ≡ true = ap (declares_slot t) p.place.slot_is ∙ admits.slot in
    let same : (record { slot = slot_in id at; cap = capability to detail }) ≡ filled =
    (λ i. record { slot = p.place.slot_is i; cap = record { object = to; detail = detail; original = sym admits.original i } }) in
    ap (λ ws. cap_line t (slot_name t filled.slot ∷ object_name t to ∷ ws)) (words_of_terms detail)
    ∙ last_again cap_part (capped t) (named_cap t filled) (has_cap t filled draft p)
    ∙ capped_is t (object_name t id) (object_name t to) at id to (terms_of detail) detail
    (caps_again t now)
    p.place.found
    (ap (is_above_caps t) p.place.slot_is ∙ admits.rises)
    (object_again t to draft p.target)
    p.once
    p.fills
    p.told
    within
    ∙ ap (λ (f : Filled). Ok (with_filled t f)) same

-- the words of the line are plain
pub cap_plain : (t : Layout) (filled : Filled) → IsDraft t → AdmitsCap t filled
    → IsPlainLine (cap_words t filled)
cap_plain t filled draft admits = (
  plain_bytes (codes "cap") refl,
  subst (λ ws. AllByRecursion IsPlainWord (slot_name t filled.slot ∷ object_name t filled.cap.object ∷ ws))
      (sym (words_of_terms filled.cap.detail))
      (cap_part.plain (named_cap t filled) (has_cap t filled draft (places t filled draft admits))),
)
