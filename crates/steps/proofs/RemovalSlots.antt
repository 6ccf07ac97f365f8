-- That slots, parts of objects, numbers and ranges fit after a removal.
use Rattle.std.{specs.Prelude.{ℕ, None, Some}, proofs.Common.{◌<◌, ◌∙◌, ◌≡◌, Bool, List, ap, arith, cond, false, inl, inr, refl, subst}}
use Rattle.{std.proofs.{Common.{sym, true}, lemmas.Option.{none-some, same_Some}}, base.specs.declared.ids.{ObjId.ObjId, SlotRef.SlotRef}}
use Rattle.machine.specs.{declared.{cap.Cap.Cap, object.{Object.{Object, Object as o}, Untyped.Untyped}}, Finalising.finalised}
use Rattle.machine.specs.{Finalising.staying_in, Machine.{Machine, cap_of, object_of, words_of}, Objects.{slot_count, word_count}}
use Rattle.machine.specs.{Removal.{removed, vanishes}, WellFormed.{Descends, IsWellFormed, LiesIn, PartsFit, SlotsFit, child, further}}
use Rattle.machine.{specs.WellFormed.kind_of, proofs.{RemovalLooks.words_of-removed, RemovalStays.{cap_now, cap_was, descends_was}}}
use Rattle.machine.proofs.{RemovalStays.{holder_stays, like_finalised, object_stays, object_was, parent_was}, RemovalTable.finalised_there}
use Rattle.steps.proofs.{LeavingLinks.{kind_now, queue_now, queue_was}, RemovalLinks.{have_left, leavers}, SameObjects.Kin}

-- an object in untyped memory lies in all memory around that
lies_through : (outer inner : Untyped) (object : Object) → LiesIn outer (o.Untyped inner) → LiesIn inner object → LiesIn outer object
lies_through outer inner (o.Control _) holds lies = lies
lies_through outer inner _ holds lies = (omega (arith, holds.0, lies.0), omega (arith, holds.1, lies.1))

kin_on : (m : Machine) (low mid high : ObjId) → Kin m low mid → Kin m mid high → Kin m low high
kin_on m low mid high (inl same) rest = subst (λ (id : ObjId). Kin m id high) (sym same) rest
kin_on m low mid high (inr w) (inl same) = inr (w.0, w.1, ap (object_of m) (sym same) ∙ w.2, w.3, w.4)
kin_on m low mid high (inr w) (inr v) =
    let one : v.1 ≡ o.Untyped w.0 = same_Some v.1 (o.Untyped w.0) (sym v.3 ∙ w.2) in
    inr (v.0, w.1, v.2, w.3, lies_through v.0 w.0 w.1 (subst (λ (object : Object). LiesIn v.0 object) one v.4) w.4)

-- a descendant is for the same object, or for one in the memory above
pub descendants_kin :
    (m : Machine) → SlotsFit m → {slot above : SlotRef} → Descends m slot above → (below over : Cap) → cap_of m slot ≡ Some below
    → cap_of m above ≡ Some over → Kin m below.object over.object
descendants_kin m fits (child is) below over e f = fits.kin _ _ below over is e f
descendants_kin m fits (further {parent = parent} is d) below over e f =
    let mid = fits.parent_filled _ parent is in
    kin_on m below.object mid.0.object over.object (fits.kin _ parent below mid.0 is e mid.1)
    (descendants_kin m fits d mid.0 over mid.1 f)

module _ (m : Machine) (chosen : SlotRef → Bool) (formed : IsWellFormed m) where
  abbrev after : Machine
  after = removed m chosen

  abbrev vanished : ObjId → Bool
  vanished = vanishes m chosen

  kinds : (id : ObjId) → vanished id ≡ false → kind_of after id ≡ kind_of m id
  kinds = kind_now m after (leavers m chosen) (have_left m chosen)

  kin_now :
      (low high : ObjId) → vanished low ≡ false → vanished high ≡ false → Kin m low high → Kin after low high
  kin_now low high stays remains (inl same) = inl same
  kin_now low high stays remains (inr w) =
      inr (
        w.0,
        finalised m vanished w.1,
        finalised_there m chosen high (o.Untyped w.0) w.2 remains,
        finalised_there m chosen low w.1 w.3 stays,
        (like_finalised m vanished w.1).lies w.0 w.4,
      )

  holder_now :
      (slot : SlotRef) (held : Cap) → cap_of after slot ≡ Some held
      → (object : Object) × (object_of after slot.holder ≡ Some object) × (slot.index < slot_count object)
  holder_now slot held e =
      let was = cap_was m chosen slot held e in
      let w = formed.slots.holder slot held was.1 in (
        finalised m vanished w.0,
        finalised_there m chosen slot.holder w.0 w.1 (holder_stays m chosen slot w.0 was.0 w.1 w.2),
        subst (λ n. slot.index < n) (sym (like_finalised m vanished w.0).slots) w.2,
      )

  pub slots_fit : SlotsFit (removed m chosen)
  slots_fit =
      record {
        holder = holder_now;
        object = λ slot held e.
            let was = cap_was m chosen slot held e in
            kinds held.object (object_stays m chosen slot held was.0 was.1) ∙ formed.slots.object slot held was.1;
        root = λ slot held e is_root.
            let was = cap_was m chosen slot held e in
            let w = formed.slots.holder slot held was.1 in
            formed.slots.root slot held was.1
            (sym (kinds slot.holder (holder_stays m chosen slot w.0 was.0 w.1 w.2)) ∙ is_root);
        child_filled = λ slot parent e.
            let was = parent_was m chosen formed.slots.acyclic slot parent e in
            let w = low_filled was.1 in (w.0, cap_now m chosen slot w.0 was.0 w.1);
        parent_filled = λ slot parent e.
            let was = parent_was m chosen formed.slots.acyclic slot parent e in
            let w = high_filled was.1 in (w.0, cap_now m chosen parent w.0 was.2 w.1);
        acyclic = λ slot d. formed.slots.acyclic slot (descends_was m chosen formed.slots.acyclic d);
        kin = λ slot parent below above e f g.
            let was = parent_was m chosen formed.slots.acyclic slot parent e in
            let low = cap_was m chosen slot below f in
            let high = cap_was m chosen parent above g in
            kin_now below.object above.object (object_stays m chosen slot below low.0 low.1)
            (object_stays m chosen parent above high.0 high.1)
            (descendants_kin m formed.slots was.1 below above low.1 high.1);
      } where
        low_filled : {slot above : SlotRef} → Descends m slot above → (held : Cap) × (cap_of m slot ≡ Some held)
        low_filled (child is) = formed.slots.child_filled _ _ is
        low_filled (further is d) = formed.slots.child_filled _ _ is

        high_filled : {slot above : SlotRef} → Descends m slot above → (held : Cap) × (cap_of m above ≡ Some held)
        high_filled (child is) = formed.slots.parent_filled _ _ is
        high_filled (further is d) = high_filled d

  words_were :
      (id : ObjId) (words : List ℕ) → words_of after id ≡ Some words → (vanished id ≡ false) × (words_of m id ≡ Some words)
  words_were id words e = by_vanished (vanished id) refl (sym (words_of-removed m chosen id) ∙ e) where
    by_vanished :
        (b : Bool) → vanished id ≡ b → cond b None (words_of m id) ≡ Some words → (vanished id ≡ false) × (words_of m id ≡ Some words)
    by_vanished true v same = absurd (none-some words same)
    by_vanished false v same = (v, same)

  pub parts_fit : PartsFit (removed m chosen)
  parts_fit =
      record {
        queue = λ id object e.
            let was = object_was m chosen id object e in
            let w = formed.parts.queue id was.0 was.1 in (
              staying_in m vanished w.0,
              queue_now m after (leavers m chosen) (have_left m chosen) id w.0 was.2 w.1,
            );
        words = λ id object e.
            let was = object_was m chosen id object e in
            let w = formed.parts.words id was.0 was.1 in (
              w.0,
              words_of-removed m chosen id ∙ ap (λ b. cond b None (words_of m id)) was.2 ∙ w.1,
              w.2 ∙ sym (like_finalised m vanished was.0).words ∙ ap word_count was.3,
            );
        queue_of_object = λ id threads e.
            let was = queue_was m after (leavers m chosen) (have_left m chosen) id threads e in
            let w = formed.parts.queue_of_object id was.0 was.1 in
            (finalised m vanished w.0, finalised_there m chosen id w.0 w.1 was.2);
        words_of_object = λ id words e.
            let was = words_were id words e in
            let w = formed.parts.words_of_object id words was.1 in
            (finalised m vanished w.0, finalised_there m chosen id w.0 w.1 was.0);
      }
