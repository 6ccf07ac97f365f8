-- That numbers and ranges fit after a removal, so that the machine stays well formed.
use Rattle.std.{specs.Prelude.Some, proofs.Common.{◌<◌, ◌∙◌, ◌≡◌, ◌≤◌, Bool, ap, false, subst, sym}}
use Rattle.base.specs.declared.ids.{ObjId.ObjId, SlotRef.SlotRef}
use Rattle.machine.specs.{declared.object.{Object.{Object, Object as o}, Untyped.Untyped}, Finalising.finalised, Machine.Machine}
use Rattle.machine.specs.{Machine.object_of, Objects.{address_of, end_of}, Removal.{removed, vanishes}, WellFormed.{IsRanged, IsWellFormed}}
use Rattle.machine.{specs.WellFormed.{LiesIn, Meets, NumbersFit}, proofs.RemovalLooks.{going-removed, next-removed}}
use Rattle.machine.proofs.RemovalStays.{cap_stays, cap_was, descends_now, like_finalised, object_was, untyped_was}
use Rattle.steps.proofs.{LeavingLinks.links_left, RemovalLinks.{have_left, leavers}, RemovalSlots.{parts_fit, slots_fit}}

module _ (m : Machine) (chosen : SlotRef → Bool) (formed : IsWellFormed m) where
  abbrev after : Machine
  after = removed m chosen

  abbrev vanished : ObjId → Bool
  vanished = vanishes m chosen

  -- what an object was before the removal
  record Was (id : ObjId) (object : Object) : Type 0 where
    old : Object
    there : object_of m id ≡ Some old
    stays : vanished id ≡ false
    lies : (memory : Untyped) → LiesIn memory old → LiesIn memory object
    ranged : IsRanged old → IsRanged object
    address : address_of object ≡ address_of old
    end : end_of object ≡ end_of old
    memory : (memory : Untyped) → old ≡ o.Untyped memory → object ≡ o.Untyped memory

  was : (id : ObjId) (object : Object) → object_of after id ≡ Some object → Was id object
  was id object e =
      let w = object_was m chosen id object e in
      subst (λ (now : Object). Was id now) w.3
      (record {
        old = w.0;
        there = w.1;
        stays = w.2;
        lies = (like_finalised m vanished w.0).lies;
        ranged = (like_finalised m vanished w.0).ranged;
        address = (like_finalised m vanished w.0).address;
        end = (like_finalised m vanished w.0).end;
        memory = λ memory is. ap (finalised m vanished) is;
      })

  met :
      (low high : ObjId) (first second : Object) (one : Was low first) (two : Was high second) → Meets first second
      → Meets one.old two.old
  met low high first second one two meets = (
    subst (λ n. address_of one.old < n) two.end (subst (λ n. n < end_of second) one.address meets.0),
    subst (λ n. address_of two.old < n) one.end (subst (λ n. n < end_of first) two.address meets.1),
  )

  numbers_fit : NumbersFit (removed m chosen)
  numbers_fit =
      record {
        below_next = λ id object e.
            let w = was id object e in
            subst (λ n. id.0 < n) (sym (next-removed m chosen)) (formed.numbers.below_next id w.old w.there);
        ranged = λ id object e. let w = was id object e in w.ranged (formed.numbers.ranged id w.old w.there);
        one_cap = λ a b first second e f same untyped.
            formed.numbers.one_cap a b first second (cap_was m chosen a first e).1 (cap_was m chosen b second f).1 same untyped;
        watermark = λ id memory e.
            let w = object_was m chosen id (o.Untyped memory) e in
            formed.numbers.watermark id memory (w.1 ∙ ap Some (untyped_was m vanished w.0 memory w.3));
        inside = λ low high first second less e f meets.
            let one = was low first e in
            let two = was high second f in
            let w = formed.numbers.inside low high one.old two.old less one.there two.there (met low high first second one two meets) in
            let now = cap_stays m chosen w.1 w.2 w.4 (ap vanished w.5 ∙ one.stays) in (
              w.0,
              now.0,
              now.1,
              one.memory w.0 w.3,
              now.2,
              now.3 ∙ w.5,
              two.lies w.0 w.6,
              subst (λ n. n ≤ w.0.watermark) (sym two.end) w.7,
            );
        made_from = λ low high first second slot above held over less e f meets g names h covers.
            let one = was low first e in
            let two = was high second f in
            let from = cap_was m chosen slot held g in
            let to = cap_was m chosen above over h in
            descends_now m chosen formed.slots.acyclic above to.0 slot from.0
            (formed.numbers.made_from low high one.old two.old slot above held over less one.there two.there
            (met low high first second one two meets) from.1 names to.1 covers);
        has_cap = λ low high first second less e f meets.
            let one = was low first e in
            let two = was high second f in
            let w = formed.numbers.has_cap low high one.old two.old less one.there two.there (met low high first second one two meets) in
            let now = cap_stays m chosen w.0 w.1 w.2 (ap vanished w.3 ∙ two.stays) in
            (now.0, now.1, now.2, now.3 ∙ w.3);
      }

  pub removed_formed : IsWellFormed (removed m chosen)
  removed_formed =
      record {
        slots = slots_fit m chosen formed;
        parts = parts_fit m chosen formed;
        links = links_left m (removed m chosen) (leavers m chosen) (have_left m chosen) formed.links;
        numbers = numbers_fit;
        settled = going-removed m chosen;
      }
