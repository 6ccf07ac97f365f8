-- The effect of a read or write that isn't refused: a read changes nothing, a write one word of the frame that it found.
use Rattle.std.{specs.Prelude.{Ok, nat_lt}, proofs.Common.{ℕ, ◌<◌, ◌≡◌, Bool, ap, arith, false, refl, sym, true}}
use Rattle.{std.proofs.lemmas.Bool.Decides.nat_tests, base.specs.declared.{ids.ObjId.ObjId, rights.Rights.Rights}}
use Rattle.machine.specs.{declared.{call.Made.Made, cap.Detail.Detail as d}, Capabilities.{badged_of, can_read, can_write}}
use Rattle.machine.specs.{Changes.with_word, Machine.Machine, Step.{Find.{find, permitted}, Words.{in_frame, read_of, write_of}}}
use Rattle.steps.proofs.{Conditions.{both_done, same_ok}, Finding.{FindsObject, finds, is_permitted}}
use Rattle.machine.specs.declared.object.ObjectKind.TheVariants as kind

pub record WriteDone (m : Machine) (caller : ObjId) (address index word : ℕ) (next : Machine) : Type 0 where
  pub id : ObjId
  pub rights : Rights
  pub finds : FindsObject m caller address id (d.Frame rights)
  pub allowed : can_write rights ≡ true
  pub within : index < 512
  pub changes : next ≡ with_word m id index word

is_in_frame : (index : ℕ) (u : Unit {0}) → in_frame index ≡ Ok u → index < 512
is_in_frame index u e = by_test (nat_lt index 512) refl e where
  by_test : (test : Bool) → nat_lt index 512 ≡ test → in_frame index ≡ Ok u → index < 512
  by_test true is e = grind (arith, nat_tests)
  by_test false is e = grind (arith, nat_tests)

pub read_done :
    (m : Machine) (caller : ObjId) (address index : ℕ) (made : Made) (next : Machine)
    → read_of m caller address index ≡ Ok (made, next) → next ≡ m
unfolding read_of
read_done m caller address index made next e =
    let found = both_done (find kind.Frame m caller address) _ (made, next) e in
    let right = both_done (permitted (can_read (badged_of (found.0).1.detail).rights)) _ (made, next) found.2 in
    let place = both_done (in_frame index) _ (made, next) right.2 in
    sym (ap (λ p. p.1) (same_ok place.2))

pub write_done :
    (m : Machine) (caller : ObjId) (address index word : ℕ) (made : Made) (next : Machine)
    → write_of m caller address index word ≡ Ok (made, next) → WriteDone m caller address index word next
unfolding write_of
write_done m caller address index word made next e =
    let found = both_done (find kind.Frame m caller address) _ (made, next) e in
    let right = both_done (permitted (can_write (badged_of (found.0).1.detail).rights)) _ (made, next) found.2 in
    let place = both_done (in_frame index) _ (made, next) right.2 in
    record {
      id = (found.0).1.object;
      rights = (badged_of (found.0).1.detail).rights;
      finds = finds kind.Frame m caller address found.0 found.1;
      allowed = is_permitted (can_write (badged_of (found.0).1.detail).rights) right.0 right.1;
      within = is_in_frame index place.0 place.1;
      changes = sym (ap (λ p. p.1) (same_ok place.2));
    }
