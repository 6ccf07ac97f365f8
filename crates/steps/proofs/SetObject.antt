-- That one object gets new contents, and all others stay as they were.
use Rattle.std.{specs.Prelude.{Some, if◌then◌else◌}, proofs.Common.{◌∙◌, ◌≡◌, ◌≢◌, ◌⊎◌, ap, inl, inr, sym}}
use Rattle.base.specs.declared.ids.ObjId.{ObjId}
use Rattle.machine.{specs.{declared.object.Object.Object, Machine.{Machine, object_of, same_id}}, proofs.Ids.{at_itself, at_other}}
use Rattle.machine.proofs.Ids.{one_or_two}

abbrev pub SetsObject : Machine → ObjId → Object → Machine → Type 0
SetsObject m id object next = (q : ObjId) → object_of next q ≡ (if same_id q id then Some object else object_of m q)

module _ (m next : Machine) (id : ObjId) (object : Object) (sets : SetsObject m id object next) where
  pub set_there : object_of next id ≡ Some object
  set_there = sets id ∙ at_itself id (Some object) (object_of m id)

  pub set_elsewhere : (q : ObjId) → q ≢ id → object_of next q ≡ object_of m q
  set_elsewhere q differs = sets q ∙ at_other q id (Some object) (object_of m q) differs

  -- contents other than the new ones were there before
  pub other_before : (q : ObjId) (other : Object) → other ≢ object → object_of next q ≡ Some other → object_of m q ≡ Some other
  other_before q other differs e = by_id (one_or_two q id) where
    by_id : (q ≡ id) ⊎ (q ≢ id) → object_of m q ≡ Some other
    by_id (inl same) = let now : Some other ≡ Some object = sym e ∙ ap (object_of next) same ∙ set_there in absurd (differs cc)
    by_id (inr apart) = sym (set_elsewhere q apart) ∙ e

  -- contents other than the old ones are still there
  pub other_after :
      (old : Object) → object_of m id ≡ Some old → (q : ObjId) (other : Object) → other ≢ old → object_of m q ≡ Some other
      → object_of next q ≡ Some other
  other_after old was q other differs e = by_id (one_or_two q id) where
    by_id : (q ≡ id) ⊎ (q ≢ id) → object_of next q ≡ Some other
    by_id (inl same) = let now : Some other ≡ Some old = sym e ∙ ap (object_of m) same ∙ was in absurd (differs cc)
    by_id (inr apart) = set_elsewhere q apart ∙ e
