-- Labels of objects: an object's label depends on its number and its address alone.
use Rattle.std.proofs.Common.{ℕ, ◌∙◌, ◌≡◌, None, Option, Some, ap, if◌then◌else◌, length, nat_lt, option_and_then, option_map, sym}
use Rattle.{std.proofs.lemmas.Option.none-some, base.specs.declared.ids.ObjId.ObjId}
use Rattle.machine.specs.{declared.object.{Object.Object, ObjectKind.ObjectKind}, Authority.{label_at, label_of}, Layout.Layout}
use Rattle.machine.specs.{Layout.declared_label, Machine.{Machine, object_of}, Objects.{address_of, kind_of_object}, WellFormed.kind_of}

-- the label of a number and an address
label_by : Layout → ObjId → ℕ → Option ℕ
label_by t id address = if nat_lt id.0 (length t.objects) then declared_label t id else label_at t address

-- an object has the same label in two machines if it is in both or in neither, and its address stays
module _ (t : Layout) (m next : Machine) (id : ObjId) where
  label_there : (n : Machine) (object : Object) → object_of n id ≡ Some object → label_of t n id ≡ label_by t id (address_of object)
  unfolding label_of label_by
  label_there n object at =
      ap (option_and_then (λ (x : Object). if nat_lt id.0 (length t.objects) then declared_label t id else label_at t (address_of x))) at

  pub same_label : object_of next id ≡ object_of m id → label_of t next id ≡ label_of t m id
  unfolding label_of
  same_label =
      ap (option_and_then (λ (x : Object). if nat_lt id.0 (length t.objects) then declared_label t id else label_at t (address_of x)))

  pub label_stays :
      (old new : Object) → object_of m id ≡ Some old → object_of next id ≡ Some new → address_of new ≡ address_of old
      → label_of t next id ≡ label_of t m id
  label_stays old new was is same = label_there next new is ∙ ap (label_by t id) same ∙ sym (label_there m old was)

  pub kind_stays :
      (old new : Object) → object_of m id ≡ Some old → object_of next id ≡ Some new → kind_of_object new ≡ kind_of_object old
      → kind_of next id ≡ kind_of m id
  kind_stays old new was is same = ap (option_map kind_of_object) is ∙ ap Some same ∙ sym (ap (option_map kind_of_object) was)

-- an object that has a label, or a kind, is there

pub labelled_there :
    (t : Layout) (m : Machine) (id : ObjId) (label : ℕ) → label_of t m id ≡ Some label
    → (object : Object) × (object_of m id ≡ Some object)
unfolding label_of
labelled_there t m id label is = by (object_of m id) (λ i. object_of m id) is where
  by :
      (object : Option Object) → object_of m id ≡ object
      → option_and_then (λ (x : Object). if nat_lt id.0 (length t.objects) then declared_label t id else label_at t (address_of x)) object ≡ Some label
      → (there : Object) × (object_of m id ≡ Some there)
  by None at e = absurd (none-some label e)
  by (Some object) at e = (object, at)

pub kind_there :
    (m : Machine) (id : ObjId) (kind : ObjectKind) → kind_of m id ≡ Some kind → (object : Object) × (object_of m id ≡ Some object)
kind_there m id kind is = by (object_of m id) (λ i. object_of m id) is where
  by : (object : Option Object) → object_of m id ≡ object → option_map kind_of_object object ≡ Some kind → (there : Object) × (object_of m id ≡ Some there)
  by None at e = absurd (none-some kind e)
  by (Some object) at e = (object, at)
