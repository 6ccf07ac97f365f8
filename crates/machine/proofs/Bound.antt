-- Objects bound at boot: they keep their kind, their number of slots and their range.
use Rattle.std.specs.Prelude.{◌≡◌, refl}
use Rattle.base.specs.declared.ids.ObjId.{ObjId}
use Rattle.machine.specs.{declared.object.Object.{Object, Object as o}, Boot.bound, Layout.Layout, Objects.{address_of, end_of}}
use Rattle.machine.specs.Objects.{kind_of_object, slot_count}

pub kind-bound : (t : Layout) (id : ObjId) (object : Object) → kind_of_object (bound t id object) ≡ kind_of_object object
kind-bound t id (o.Tcb _) = refl
kind-bound t id (o.Context _) = refl
kind-bound t id _ = refl

pub slot_count-bound : (t : Layout) (id : ObjId) (object : Object) → slot_count (bound t id object) ≡ slot_count object
slot_count-bound t id (o.Tcb _) = refl
slot_count-bound t id (o.Context _) = refl
slot_count-bound t id _ = refl

pub address-bound : (t : Layout) (id : ObjId) (object : Object) → address_of (bound t id object) ≡ address_of object
address-bound t id (o.Tcb _) = refl
address-bound t id (o.Context _) = refl
address-bound t id _ = refl

pub end-bound : (t : Layout) (id : ObjId) (object : Object) → end_of (bound t id object) ≡ end_of object
end-bound t id (o.Tcb _) = refl
end-bound t id (o.Context _) = refl
end-bound t id _ = refl
