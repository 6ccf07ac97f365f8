-- A sound machine keeps what holds between the parts of a step.
use Rattle.std.proofs.{Common.{◌∙◌, ◌≡◌, None, Option, Some, refl, sym}, lemmas.Option.none-some}
use Rattle.base.specs.declared.ids.ObjId.{ObjId}
use Rattle.machine.specs.{declared.object.Object.Object, Layout.Layout, Machine.{Machine, cap_of, object_of, queue_of, words_of}}
use Rattle.{machine.specs.WellFormed.IsWellFormed, policy.specs.Domain.EdgeTest, integrity.specs.Invariant.{IsBare, IsHeld, IsSound}}

-- what only a present object has, an absent one hasn't
missing :
    {X : Type 0} (m : Machine) (id : ObjId) (part : Option X) → object_of m id ≡ None
    → ((x : X) → part ≡ Some x → (object : Object) × (object_of m id ≡ Some object)) → part ≡ None
missing m id None absent there = refl
missing m id (Some x) absent there = let object = there x refl in absurd (none-some object.0 (sym absent ∙ object.1))

-- an absent object has nothing
pub bare_of : (m : Machine) → IsWellFormed m → (id : ObjId) → object_of m id ≡ None → IsBare m id
bare_of m formed id absent = record {
  queue = missing m id (queue_of m id) absent (λ threads at. formed.parts.queue_of_object id threads at);
  words = missing m id (words_of m id) absent (λ words at. formed.parts.words_of_object id words at);
  slots = λ index.
      missing m id (cap_of m (record { holder = id; index = index })) absent
      (λ cap at. let holder = formed.slots.holder (record { holder = id; index = index }) cap at in (holder.0, holder.1));
}

pub held_of : (t : Layout) (allowed : EdgeTest) (m : Machine) → IsSound t allowed m → IsHeld t allowed m
held_of t allowed m sound = record {
  of_table = sound.of_table;
  confined = sound.confined;
  nodes = sound.nodes;
  idlers = sound.idlers;
  borrowers = sound.borrowers;
  kinds = sound.well_formed.slots.object;
  numbered = sound.well_formed.numbers.below_next;
  bare = bare_of m sound.well_formed;
}
