-- Changes of an object's content, or of the threads that wait at it, touch that object alone.
use Rattle.std.proofs.Common.{ℕ, ◌∙◌, ◌≡◌, List, Some}
use Rattle.base.specs.declared.ids.ObjId.{ObjId}
use Rattle.machine.specs.{declared.{call.Event.Event, object.Object.Object}, Layout.Layout, Machine.{Machine, object_of, queue_of}}
use Rattle.machine.{specs.Machine.{with_object, with_queue}, proofs.{Ids.{at_itself, at_other}, LookUps.cap_of-with_object}}
use Rattle.machine.proofs.LookUps.{cap_of-with_queue, number_of-with_object, number_of-with_queue, object_of-with_object}
use Rattle.machine.proofs.LookUps.{object_of-with_queue, parent_of-with_object, parent_of-with_queue, queue_of-with_object}
use Rattle.{machine.proofs.LookUps.{queue_of-with_queue, words_of-with_object, words_of-with_queue}, policy.specs.Domain.EdgeTest}
use Rattle.integrity.{specs.Invariant.IsHeld, proofs.{Keeps.{Alters, Keeps}, TouchKeeps.{Fits, same_fits, touch_keeps}}}

module _ (t : Layout) (allowed : EdgeTest) (began : Machine) (event : Event) (a : ℕ) (m : Machine) (id : ObjId) (held : IsHeld t allowed m) where
  pub set_keeps :
      (old new : Object) → Fits t allowed began event a m id old new → Alters t allowed began a m (with_object m id new) id
      → Keeps t allowed began event a m (with_object m id new)
  set_keeps old new fits may =
      touch_keeps t allowed began event a m id old new (with_object m id new) held fits
      (record {
        contents = λ q apart. object_of-with_object m id new q ∙ at_other q id (Some new) (object_of m q) apart;
        queues = λ q apart. queue_of-with_object m id new q;
        words = λ q apart. words_of-with_object m id new q;
        caps = cap_of-with_object m id new;
        parents = parent_of-with_object m id new;
        number = number_of-with_object m id new;
      })
      (object_of-with_object m id new id ∙ at_itself id (Some new) (object_of m id)) may

  pub queue_keeps :
      (object : Object) (threads : List ObjId) → object_of m id ≡ Some object
      → Alters t allowed began a m (with_queue m id threads) id → Keeps t allowed began event a m (with_queue m id threads)
  queue_keeps object threads there may =
      touch_keeps t allowed began event a m id object object (with_queue m id threads) held
      (same_fits t allowed began event a m id held object there)
      (record {
        contents = λ q apart. object_of-with_queue m id threads q;
        queues = λ q apart. queue_of-with_queue m id threads q ∙ at_other q id (Some threads) (queue_of m q) apart;
        words = λ q apart. words_of-with_queue m id threads q;
        caps = cap_of-with_queue m id threads;
        parents = parent_of-with_queue m id threads;
        number = number_of-with_queue m id threads;
      })
      (object_of-with_queue m id threads id ∙ there) may
