-- Changes to an object that is there and of the right kind, else none: its watermark, word, content, words of memory, waiting threads and
-- removal; and what is going (seL4 manual, "Untyped Memory", "Notifications", "Threads and Execution", "Endpoints" and "Scheduling
-- Contexts").
use Rattle.std.specs.FinMap as map
use Rattle.std.specs.Prelude.{[], ℕ, ◌++◌, ◌∷◌, List, None, Option, Some, filter, not, option_and_then, slice_get, slice_set}
use Rattle.base.specs.declared.ids.ObjId.{ObjId}
use Rattle.machine.specs.{declared.{object.{Context.Context, Object.{Object, Object as o}, Reply.Reply}, thread.Tcb.Tcb}, Machine.Machine}
use Rattle.machine.specs.Machine.{object_of, queue_of, same_id, with_object, with_queue, words_of}

unfoldable pub with_watermark : Machine → ObjId → ℕ → Machine
with_watermark m id mark = by_content (object_of m id) where
  by_content : Option Object → Machine
  by_content (Some (o.Untyped memory)) = with_object m id (o.Untyped (record memory { watermark = mark }))
  by_content _ = m

unfoldable pub with_pending : Machine → ObjId → Option ℕ → Machine
with_pending m id word = by_content (object_of m id) where
  by_content : Option Object → Machine
  by_content (Some (o.Notification notification)) = with_object m id (o.Notification (record notification { pending = word }))
  by_content _ = m

unfoldable pub with_tcb : Machine → ObjId → Tcb → Machine
with_tcb m id thread = by_content (object_of m id) where
  by_content : Option Object → Machine
  by_content (Some (o.Tcb _)) = with_object m id (o.Tcb thread)
  by_content _ = m

unfoldable pub with_reply : Machine → ObjId → Reply → Machine
with_reply m id holding = by_content (object_of m id) where
  by_content : Option Object → Machine
  by_content (Some (o.Reply _)) = with_object m id (o.Reply holding)
  by_content _ = m

unfoldable pub with_context : Machine → ObjId → Context → Machine
with_context m id context = by_content (object_of m id) where
  by_content : Option Object → Machine
  by_content (Some (o.Context _)) = with_object m id (o.Context context)
  by_content _ = m

-- the words of an object's memory
unfoldable pub with_words : Machine → ObjId → List ℕ → Machine
with_words m id words = record m { words = map.insert m.words id words }

-- one of the words of an object's memory
unfoldable pub with_word : Machine → ObjId → ℕ → ℕ → Machine
with_word m id index word = by_words (words_of m id) where
  by_words : Option (List ℕ) → Machine
  by_words (Some words) = with_words m id (slice_set words index word)
  by_words None = m

-- the thread that waits first at an object
unfoldable pub first_waiting : Machine → ObjId → Option ObjId
first_waiting m id = option_and_then (λ threads. slice_get threads 0) (queue_of m id)

-- a thread begins to wait at an object, after those that wait there
unfoldable pub with_waiting : Machine → ObjId → ObjId → Machine
with_waiting m id thread = by_queue (queue_of m id) where
  by_queue : Option (List ObjId) → Machine
  by_queue (Some threads) = with_queue m id (threads ++ thread ∷ [])
  by_queue None = m

-- the thread that waits first at an object leaves
unfoldable pub without_first : Machine → ObjId → Machine
without_first m id = by_queue (queue_of m id) where
  by_queue : Option (List ObjId) → Machine
  by_queue (Some (_ ∷ threads)) = with_queue m id threads
  by_queue _ = m

-- a thread that waits at an object leaves, and the others stay in their order
unfoldable pub without_waiting : Machine → ObjId → ObjId → Machine
without_waiting m id thread = by_queue (queue_of m id) where
  by_queue : Option (List ObjId) → Machine
  by_queue (Some threads) = with_queue m id (filter (λ other. not (same_id other thread)) threads)
  by_queue None = m

-- an object goes, with its queue and its words; its number isn't used again
unfoldable pub without_object : Machine → ObjId → Machine
without_object m id =
    record m {
      objects = map.remove m.objects id;
      queues = map.remove m.queues id;
      words = map.remove m.words id;
    }

-- one more object is found to be going
unfoldable pub with_going : Machine → ObjId → Machine
with_going m id = record m { going = m.going ++ id ∷ [] }

-- no object is found to be going
unfoldable pub with_none_going : Machine → Machine
with_none_going m = record m { going = [] }
