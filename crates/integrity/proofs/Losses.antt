-- Losses of an object are shrinking.
use Rattle.std.proofs.Common.{[], ℕ, ◌++◌, ◌<◌, ◌∙◌, ◌∷◌, ◌≡◌, ◌≢◌, ◌⊎◌, List, None, Some, ap, arith, inl, inr, refl}
use Rattle.{std.proofs.lemmas.Bool.cases_order, base.specs.declared.ids.{ObjId.ObjId, SlotRef.SlotRef}}
use Rattle.machine.specs.declared.{object.Object.Object, thread.RunState.{RunState, RunState as state}}
use Rattle.machine.specs.Machine.{Machine, cap_of, object_of, queue_of, with_object, with_queue, words_of}
use Rattle.machine.proofs.{Ids.at_itself, LookUps.{cap_of-with_object, cap_of-with_queue, object_of-with_object, object_of-with_queue}}
use Rattle.machine.proofs.LookUps.{queue_of-with_object, queue_of-with_queue, words_of-with_object, words_of-with_queue}
use Rattle.integrity.specs.Shrinks.{IsBlocked, IsPart, IsPart.{ended, left, stayed}, Lessens, Lessens.as_it_was, Shrinks}

pub all_stayed : (all : List ObjId) → IsPart all all
all_stayed [] = ended
all_stayed (x ∷ all) = stayed (all_stayed all)

one_left : (before after : List ObjId) (thread : ObjId) → IsPart (before ++ after) (before ++ thread ∷ after)
one_left [] after thread = left (all_stayed after)
one_left (x ∷ before) after thread = stayed (one_left before after thread)

-- a thread that is neither ready nor inactive is blocked
pub blocked : (run : RunState) → run ≢ state.Ready → run ≢ state.Inactive → IsBlocked run
blocked (state.Sending _) awake active = tt
blocked (state.Receiving _) awake active = tt
blocked (state.Waiting _) awake active = tt
blocked (state.Called _) awake active = tt
blocked state.Ready awake active = absurd (awake refl)
blocked state.Inactive awake active = absurd (active refl)

-- a content becomes less
pub lessened :
    (m : Machine) (id : ObjId) (old new : Object) (threads : List ObjId) → object_of m id ≡ Some old → queue_of m id ≡ Some threads
    → Lessens old new → Shrinks m (with_object m id new) id
lessened m id old new threads was waited less = inr (record {
  old = old;
  new = new;
  was = was;
  is = object_of-with_object m id new id ∙ at_itself id (Some new) (object_of m id);
  content = less;
  waited = threads;
  waiting = threads;
  queue_was = waited;
  queue_is = queue_of-with_object m id new id ∙ waited;
  queue = all_stayed threads;
  words = words_of-with_object m id new id;
  slots = λ index. inl (cap_of-with_object m id new (record { holder = id; index = index }));
})

pub member_left :
    (m : Machine) (id thread : ObjId) (object : Object) (before after : List ObjId) → object_of m id ≡ Some object
    → queue_of m id ≡ Some (before ++ thread ∷ after)
    → Shrinks m (with_queue m id (before ++ after)) id
member_left m id thread object before after there waited = inr (record {
  old = object;
  new = object;
  was = there;
  is = object_of-with_queue m id (before ++ after) id ∙ there;
  content = as_it_was refl;
  waited = before ++ thread ∷ after;
  waiting = before ++ after;
  queue_was = waited;
  queue_is =
      queue_of-with_queue m id (before ++ after) id ∙ at_itself id (Some (before ++ after)) (queue_of m id);
  queue = one_left before after thread;
  words = words_of-with_queue m id (before ++ after) id;
  slots = λ index. inl (cap_of-with_queue m id (before ++ after) (record { holder = id; index = index }));
})

pub capability_left :
    (m next : Machine) (slot : SlotRef) (object : Object) (threads : List ObjId) → object_of m slot.holder ≡ Some object
    → queue_of m slot.holder ≡ Some threads → object_of next slot.holder ≡ object_of m slot.holder
    → queue_of next slot.holder ≡ queue_of m slot.holder → words_of next slot.holder ≡ words_of m slot.holder
    → cap_of next slot ≡ None
    → ((other : SlotRef) → other.holder ≡ slot.holder → other.index ≢ slot.index → cap_of next other ≡ cap_of m other)
    → Shrinks m next slot.holder
capability_left m next slot object threads there waited content queue words emptied others = inr (record {
  old = object;
  new = object;
  was = there;
  is = content ∙ there;
  content = as_it_was refl;
  waited = threads;
  waiting = threads;
  queue_was = waited;
  queue_is = queue ∙ waited;
  queue = all_stayed threads;
  words = words;
  slots = λ index. by index (cases_order index slot.index);
}) where
  by :
      (index : ℕ) → (index ≡ slot.index) ⊎ ((index < slot.index) ⊎ (slot.index < index))
      → (cap_of next (record { holder = slot.holder; index = index }) ≡ cap_of m (record { holder = slot.holder; index = index }))
      ⊎ (cap_of next (record { holder = slot.holder; index = index }) ≡ None)
  by index (inl same) = inr (ap (λ i. cap_of next (record { holder = slot.holder; index = i })) same ∙ emptied)
  by index (inr apart) = inl (others (record { holder = slot.holder; index = index }) refl (λ same. elim apart [ inl less ↦ omega arith | inr more ↦ omega arith ]))
