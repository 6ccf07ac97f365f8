-- Changes of two machines that keep each object the same in both that was the same before: an object after such a change depends only on
-- that object before.
use Rattle.std.specs.{FinMap.get-insert, Prelude.{[], List, Option, Some, cond, option_map, slice_set}}
use Rattle.std.proofs.{Common.{ℕ, ◌++◌, ◌∙◌, ◌∷◌, ◌≡◌, ◌≢◌, Bool, ap, false, refl, subst, sym, true}, lemmas.Option.same_Some}
use Rattle.base.specs.declared.ids.{ObjId.ObjId, SlotRef.SlotRef}
use Rattle.machine.specs.declared.object.{Context.Context, Notification.Notification, Object.{Object, Object as o}, Share.Share}
use Rattle.machine.specs.{declared.thread.{RunState.RunState, Tcb.Tcb}, Changes.{with_pending, with_tcb, with_word, with_words}}
use Rattle.machine.specs.Machine.{Machine, cap_of, object_of, queue_of, same_id, with_object, with_queue, words_of}
use Rattle.machine.specs.{Releasing.{SameRest, with_blocked, with_released}, Step.{Configure.with_share, Fetch.emptied}}
use Rattle.machine.{specs.WellFormed.{IsThread, LinksAgree, WaitsAt}, proofs.{Ids.at_other, Leaving.{freed, tcb_is, without}}}
use Rattle.machine.proofs.LookUps.{id_total, object_of-with_object, one_id, queue_of-with_object, queue_of-with_queue}
use Rattle.steps.proofs.{ContextsFormed.share_is, Joins.blocked_is, NotificationRow.with_pending_there, Releases.{IsReleased, released_is}}
use Rattle.{steps.proofs.Releases.{rest_caps, rest_words}, integrity.{specs.Shrinks.IsSame, proofs.Shrinking.{same_context, same_tcb}}}

same_notification : (a b : Notification) → o.Notification a ≡ o.Notification b → a ≡ b
same_notification a b e = cc

-- what is the same in two machines is the same in the two that follow them
abbrev pub Carries : Machine → Machine → Machine → Machine → Type 0
Carries m n next after = (q : ObjId) → IsSame m n q → IsSame next after q

pub carries_along :
    (m n mid half next after : Machine) → Carries m n mid half → Carries mid half next after → Carries m n next after
carries_along m n mid half next after one two q same = two q (one q same)

-- one place of two maps gets contents that are the same if the old contents were
module _ {X : Type 0} (id q : ObjId) (old was new now : Option X) where
  placed_alike : (old ≡ was) → (q ≡ id → new ≡ now) → cond (same_id q id) new old ≡ cond (same_id q id) now was
  placed_alike rest here = by_tie (same_id q id) refl where
    by_tie : (tie : Bool) → same_id q id ≡ tie → cond tie new old ≡ cond tie now was
    by_tie true e = here (one_id q id e)
    by_tie false e = rest

module _ (m n : Machine) (id : ObjId) where
  pub object_carries : (new now : Object) → (IsSame m n id → now ≡ new) → Carries m n (with_object m id new) (with_object n id now)
  unfolding with_object queue_of words_of cap_of
  object_carries new now settles q same = record {
    content =
        object_of-with_object n id now q
        ∙ placed_alike id q (object_of n q) (object_of m q) (Some now) (Some new) same.content
        (λ here. ap Some (settles (subst (λ (x : ObjId). IsSame m n x) here same)))
        ∙ sym (object_of-with_object m id new q);
    queue = same.queue;
    words = same.words;
    slots = same.slots;
  }

  pub queue_carries :
      (new now : List ObjId) → (IsSame m n id → now ≡ new) → Carries m n (with_queue m id new) (with_queue n id now)
  unfolding with_queue object_of words_of cap_of
  queue_carries new now settles q same = record {
    content = same.content;
    queue =
        queue_of-with_queue n id now q
        ∙ placed_alike id q (queue_of n q) (queue_of m q) (Some now) (Some new) same.queue
        (λ here. ap Some (settles (subst (λ (x : ObjId). IsSame m n x) here same)))
        ∙ sym (queue_of-with_queue m id new q);
    words = same.words;
    slots = same.slots;
  }

  words_carry : (new now : List ℕ) → (IsSame m n id → now ≡ new) → Carries m n (with_words m id new) (with_words n id now)
  unfolding with_words object_of queue_of words_of cap_of
  words_carry new now settles q same = record {
    content = same.content;
    queue = same.queue;
    words =
        get-insert id_total n.words id now q
        ∙ placed_alike id q (words_of n q) (words_of m q) (Some now) (Some new) same.words
        (λ here. ap Some (settles (subst (λ (x : ObjId). IsSame m n x) here same)))
        ∙ sym (get-insert id_total m.words id new q);
    slots = same.slots;
  }

  -- changes of an object of a kind, if both machines have it

  pub tcb_carries :
      (old was new now : Tcb) → IsThread m id old → IsThread n id was → (IsSame m n id → now ≡ new)
      → Carries m n (with_tcb m id new) (with_tcb n id now)
  tcb_carries old was new now there here settles =
      subst (λ (x : Machine). Carries m n x (with_tcb n id now)) (sym (tcb_is m id old new there))
      (subst (λ (x : Machine). Carries m n (with_object m id (o.Tcb new)) x) (sym (tcb_is n id was now here))
      (object_carries (o.Tcb new) (o.Tcb now) (λ same. ap o.Tcb (settles same))))

  pub word_carries :
      (words others : List ℕ) (index word : ℕ) → words_of m id ≡ Some words → words_of n id ≡ Some others
      → Carries m n (with_word m id index word) (with_word n id index word)
  unfolding with_word
  word_carries words others index word there here =
      rw (there, here)
      (words_carry (slice_set words index word) (slice_set others index word)
      (λ same. ap (λ (l : List ℕ). slice_set l index word) (same_Some others words (sym here ∙ same.words ∙ there))))

  pub pending_carries :
      (old was : Notification) (word now : Option ℕ) → object_of m id ≡ Some (o.Notification old)
      → object_of n id ≡ Some (o.Notification was) → (IsSame m n id → now ≡ word)
      → Carries m n (with_pending m id word) (with_pending n id now)
  pending_carries old was word now there here settles =
      subst (λ (x : Machine). Carries m n x (with_pending n id now)) (sym (with_pending_there m id old word there))
      (subst (λ (x : Machine). Carries m n (with_object m id (o.Notification (record old { pending = word }))) x)
      (sym (with_pending_there n id was now here))
      (object_carries _ _
      (λ same i.
      o.Notification (record {
        address = (same_notification was old (same_Some (o.Notification was) (o.Notification old) (sym here ∙ same.content ∙ there)) i).address;
        pending = settles same i;
      }))))

  pub share_carries :
      (old was : Context) (share : Share) → object_of m id ≡ Some (o.Context old) → object_of n id ≡ Some (o.Context was)
      → Carries m n (with_share m id share) (with_share n id share)
  share_carries old was share there here =
      subst (λ (x : Machine). Carries m n x (with_share n id share)) (sym (share_is m id old share there))
      (subst (λ (x : Machine). Carries m n (with_object m id (o.Context (record old { share = Some share }))) x)
      (sym (share_is n id was share here))
      (object_carries _ _
      (λ same.
      ap (λ (c : Context). o.Context (record c { share = Some share }))
      (same_context was old (same_Some (o.Context was) (o.Context old) (sym here ∙ same.content ∙ there))))))

  -- a thread that is the same in both empties its inbox
  pub emptied_carries : (tcb : Tcb) → IsThread m id tcb → IsThread n id tcb → Carries m n (emptied m id) (emptied n id)
  unfolding emptied
  emptied_carries tcb there here = rw (there, here) (tcb_carries tcb tcb _ _ there here (λ same. refl))

  -- a thread leaves its queue and its reply
  pub released_carries :
      (old was : Tcb) (change : Tcb → Tcb) → LinksAgree m → LinksAgree n → IsThread m id old → IsThread n id was
      → Carries m n (with_released m id change) (with_released n id change)
  released_carries old was change links others there here q same =
      let one : IsReleased m id (change old) (with_released m id change) = released_is m id old change links there in
      let two : IsReleased n id (change was) (with_released n id change) = released_is n id was change others here in
      record {
        content =
            two.objects q
            ∙ placed_alike id q (option_map (freed id) (object_of n q)) (option_map (freed id) (object_of m q)) (Some (o.Tcb (change was)))
            (Some (o.Tcb (change old))) (ap (option_map (freed id)) same.content)
            (λ at.
            ap (λ (tcb : Tcb). Some (o.Tcb (change tcb)))
            (same_tcb was old
            (same_Some (o.Tcb was) (o.Tcb old)
            (sym here ∙ ap (object_of n) (sym at) ∙ same.content ∙ ap (object_of m) at ∙ there))))
            ∙ sym (one.objects q);
        queue = two.queues q ∙ ap (option_map (without id)) same.queue ∙ sym (one.queues q);
        words = rest_words n (with_released n id change) two.rest q ∙ same.words ∙ sym (rest_words m (with_released m id change) one.rest q);
        slots = λ index.
            let slot : SlotRef = record { holder = q; index = index } in
            rest_caps n (with_released n id change) two.rest slot ∙ same.slots index
            ∙ sym (rest_caps m (with_released m id change) one.rest slot);
      }

-- a thread comes to wait at an object
module _
    (m n : Machine) (thread id : ObjId) (old was : Tcb) (run : RunState) (threads others : List ObjId) (there : IsThread m thread old)
    (here : IsThread n thread was) (waited : queue_of m id ≡ Some threads) (queued : queue_of n id ≡ Some others)
    (waits : WaitsAt run id) where
  abbrev mid : Machine
  mid = with_object m thread (o.Tcb (record old { state = run }))

  abbrev half : Machine
  half = with_object n thread (o.Tcb (record was { state = run }))

  threads_carry : Carries m n mid half
  threads_carry =
      object_carries m n thread (o.Tcb (record old { state = run })) (o.Tcb (record was { state = run }))
      (λ same.
      ap (λ (tcb : Tcb). o.Tcb (record tcb { state = run }))
      (same_tcb was old (same_Some (o.Tcb was) (o.Tcb old) (sym here ∙ same.content ∙ there))))

  queues_carry : Carries mid half (with_queue mid id (threads ++ thread ∷ [])) (with_queue half id (others ++ thread ∷ []))
  queues_carry =
      queue_carries mid half id (threads ++ thread ∷ []) (others ++ thread ∷ [])
      (λ same.
      ap (λ (l : List ObjId). l ++ thread ∷ [])
      (same_Some others threads
      (sym (queue_of-with_object n thread (o.Tcb (record was { state = run })) id ∙ queued) ∙ same.queue
      ∙ (queue_of-with_object m thread (o.Tcb (record old { state = run })) id ∙ waited))))

  pub blocked_carries : Carries m n (with_blocked m thread id run) (with_blocked n thread id run)
  blocked_carries =
      subst (λ (x : Machine). Carries m n x (with_blocked n thread id run))
      (sym (blocked_is m thread id threads old run there waited waits))
      (subst (λ (x : Machine). Carries m n (with_queue mid id (threads ++ thread ∷ [])) x)
      (sym (blocked_is n thread id others was run here queued waits))
      (carries_along m n mid half (with_queue mid id (threads ++ thread ∷ [])) (with_queue half id (others ++ thread ∷ []))
      threads_carry queues_carry))

-- what stays in each of two machines stays the same
pub same_around :
    (m n next after : Machine) (id : ObjId) → IsSame m next id → IsSame n after id → IsSame m n id → IsSame next after id
same_around m n next after id one two same = record {
  content = two.content ∙ same.content ∙ sym one.content;
  queue = two.queue ∙ same.queue ∙ sym one.queue;
  words = two.words ∙ same.words ∙ sym one.words;
  slots = λ index. two.slots index ∙ same.slots index ∙ sym (one.slots index);
}

-- an object changes, and nothing beside it; and a queue

pub object_beside : (m : Machine) (id : ObjId) (object : Object) (q : ObjId) → q ≢ id → IsSame m (with_object m id object) q
unfolding with_object queue_of words_of cap_of
object_beside m id object q apart = record {
  content = object_of-with_object m id object q ∙ at_other q id (Some object) (object_of m q) apart;
  queue = refl;
  words = refl;
  slots = λ index. refl;
}

pub queue_beside : (m : Machine) (id : ObjId) (threads : List ObjId) (q : ObjId) → q ≢ id → IsSame m (with_queue m id threads) q
unfolding with_queue object_of words_of cap_of
queue_beside m id threads q apart = record {
  content = refl;
  queue = queue_of-with_queue m id threads q ∙ at_other q id (Some threads) (queue_of m q) apart;
  words = refl;
  slots = λ index. refl;
}

-- each object becomes what its number and its content determine, and nothing else changes
pub record Turns (m : Machine) (becomes : ObjId → Object → Object) (next : Machine) : Type 0 where
  pub objects : (q : ObjId) → object_of next q ≡ option_map (becomes q) (object_of m q)
  pub queues : (q : ObjId) → queue_of next q ≡ queue_of m q
  pub rest : SameRest m next

pub turns_carry :
    (m n next after : Machine) (becomes : ObjId → Object → Object) → Turns m becomes next → Turns n becomes after
    → Carries m n next after
turns_carry m n next after becomes one two q same = record {
  content = two.objects q ∙ ap (option_map (becomes q)) same.content ∙ sym (one.objects q);
  queue = two.queues q ∙ same.queue ∙ sym (one.queues q);
  words = rest_words n after two.rest q ∙ same.words ∙ sym (rest_words m next one.rest q);
  slots = λ index.
      let slot : SlotRef = record { holder = q; index = index } in
      rest_caps n after two.rest slot ∙ same.slots index ∙ sym (rest_caps m next one.rest slot);
}
