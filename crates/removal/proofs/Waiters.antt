-- Threads that wait at an object, to be aborted: once the first is, the others are left to be.
use Rattle.std.{specs.{List.fold, Prelude.{None, Option, Some, option_map}}, proofs.Common.{[], ◌<◌, ◌∙◌, ◌∷◌, ◌≡◌}}
use Rattle.{std.proofs.Common.{List, ap, arith, length, refl, sym}, base.specs.declared.ids.ObjId.ObjId}
use Rattle.machine.specs.{declared.thread.Tcb.Tcb, Changes.first_waiting, Finalising.aborted, Machine.{Machine, queue_of}}
use Rattle.machine.{specs.{Releasing.with_aborted, WellFormed.{IsThread, LinksAgree}}, proofs.HeldThreads.links_of}
use Rattle.machine.proofs.{Leaving.{aborted_is, released_queues, without, without_itself}, Queues.{first_in, once_first, queue_by_first}}
use Rattle.{steps.proofs.Releases.{links_released, released_is}, removal.specs.Finalised.{members, with_waiters_aborted}}

pub record FirstAborted (m : Machine) (id first : ObjId) : Type 0 where
  pub agreed : LinksAgree (with_aborted m first)
  pub same : with_waiters_aborted (with_aborted m first) id ≡ with_waiters_aborted m id
  pub fewer : length (members (queue_of (with_aborted m first) id)) < length (members (queue_of m id))

module _ (m : Machine) (links : LinksAgree m) (id : ObjId) where
  module _ (first : ObjId) (e : first_waiting m id ≡ Some first) where
    others : List ObjId
    others = (queue_by_first m id first e).0

    queue : queue_of m id ≡ Some (first ∷ others)
    unfolding others
    queue = (queue_by_first m id first e).1

    thread : (tcb : Tcb) × IsThread m first tcb
    thread = let w = links.queued id (first ∷ others) first queue (first_in first others) in (w.0, w.2)

    rest : queue_of (with_aborted m first) id ≡ Some others
    rest =
        ap (λ (n : Machine). queue_of n id) (aborted_is m first thread.0 thread.1)
        ∙ (released_queues m first thread.0 (aborted thread.0) thread.1 (links_of m links first thread.0 thread.1) id
        ∙ ap (option_map (without first)) queue
        ∙ ap (λ x. Some x) (without_itself first others (λ within. once_first first others (links.once id (first ∷ others) queue) first within refl)))

    same_result : with_waiters_aborted (with_aborted m first) id ≡ with_waiters_aborted m id
    unfolding with_waiters_aborted
    same_result =
        ap (λ (q : Option (List ObjId)). fold with_aborted (with_aborted m first) (members q)) rest
        ∙ sym (ap (λ (q : Option (List ObjId)). fold with_aborted m (members q)) queue)

    less : length (members (queue_of (with_aborted m first) id)) < length (members (queue_of m id))
    less =
        let now : length (members (queue_of (with_aborted m first) id)) ≡ length others =
        ap (λ (q : Option (List ObjId)). length (members q)) rest in
        let was : length (members (queue_of m id)) ≡ length (first ∷ others) =
        ap (λ (q : Option (List ObjId)). length (members q)) queue in
        omega arith

    pub first_aborted : FirstAborted m id first
    first_aborted =
        record {
          agreed =
              links_released m (with_aborted m first) first (aborted thread.0) (released_is m first thread.0 aborted links thread.1)
              thread.0 thread.1 refl tt links;
          same = same_result;
          fewer = less;
        }

  pub none_left : first_waiting m id ≡ None → with_waiters_aborted m id ≡ m
  unfolding first_waiting with_waiters_aborted
  none_left nobody = by_queue (queue_of m id) refl where
    by_queue : (queue : Option (List ObjId)) → queue_of m id ≡ queue → with_waiters_aborted m id ≡ m
    by_queue None is = rw is refl
    by_queue (Some []) is = rw is refl
    by_queue (Some (first ∷ rest)) is = let some = rw is at nobody in cc
