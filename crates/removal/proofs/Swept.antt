-- The rest of a removal once all that goes is empty: pass by pass, it ends as the removal does.
use Rattle.std.specs.{FinMap.FinMap, List.list_any, Prelude.{Contains, IsTrue, None, Option, Some, count_by, option_map}}
use Rattle.std.proofs.{Common.{◌∙◌, ◌≡◌, Bool, List, ap, cond, false, inl, inr, refl, subst, sym, true}, lemmas.Bool.false≢true}
use Rattle.base.specs.declared.ids.{ObjId.ObjId, SlotRef.SlotRef}
use Rattle.machine.specs.{declared.{cap.Cap.Cap, object.Object.Object}, Counts.caps_to, Finalising.{finalised, staying_in}, Gone.is_for}
use Rattle.machine.specs.Machine.{Machine, cap_of, has_slot, object_of, parent_of, queue_of, same_id, slot_cmp, words_of}
use Rattle.machine.specs.{Removal.{removed, vanishes}, Tree.IsAlone, WellFormed.LinksAgree}
use Rattle.machine.proofs.{Ids.itself, LookUps.{one_id, same_machine}, RemovalLooks.{cap_of-removed, going-removed}}
use Rattle.machine.proofs.RemovalLooks.{next-removed, object_of-removed, parent_of-removed, queue_of-removed, words_of-removed}
use Rattle.derivation.{specs.{OwnSlots.is_going_slot, Removing.HaveLeft}, proofs.Leavings.{alone_where_left, left_alone}}
use Rattle.derivation.proofs.TreeAfter.{any_listed, listed_any, there_or_alone, tree_after}
use Rattle.removal.{specs.{Dropping.{IsCutOff, dropped}, Pass.IsFinalised, Sweeping.IsSwept}, proofs.Dropped.{IsWithout, dropped_looks}}
use Rattle.std.specs.FinMap as map

-- links between objects agree whatever the capabilities and the tree
links_beside :
    (m : Machine) (caps : FinMap slot_cmp Cap) (parents : FinMap slot_cmp SlotRef) (going : List ObjId) → LinksAgree m
    → LinksAgree (record m { caps = caps; parents = parents; going = going })
unfolding object_of queue_of
links_beside m caps parents going links =
    record {
      queued = links.queued;
      waiting = links.waiting;
      once = links.once;
      one_way = links.one_way;
      receiver_reply = links.receiver_reply;
      called_reply = links.called_reply;
      waiting_reply = links.waiting_reply;
      reply_called = links.reply_called;
      thread_context = links.thread_context;
      context_thread = links.context_thread;
    }

same_test : (one other : Bool) → (one ≡ true → other ≡ true) → (other ≡ true → one ≡ true) → one ≡ other
same_test true other there back = sym (there refl)
same_test false true there back = absurd (false≢true (back refl))
same_test false false there back = refl

module _
    (m : Machine) (chosen : SlotRef → Bool) (now : Machine) (found : IsSwept m chosen now)
    (below : (slot parent : SlotRef) → parent_of now slot ≡ Some parent → IsTrue (has_slot now slot))
    (above : (slot parent : SlotRef) → parent_of now slot ≡ Some parent → IsTrue (has_slot now parent)) where
  abbrev vanished : ObjId → Bool
  vanished = vanishes m chosen

  objects_now : (id : ObjId) → object_of now id ≡ object_of m id
  unfolding object_of
  objects_now id = ap (λ (n : Machine). object_of n id) found.emptied.rest

  -- an object is listed exactly if it vanishes
  listed_now : (id : ObjId) → list_any (same_id id) now.going ≡ vanished id
  listed_now id =
      same_test (list_any (same_id id) now.going) (vanished id)
      (λ is.
      let one = any_listed (same_id id) now.going is in
      (found.emptied.going id).0 (subst (λ k. Contains now.going k) (sym (one_id id one.0 one.2)) one.1))
      (λ is. listed_any (same_id id) now.going id ((found.emptied.going id).1 is) (itself id))

  module _ (tree : Machine) (left : HaveLeft now tree (is_going_slot now)) where
    -- the machine is what it was, but for capabilities, the tree and what is going
    beside : tree ≡ record m { caps = now.caps; parents = tree.parents; going = now.going }
    beside = left.rest ∙ ap (λ (n : Machine). let changed : Machine = record n { parents = tree.parents } in changed) found.emptied.rest

    pub links_agree : LinksAgree tree
    links_agree = rw beside (links_beside m now.caps tree.parents now.going found.formed.links)

    -- an object that is going is in no pair of the tree any more
    going_alone : (slot : SlotRef) → Contains now.going slot.holder → IsAlone tree slot
    going_alone slot listed =
        elim
        (there_or_alone m now chosen found.formed.slots.acyclic found.thinned objects_now found.emptied.going found.alone below above slot (has_slot now slot) refl
        ((found.emptied.going slot.holder).0 listed)) [
          | inl own ↦ left_alone now tree (is_going_slot now) left slot own
          | inr free ↦ alone_where_left now tree (is_going_slot now) left slot free
        ]

    module _ (last : Machine) (ends : IsFinalised tree (λ id. list_any (same_id id) tree.going) last) where
      listed_last : (id : ObjId) → Contains last.going id → Contains now.going id
      listed_last id is = subst (λ ids. Contains ids id) (ends.rest.going ∙ ap (λ (n : Machine). n.going) beside) is

      caps_last : (slot : SlotRef) → cap_of last slot ≡ cap_of now slot
      unfolding cap_of
      caps_last slot = ap (λ caps. map.get caps slot) (ends.rest.caps ∙ ap (λ (n : Machine). n.caps) beside)

      count_last : (id : ObjId) → caps_to last id ≡ caps_to now id
      unfolding caps_to
      count_last id =
          ap (λ caps. count_by (λ filled. is_for id filled.0 filled.1) (map.entries caps))
          (ends.rest.caps ∙ ap (λ (n : Machine). n.caps) beside)

      parents_last : (slot : SlotRef) → parent_of last slot ≡ parent_of tree slot
      unfolding parent_of
      parents_last slot = ap (λ parents. map.get parents slot) ends.rest.parents

      goes_last : (id : ObjId) → Contains now.going id → list_any (same_id id) tree.going ≡ true
      goes_last id listed = ap (λ (n : Machine). list_any (same_id id) n.going) beside ∙ listed_any (same_id id) now.going id listed (itself id)

      -- nothing holds to an object that is going
      pub going_cut_off : (id : ObjId) → Contains last.going id → IsCutOff last id
      going_cut_off id is =
          let listed : Contains now.going id = listed_last id is in
          record {
            unheld = count_last id ∙ found.going.unheld id listed;
            hollow =
                λ slot its_own.
                caps_last slot ∙ found.emptied.hollow slot (subst (λ k. Contains now.going k) (sym its_own) listed);
            alone =
                λ slot its_own.
                let free = going_alone slot (subst (λ k. Contains now.going k) (sym its_own) listed) in
                record {
                  root = parents_last slot ∙ free.root;
                  leaf = λ child at. free.leaf child (sym (parents_last child) ∙ at);
                };
            deserted = ends.deserted id (goes_last id listed);
            free = ends.waits_nowhere id (goes_last id listed);
          }

      -- the machine without it is the one after the removal

      goes_tree : (id : ObjId) → list_any (same_id id) tree.going ≡ vanished id
      goes_tree id = ap (λ (n : Machine). list_any (same_id id) n.going) beside ∙ listed_now id

      goes_end : (id : ObjId) → list_any (same_id id) last.going ≡ vanished id
      goes_end id = ap (list_any (same_id id)) ends.rest.going ∙ goes_tree id

      object_tree : (id : ObjId) → object_of tree id ≡ object_of m id
      unfolding object_of
      object_tree id = ap (λ (n : Machine). object_of n id) beside

      queue_tree : (id : ObjId) → queue_of tree id ≡ queue_of m id
      unfolding queue_of
      queue_tree id = ap (λ (n : Machine). queue_of n id) beside

      words_last : (id : ObjId) → words_of last id ≡ words_of m id
      unfolding words_of
      words_last id = ap (λ words. map.get words id) (ends.rest.words ∙ ap (λ (n : Machine). n.words) beside)

      finalised_beside : (object : Object) → finalised tree vanished object ≡ finalised m vanished object
      unfolding object_of
      finalised_beside object = ap (λ (n : Machine). finalised n vanished object) beside

      staying_beside : (threads : List ObjId) → staying_in tree vanished threads ≡ staying_in m vanished threads
      unfolding object_of
      staying_beside threads = ap (λ (n : Machine). staying_in n vanished threads) beside

      mapped : {A B : Type 0} (f g : A → B) (o : Option A) → ((x : A) → f x ≡ g x) → option_map f o ≡ option_map g o
      mapped f g None same = refl
      mapped f g (Some x) same = ap Some (same x)

      ends_so : IsFinalised tree vanished last
      ends_so = subst (λ (goes : ObjId → Bool). IsFinalised tree goes last) (λ i id. goes_tree id i) ends

      pub all_removed : dropped last ≡ removed m chosen
      all_removed =
          let looks : IsWithout last last.going (dropped last) = dropped_looks last in
          same_machine (dropped last) (removed m chosen)
          (λ id.
          looks.objects id ∙ ap (λ b. cond b None (object_of last id)) (goes_end id)
          ∙ by_place id (vanished id) refl (object_of last id) (option_map (finalised m vanished) (object_of m id))
          (λ stays.
          ends_so.objects id stays ∙ mapped (finalised tree vanished) (finalised m vanished) (object_of tree id) finalised_beside
          ∙ ap (option_map (finalised m vanished)) (object_tree id))
          ∙ sym (object_of-removed m chosen id))
          (λ id.
          looks.queues id ∙ ap (λ b. cond b None (queue_of last id)) (goes_end id)
          ∙ by_place id (vanished id) refl (queue_of last id) (option_map (staying_in m vanished) (queue_of m id))
          (λ stays.
          ends_so.queues id stays ∙ mapped (staying_in tree vanished) (staying_in m vanished) (queue_of tree id) staying_beside
          ∙ ap (option_map (staying_in m vanished)) (queue_tree id))
          ∙ sym (queue_of-removed m chosen id))
          (λ id.
          looks.words id ∙ ap (λ b. cond b None (words_of last id)) (goes_end id)
          ∙ ap (cond (vanished id) None) (words_last id) ∙ sym (words_of-removed m chosen id))
          (λ slot. looks.caps slot ∙ caps_last slot ∙ found.emptied.caps slot ∙ sym (cap_of-removed m chosen slot))
          (λ slot.
          looks.parents slot ∙ parents_last slot
          ∙ tree_after m now chosen found.formed.slots.acyclic found.thinned objects_now found.emptied.going found.alone below above tree left slot
          ∙ sym (parent_of-removed m chosen slot))
          (looks.number ∙ ends.rest.next ∙ ap (λ (n : Machine). n.next) beside ∙ sym (next-removed m chosen))
          (looks.going ∙ sym (going-removed m chosen))
        where
          by_place :
              {A : Type 0} (id : ObjId) (b : Bool) → vanished id ≡ b → (one other : Option A) → (vanished id ≡ false → one ≡ other)
              → cond b None one ≡ cond b None other
          by_place id true is one other same = refl
          by_place id false is one other same = same is
