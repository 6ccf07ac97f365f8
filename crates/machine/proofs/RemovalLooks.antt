-- Look-ups of a machine after a removal.
use Rattle.std.specs.{FinMap.{contains_key-keys, keys, values}, Prelude.{[], None, Option, Some, filter, is_some, option_map}}
use Rattle.std.proofs.{Common.{◌∙◌, ◌≡◌, Bool, ap, cond, false, refl, sym, true}, lemmas.Bool.false≢true}
use Rattle.base.specs.declared.ids.{ObjId.ObjId, SlotRef.SlotRef}
use Rattle.machine.specs.{Finalising.{finalised, staying_in}, Gone.gone_of, Machine.{Machine, cap_of, object_of, parent_of, queue_of}}
use Rattle.machine.specs.{Machine.words_of, Orphans.{Nearest, without_nodes}, Removal.{cap_after, object_after, parent_after, queue_after}}
use Rattle.machine.{specs.{Removal.{removed, vanishes, without_slots, words_after}, WellFormed.Descends}, proofs.FiniteLemmas.get-tabulate}
use Rattle.machine.proofs.{LookUps.{id_apart, id_total, slot_apart, slot_total}, OrphanLemmas.{nearest_stays, rootless}}

left_some : {A : Type 0} (b : Bool) (found : Option A) → is_some (cond b None found) ≡ true → is_some found ≡ true
left_some true found e = absurd (false≢true e)
left_some false found e = e

mapped_some : {A B : Type 0} (f : A → B) (found : Option A) → is_some (option_map f found) ≡ true → is_some found ≡ true
mapped_some f None e = e
mapped_some f (Some x) e = refl

module _ (m : Machine) (gone : SlotRef → Bool) (vanished : ObjId → Bool) where
  object_of-without : (id : ObjId) → object_of (without_slots m gone vanished) id ≡ object_after m vanished id
  unfolding object_of without_slots
  object_of-without id =
      get-tabulate id_total id_apart (object_after m vanished) (keys m.objects) id
      (λ some. sym (contains_key-keys m.objects id) ∙ mapped_some (finalised m vanished) _ (left_some (vanished id) _ some))

  queue_of-without : (id : ObjId) → queue_of (without_slots m gone vanished) id ≡ queue_after m vanished id
  unfolding queue_of without_slots
  queue_of-without id =
      get-tabulate id_total id_apart (queue_after m vanished) (keys m.queues) id
      (λ some. sym (contains_key-keys m.queues id) ∙ mapped_some (staying_in m vanished) _ (left_some (vanished id) _ some))

  words_of-without : (id : ObjId) → words_of (without_slots m gone vanished) id ≡ words_after m vanished id
  unfolding words_of without_slots
  words_of-without id =
      get-tabulate id_total id_apart (words_after m vanished) (keys m.words) id
      (λ some. sym (contains_key-keys m.words id) ∙ left_some (vanished id) _ some)

  cap_of-without : (slot : SlotRef) → cap_of (without_slots m gone vanished) slot ≡ cap_after m gone slot
  unfolding cap_of without_slots
  cap_of-without slot =
      get-tabulate slot_total slot_apart (cap_after m gone) (keys m.caps) slot
      (λ some. sym (contains_key-keys m.caps slot) ∙ left_some (gone slot) _ some)

  had_parent :
      (slot : SlotRef) → is_some (without_nodes (parent_of m) (filter gone (values m.parents)) slot) ≡ true
      → is_some (parent_of m slot) ≡ true
  had_parent slot some = by_parent (parent_of m slot) refl where
    by_parent : (over : Option SlotRef) → parent_of m slot ≡ over → is_some over ≡ true
    by_parent None e = sym (ap is_some (rootless (parent_of m) (filter gone (values m.parents)) slot e)) ∙ some
    by_parent (Some parent) e = refl

  parent_of-without : (slot : SlotRef) → parent_of (without_slots m gone vanished) slot ≡ parent_after m gone slot
  unfolding parent_of without_slots
  parent_of-without slot =
      get-tabulate slot_total slot_apart (parent_after m gone) (keys m.parents) slot
      (λ some. sym (contains_key-keys m.parents slot) ∙ had_parent slot (left_some (gone slot) _ some))

module _ (m : Machine) (chosen : SlotRef → Bool) where
  pub object_of-removed : (id : ObjId) → object_of (removed m chosen) id ≡ object_after m (vanishes m chosen) id
  unfolding removed
  object_of-removed = object_of-without m (gone_of m chosen) (vanishes m chosen)

  pub queue_of-removed : (id : ObjId) → queue_of (removed m chosen) id ≡ queue_after m (vanishes m chosen) id
  unfolding removed
  queue_of-removed = queue_of-without m (gone_of m chosen) (vanishes m chosen)

  pub words_of-removed : (id : ObjId) → words_of (removed m chosen) id ≡ words_after m (vanishes m chosen) id
  unfolding removed
  words_of-removed = words_of-without m (gone_of m chosen) (vanishes m chosen)

  pub cap_of-removed : (slot : SlotRef) → cap_of (removed m chosen) slot ≡ cap_after m (gone_of m chosen) slot
  unfolding removed
  cap_of-removed = cap_of-without m (gone_of m chosen) (vanishes m chosen)

  pub parent_of-removed : (slot : SlotRef) → parent_of (removed m chosen) slot ≡ parent_after m (gone_of m chosen) slot
  unfolding removed
  parent_of-removed = parent_of-without m (gone_of m chosen) (vanishes m chosen)

  pub going-removed : (removed m chosen).going ≡ []
  unfolding removed without_slots
  going-removed = refl

  pub next-removed : (removed m chosen).next ≡ m.next
  unfolding removed without_slots
  next-removed = refl

  pub gone_has_no_parent : (slot : SlotRef) → gone_of m chosen slot ≡ true → parent_of (removed m chosen) slot ≡ None
  gone_has_no_parent slot goes =
      parent_of-removed slot
      ∙ ap (λ b. cond b None (without_nodes (parent_of m) (filter (gone_of m chosen) (values m.parents)) slot)) goes

  pub nearest_survives :
      ((slot : SlotRef) → ¬ (Descends m slot slot)) → (slot : SlotRef) → gone_of m chosen slot ≡ false
      → Nearest (parent_of m) (gone_of m chosen) (parent_of m slot) (parent_of (removed m chosen) slot)
  nearest_survives acyclic slot stays =
      rw
      (parent_of-removed slot
      ∙ ap (λ b. cond b None (without_nodes (parent_of m) (filter (gone_of m chosen) (values m.parents)) slot)) stays)
      (nearest_stays m acyclic (gone_of m chosen) slot stays)
