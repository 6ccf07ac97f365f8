-- A state's entries and the machine that contracts see: what the machine answers, and what each change makes of it.
use Rattle.std.specs.FinMap as finite
use Rattle.std.specs.{List.{flat_map, list_any, range_with_len}, Prelude.{◌||◌, IsSome, None, Option, Some, is_some, option_and_then}}
use Rattle.std.{specs.Prelude.{option_map, slice_get}, proofs.Common.{[], ℕ, ◌+◌, ◌<◌, ◌∙◌, ◌∷◌, ◌≡◌, ◌≤◌, Bool, List, ap, arith, inl}}
use Rattle.std.proofs.{Common.{inr, length, map, refl, subst, suc, sym, true, zero}, lemmas.Bool.{cases_eq, false≢true, or_cases, or_left}}
use Rattle.{std.proofs.lemmas.{Bool.or_right, List.Folds.list_any-append}, base.specs.declared.ids.{ObjId.ObjId, SlotRef.SlotRef}}
use Rattle.machine.specs.{declared.object.Object.Object, Machine.{Machine, cap_of, object_of, parent_of, queue_of, same_id, same_slot}}
use Rattle.machine.{specs.Machine.words_of, proofs.FiniteLemmas.{get-tabulate, same_from_tie, ties_itself}}
use Rattle.machine.proofs.LookUps.{id_apart, id_total, same_machine, slot_apart, slot_total}
use Rattle.objects.specs.{declared.{entry.Entry.Entry, slots.Slot.Slot, state.State.TheInside.Inside}, Entries.{Entries, entry_of, slot_at}}
use Rattle.objects.specs.{Family.{cap_in, parent_in}, Links.queue_in, State.{machine_from, machine_of, slots_of}}

-- what is read of an entry, if it is there
abbrev pub object_at : Option Entry → Option Object
object_at entry = option_map (λ e. e.object) entry

abbrev pub words_at : Option Entry → Option (List ℕ)
words_at entry = option_map (λ e. e.words) entry

-- the machine answers what the entries say, for this number of numbers
pub record Tells (numbers : ℕ) (m : Machine) (entry : ObjId → Option Entry) : Type 0 where
  pub objects : (q : ObjId) → object_of m q ≡ object_at (entry q)
  pub queues : (q : ObjId) → queue_of m q ≡ queue_in numbers entry (entry q)
  pub words : (q : ObjId) → words_of m q ≡ words_at (entry q)
  pub caps : (q : SlotRef) → cap_of m q ≡ cap_in (slot_at entry q)
  pub parents : (q : SlotRef) → parent_of m q ≡ parent_in (slot_at entry q)

-- machines are equal if the same entries tell both
pub same_from_tells :
    (numbers : ℕ) (m n : Machine) (entry : ObjId → Option Entry) → Tells numbers m entry → Tells numbers n entry
    → m.next ≡ n.next → m.going ≡ n.going → m ≡ n
same_from_tells numbers m n entry a b next going =
    same_machine m n (λ q. a.objects q ∙ sym (b.objects q)) (λ q. a.queues q ∙ sym (b.queues q))
    (λ q. a.words q ∙ sym (b.words q)) (λ q. a.caps q ∙ sym (b.caps q)) (λ q. a.parents q ∙ sym (b.parents q)) next going

-- each slot with an entry is listed

any-from_tie :
    (p r : ObjId → Bool) → ((x : ObjId) → p x ≡ true → r x ≡ true) → (xs : List ObjId) → list_any p xs ≡ true
    → list_any r xs ≡ true
any-from_tie p r gives [] any = any
any-from_tie p r gives (x ∷ xs) any =
    elim (or_cases (p x) (list_any p xs) any) [
      | inl here ↦ or_left (r x) _ (gives x here)
      | inr later ↦ or_right (r x) _ (any-from_tie p r gives xs later)
    ]

any-flat_map :
    {X Y : Type 0} (p : Y → Bool) (f : X → List Y) (xs : List X)
    → list_any p (flat_map f xs) ≡ list_any (λ x. list_any p (f x)) xs
any-flat_map p f [] = refl
any-flat_map p f (x ∷ xs) = list_any-append p (f x) (flat_map f xs) ∙ ap (λ b. list_any p (f x) || b) (any-flat_map p f xs)

any-in_range :
    (q : SlotRef) (from count : ℕ) → from ≤ q.index → q.index < from + count
    → list_any (same_slot q) (map (λ index. record { holder = q.holder; index = index }) (range_with_len from count)) ≡ true
any-in_range q from zero low high = absurd (omega arith)
any-in_range q from (suc count) low high =
    elim (cases_eq q.index from) [
      | inl same ↦
          or_left _ _
          (subst (λ k. same_slot q (record { holder = q.holder; index = k }) ≡ true) same (ties_itself slot_total slot_apart q))
      | inr differs ↦ or_right _ _ (any-in_range q (from + 1) count (omega arith) (omega arith))
    ]

listed : (entries : Entries) (q : ObjId) → IsSome (entry_of entries q) → list_any (same_id q) (finite.keys entries) ≡ true
listed entries q some = sym (finite.contains_key-keys entries q) ∙ some

slot_listed :
    (entry : ObjId → Option Entry) (ids : List ObjId) → ((q : ObjId) → IsSome (entry q) → list_any (same_id q) ids ≡ true)
    → (q : SlotRef) (e : Entry) → entry q.holder ≡ Some e → q.index < length e.slots
    → list_any (same_slot q) (flat_map (λ id. slots_of id (entry id)) ids) ≡ true
slot_listed entry ids all q e is within =
    let here : list_any (same_slot q) (slots_of q.holder (entry q.holder)) ≡ true =
    rw is (any-in_range q 0 (length e.slots) (omega arith) (omega arith)) in
    any-flat_map (same_slot q) (λ id. slots_of id (entry id)) ids
    ∙ any-from_tie (same_id q.holder) (λ id. list_any (same_slot q) (slots_of id (entry id)))
    (λ x tie.
    subst (λ k. list_any (same_slot q) (slots_of k (entry k)) ≡ true) (same_from_tie id_total id_apart q.holder x tie) here)
    ids (all q.holder (ap is_some is))

some_within :
    {A : Type 0} (read : Slot → Option A) (slots : List Slot) (index : ℕ) → IsSome (option_and_then read (slice_get slots index))
    → index < length slots
some_within read [] index some = absurd (false≢true some)
some_within read (slot ∷ slots) zero some = omega arith
some_within read (slot ∷ slots) (suc index) some =
    let within : index < length slots = some_within read slots index some in omega arith

some_slot :
    {A : Type 0} (read : Slot → Option A) (entry : ObjId → Option Entry) (ids : List ObjId)
    → ((q : ObjId) → IsSome (entry q) → list_any (same_id q) ids ≡ true) → (q : SlotRef)
    → IsSome (option_and_then read (slot_at entry q))
    → list_any (same_slot q) (flat_map (λ id. slots_of id (entry id)) ids) ≡ true
some_slot read entry ids all q some = by_entry (entry q.holder) refl some where
  by_entry :
      (o : Option Entry) → entry q.holder ≡ o
      → IsSome (option_and_then read (option_and_then (λ e. slice_get e.slots q.index) o))
      → list_any (same_slot q) (flat_map (λ id. slots_of id (entry id)) ids) ≡ true
  by_entry None is some = absurd (false≢true some)
  by_entry (Some e) is some = slot_listed entry ids all q e is (some_within read e.slots q.index some)

is_some-option_map : {A B : Type 0} (f : A → B) (o : Option A) → is_some (option_map f o) ≡ is_some o
is_some-option_map f None = refl
is_some-option_map f (Some x) = refl

-- an entry is still there if a part of it is as it was
pub present_kept :
    {A : Type 0} (part : Entry → A) (old new : Option Entry) → option_map part new ≡ option_map part old → IsSome old → IsSome new
present_kept part old new same some = sym (is_some-option_map part new) ∙ ap is_some same ∙ is_some-option_map part old ∙ some

tells-machine_from :
    (entry : ObjId → Option Entry) (ids : List ObjId) (next : ℕ) (going : List ObjId)
    → ((q : ObjId) → IsSome (entry q) → list_any (same_id q) ids ≡ true) → Tells next (machine_from entry ids next going) entry
unfolding object_of queue_of words_of cap_of parent_of
tells-machine_from entry ids next going all =
    let slots : List SlotRef = flat_map (λ id. slots_of id (entry id)) ids in
    record {
      objects =
          λ q.
          get-tabulate id_total id_apart (λ id. object_at (entry id)) ids q
          (λ some. all q (sym (is_some-option_map _ (entry q)) ∙ some));
      queues =
          λ q.
          get-tabulate id_total id_apart (λ id. queue_in next entry (entry id)) ids q
          (λ some. all q (sym (is_some-option_map _ (entry q)) ∙ some));
      words =
          λ q.
          get-tabulate id_total id_apart (λ id. words_at (entry id)) ids q
          (λ some. all q (sym (is_some-option_map _ (entry q)) ∙ some));
      caps =
          λ q.
          get-tabulate slot_total slot_apart (λ slot. cap_in (slot_at entry slot)) slots q
          (some_slot (λ slot. slot.cap) entry ids all q);
      parents =
          λ q.
          get-tabulate slot_total slot_apart (λ slot. parent_in (slot_at entry slot)) slots q
          (some_slot (λ slot. slot.links.parent) entry ids all q);
    }

pub tells-machine_of : (s : Inside) → Tells s.next (machine_of s) (entry_of s.store)
unfolding machine_of
tells-machine_of s =
    tells-machine_from (entry_of s.store) (finite.keys s.store) s.next s.going.items
    (listed s.store)

pub going-machine_of : (s : Inside) → (machine_of s).going ≡ s.going.items
unfolding machine_of
going-machine_of s = refl

pub next-machine_of : (s : Inside) → (machine_of s).next ≡ s.next
unfolding machine_of
next-machine_of s = refl
