-- That each table has exactly one boot state, whose maps list what the table declares.
use Rattle.std.specs.FinMap as map
use Rattle.std.specs.{List.find, Prelude.{None, Option, Some, option_map, slice_get}}
use Rattle.std.proofs.Common.{[], ℕ, ◌+◌, ◌∙◌, ◌∷◌, ◌≡◌, ◌≢◌, Bool, List, ap, arith, cond, false, length, refl, replicate, suc, sym, true}
use Rattle.{std.proofs.{Common.zero, lemmas.Cmp.eq_by_cmp_equiv}, base.specs.declared.ids.{ObjId.ObjId, SlotRef.SlotRef}}
use Rattle.machine.specs.declared.{layout.{Filled.Filled, Initial.Initial, Pair.Pair}, object.Object.Object}
use Rattle.machine.specs.{Boot.{IsBoot, booted, bound}, Layout.{Layout, initial_cap, initial_of, initial_parent}}
use Rattle.machine.specs.Machine.{Machine, cap_of, id_cmp, object_of, parent_of, queue_of, same_id, same_slot, slot_cmp, words_of}
use Rattle.machine.{specs.Objects.word_count, proofs.{Ids.itself, LookUps.{id_total, same_machine, slot_total}}}

abbrev id : ℕ → ObjId
id n = record { 0 = n }

-- one entry for each object, numbered from `n` on
numbered : {X : Type 0} → (ObjId → Initial → X) → ℕ → List Initial → List (ObjId × X)
numbered f n [] = []
numbered f n (initial ∷ more) = (id n, f (id n) initial) ∷ numbered f (n + 1) more

apart_ids : (a b : ObjId) → a.0 ≢ b.0 → same_id a b ≡ false
apart_ids a b apart = grind arith

numbered_at :
    {X : Type 0} (f : ObjId → Initial → X) (n k : ℕ) (initials : List Initial) (q : ObjId) → q.0 ≡ n + k
    → map.find id_cmp q (numbered f n initials) ≡ option_map (f q) (slice_get initials k)
unfolding numbered
numbered_at f n k [] q at = refl
numbered_at f n zero (initial ∷ more) q at =
    let number : q.0 ≡ n = omega arith in
    let here : q ≡ id n = ap id number in
    let found : same_id q (id n) ≡ true = ap (λ (x : ObjId). same_id x (id n)) here ∙ itself (id n) in
    ap (λ b. cond b (Some (f (id n) initial)) (map.find id_cmp q (numbered f (n + 1) more))) found
    ∙ ap (λ (x : ObjId). Some (f x initial)) (sym here)
numbered_at f n (suc k) (initial ∷ more) q at =
    ap (λ b. cond b (Some (f (id n) initial)) (map.find id_cmp q (numbered f (n + 1) more)))
    (apart_ids q (id n) (λ same. omega arith))
    ∙ numbered_at f (n + 1) k more q (omega arith)

-- one entry for each slot of a list
listed : {A X : Type 0} → (A → SlotRef) → (A → X) → List A → List (SlotRef × X)
listed key value [] = []
listed key value (x ∷ xs) = (key x, value x) ∷ listed key value xs

listed_at :
    {A X : Type 0} (key : A → SlotRef) (value : A → X) (xs : List A) (q : SlotRef)
    → map.find slot_cmp q (listed key value xs) ≡ option_map value (find (λ x. same_slot (key x) q) xs)
unfolding listed
listed_at key value [] q = refl
listed_at key value (x ∷ xs) q =
    ap (λ b. cond b (Some (value x)) (map.find slot_cmp q (listed key value xs))) ((eq_by_cmp_equiv slot_total).symm q (key x))
    ∙ by (same_slot (key x) q) (listed_at key value xs q)
  where
    by :
        (b : Bool) → map.find slot_cmp q (listed key value xs) ≡ option_map value (find (λ y. same_slot (key y) q) xs)
        → cond b (Some (value x)) (map.find slot_cmp q (listed key value xs))
        ≡ option_map value (cond b (Some x) (find (λ y. same_slot (key y) q) xs))
    by true rest = refl
    by false rest = rest

option_map_twice :
    {A B C : Type 0} (f : B → C) (g : A → B) (x : Option A) → option_map (λ a. f (g a)) x ≡ option_map f (option_map g x)
option_map_twice f g None = refl
option_map_twice f g (Some a) = refl

module _ (t : Layout) where
  for_each : {X : Type 0} → (Object → X) → map.FinMap id_cmp X
  for_each f = map.from_entries (numbered (λ q initial. f (bound t q initial.object)) 0 t.objects)

  for_each_at : {X : Type 0} (f : Object → X) (q : ObjId) → map.get (for_each f) q ≡ option_map f (booted t q)
  unfolding for_each initial_of
  for_each_at f q =
      map.get-from_entries id_total (numbered (λ q initial. f (bound t q initial.object)) 0 t.objects) q
      ∙ numbered_at (λ q initial. f (bound t q initial.object)) 0 q.0 t.objects q (omega arith)
      ∙ option_map_twice f (λ (initial : Initial). bound t q initial.object) (slice_get t.objects q.0)

  option_map_same : (x : Option Object) → option_map (λ object. object) x ≡ x
  option_map_same None = refl
  option_map_same (Some object) = refl

  by_slots : {A X : Type 0} → (A → SlotRef) → (A → X) → List A → map.FinMap slot_cmp X
  by_slots key value list = map.from_entries (listed key value list)

  by_slots_at :
      {A X : Type 0} (key : A → SlotRef) (value : A → X) (list : List A) (q : SlotRef)
      → map.get (by_slots key value list) q ≡ option_map value (find (λ x. same_slot (key x) q) list)
  unfolding by_slots
  by_slots_at key value list q = map.get-from_entries slot_total (listed key value list) q ∙ listed_at key value list q

  pub boot_state : Machine
  boot_state = record {
    objects = for_each (λ object. object);
    queues = for_each (λ object. []);
    words = for_each (λ object. replicate (word_count object) 0);
    caps = by_slots (λ (filled : Filled). filled.slot) (λ filled. filled.cap) t.caps;
    parents = by_slots (λ (pair : Pair). pair.child) (λ pair. pair.parent) t.pairs;
    next = length t.objects;
    going = [];
  }

  pub boot_state_is : IsBoot t boot_state
  unfolding boot_state object_of queue_of words_of cap_of parent_of initial_cap initial_parent
  boot_state_is = record {
    objects = λ q. for_each_at (λ object. object) q ∙ option_map_same (booted t q);
    queues = for_each_at (λ object. []);
    words = for_each_at (λ object. replicate (word_count object) 0);
    caps = by_slots_at (λ (filled : Filled). filled.slot) (λ filled. filled.cap) t.caps;
    parents = by_slots_at (λ (pair : Pair). pair.child) (λ pair. pair.parent) t.pairs;
    next = refl;
    going = refl;
  }

pub boot_one : (t : Layout) (m n : Machine) → IsBoot t m → IsBoot t n → m ≡ n
boot_one t m n a b =
    same_machine
    m
    n
    (λ q. a.objects q ∙ sym (b.objects q))
    (λ q. a.queues q ∙ sym (b.queues q))
    (λ q. a.words q ∙ sym (b.words q))
    (λ q. a.caps q ∙ sym (b.caps q))
    (λ q. a.parents q ∙ sym (b.parents q))
    (a.next ∙ sym b.next)
    (a.going ∙ sym b.going)
