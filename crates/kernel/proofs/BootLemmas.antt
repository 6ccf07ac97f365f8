-- The boot state of a table with one object, one capability or one pair more, and the slots that a boot state has.
use Rattle.std.specs.{declared.cmp.Ordering.TheVariants.Less, Cmp.tied_itself, List.{AllPairs, find}, Option.option_or, Ordering.is_eq}
use Rattle.std.{specs.Prelude.{IsSome, IsTrue, None, Option, Some, is_some, option_map, slice_get}, proofs.Common.{[], ℕ, ◌++◌, ◌+◌, ◌<◌}}
use Rattle.std.proofs.Common.{◌∙◌, ◌∷◌, ◌≡◌, ◌≢◌, Bool, List, ap, arith, cond, false, get_or, length, refl, replicate, suc, sym, take, true}
use Rattle.std.proofs.{Common.zero, lemmas.{Bool.{false≢true, lt-ltb}, Cmp.eq_by_cmp_equiv, List.{Folds.find-append, get_or-take}}}
use Rattle.{std.proofs.lemmas.List.{length-take-le, length_push, take_more}, base.specs.declared.ids.{ObjId.ObjId, SlotRef.SlotRef}}
use Rattle.machine.specs.declared.{cap.Cap.Cap, layout.{Filled.Filled, Initial.Initial, Pair.Pair}, object.Object.Object}
use Rattle.machine.specs.{Boot.{IsBoot, booted, bound}, Layout.{Layout, bound_context, bound_thread, initial_cap, initial_of}}
use Rattle.machine.specs.{Layout.initial_parent, Machine.{Machine, cap_of, empty_machine, has_slot, object_of, same_id}}
use Rattle.machine.specs.{Machine.{same_slot, slot_cmp, with_cap, with_new, with_parent}, Objects.{slot_count, word_count}}
use Rattle.machine.proofs.{Bound.slot_count-bound, LookUps.{cap_of-empty, cap_of-with_cap, cap_of-with_new, cap_of-with_parent}}
use Rattle.machine.proofs.LookUps.{id_total, object_of-empty, object_of-with_cap, object_of-with_new, object_of-with_parent}
use Rattle.machine.proofs.LookUps.{one_id, one_slot, parent_of-empty, parent_of-with_cap, parent_of-with_new, parent_of-with_parent}
use Rattle.machine.proofs.LookUps.{queue_of-empty, queue_of-with_cap, queue_of-with_new, queue_of-with_parent, slot_total, words_of-empty}
use Rattle.{machine.proofs.LookUps.{words_of-with_cap, words_of-with_new, words_of-with_parent}, table.specs.Rules.HasSlot}

apart_ids : (q id : ObjId) → same_id q id ≡ false → q.0 ≢ id.0
apart_ids q id tie same =
    let is : q ≡ id = ap (λ n. record { 0 = n }) same in
    false≢true (sym tie ∙ ap (λ k. same_id k id) is ∙ ap is_eq (tied_itself id_total id))

-- a list with one element more

slice_get-last : {X : Type 0} (xs : List X) (x : X) → slice_get (xs ++ x ∷ []) (length xs) ≡ Some x
slice_get-last [] x = refl
slice_get-last (y ∷ xs) x = slice_get-last xs x

slice_get-not_last : {X : Type 0} (xs : List X) (x : X) (k : ℕ) → k ≢ length xs → slice_get (xs ++ x ∷ []) k ≡ slice_get xs k
slice_get-not_last [] x zero apart = absurd (apart refl)
slice_get-not_last [] x (suc k) apart = refl
slice_get-not_last (y ∷ xs) x zero apart = refl
slice_get-not_last (y ∷ xs) x (suc k) apart = slice_get-not_last xs x k (λ same. apart (ap suc same))

pub find-missing : {X : Type 0} (p : X → Bool) (xs : List X) (d : X) → ((k : ℕ) → k < length xs → p (get_or xs k d) ≡ false)
    → find p xs ≡ None
find-missing p [] d none = refl
find-missing p (x ∷ xs) d none =
    ap (λ b. cond b (Some x) (find p xs)) (none 0 (omega arith)) ∙ find-missing p xs d (λ k within. none (suc k) (omega arith))

map-cond : {A B : Type 0} (f : A → B) (b : Bool) (x : A) (found : Option A)
    → cond b (Some (f x)) (option_map f found) ≡ option_map f (cond b (Some x) found)
map-cond f true x found = refl
map-cond f false x found = refl

-- boot

-- a table with one object more
abbrev pub with_last_object : Layout → Initial → Layout
with_last_object t initial = record t { objects = t.objects ++ initial ∷ [] }

-- the boot state of a table without objects
pub boot-nothing : (t : Layout) → IsBoot (record t { objects = []; caps = []; pairs = [] }) empty_machine
unfolding initial_of initial_cap initial_parent empty_machine
boot-nothing t = record {
  objects = object_of-empty;
  queues = queue_of-empty;
  words = words_of-empty;
  caps = cap_of-empty;
  parents = parent_of-empty;
  next = refl;
  going = refl;
}

booted-last : (t : Layout) (initial : Initial) (id : ObjId) → id.0 ≡ length t.objects → (q : ObjId)
    → cond (same_id q id) (Some (bound t id initial.object)) (booted t q) ≡ booted (with_last_object t initial) q
unfolding initial_of bound_context bound_thread
booted-last t initial id last q = by_tie (same_id q id) refl where
  object_at : Layout → ObjId → Option Initial → Option Object
  object_at t q found = option_map (λ initial. bound t q initial.object) found

  by_tie : (tie : Bool) → same_id q id ≡ tie
      → cond tie (Some (bound t id initial.object)) (booted t q) ≡ booted (with_last_object t initial) q
  by_tie true e =
      let is : q ≡ id = one_id q id e in
      let at : slice_get (t.objects ++ initial ∷ []) q.0 ≡ Some initial =
      ap (slice_get (t.objects ++ initial ∷ [])) (ap (λ k. k.0) is ∙ last) ∙ slice_get-last t.objects initial in
      ap (λ k. Some (bound t k initial.object)) (sym is) ∙ ap (object_at t q) (sym at)
  by_tie false e =
      ap (object_at t q) (sym (slice_get-not_last t.objects initial q.0 (λ same. apart_ids q id e (same ∙ sym last))))

pub boot-object : (t : Layout) (m : Machine) (initial : Initial) → IsBoot t m
    → IsBoot (with_last_object t initial) (with_new m (bound t (record { 0 = m.next }) initial.object))
unfolding initial_cap initial_parent with_new
boot-object t m initial boot =
    let id : ObjId = record { 0 = m.next } in
    let object : Object = bound t id initial.object in
    let now : (q : ObjId) → cond (same_id q id) (Some object) (booted t q) ≡ booted (with_last_object t initial) q =
    booted-last t initial id boot.next in
    record {
      objects = λ q. object_of-with_new m object q ∙ ap (cond (same_id q id) (Some object)) (boot.objects q) ∙ now q;
      queues =
          λ q. queue_of-with_new m object q
          ∙ ap (cond (same_id q id) (Some [])) (boot.queues q)
          ∙ map-cond (λ _. []) (same_id q id) object (booted t q)
          ∙ ap (option_map (λ _. [])) (now q);
      words =
          λ q. words_of-with_new m object q
          ∙ ap (cond (same_id q id) (Some (replicate (word_count object) 0))) (boot.words q)
          ∙ map-cond (λ made. replicate (word_count made) 0) (same_id q id) object (booted t q)
          ∙ ap (option_map (λ made. replicate (word_count made) 0)) (now q);
      caps = λ q. cap_of-with_new m object q ∙ boot.caps q;
      parents = λ q. parent_of-with_new m object q ∙ boot.parents q;
      next = ap (λ n. n + 1) boot.next ∙ sym (length_push t.objects initial);
      going = boot.going;
    }

-- a list with one element more, under a slot above those of the others, has it there
find-last :
    {A X : Type 0} (key : A → SlotRef) (value : A → X) (xs : List A) (x d : A)
    → ((k : ℕ) → k < length xs → slot_cmp (key (get_or xs k d)) (key x) ≡ Less) → (q : SlotRef)
    → cond (same_slot q (key x)) (Some (value x)) (option_map value (find (λ y. same_slot (key y) q) xs))
    ≡ option_map value (find (λ y. same_slot (key y) q) (xs ++ x ∷ []))
find-last {A = A} key value xs x d rising q = by_tie (same_slot q (key x)) refl where
  at : A → Bool
  at other = same_slot (key other) q

  last : Bool → Option A
  last tie = cond tie (Some x) None

  or-none : (found : Option A) → found ≡ option_or found None
  or-none None = refl
  or-none (Some y) = refl

  by_tie : (tie : Bool) → same_slot q (key x) ≡ tie
      → cond tie (Some (value x)) (option_map value (find at xs)) ≡ option_map value (find at (xs ++ x ∷ []))
  by_tie true e =
      let is : q ≡ key x = one_slot q (key x) e in
      let none : find at xs ≡ None =
      find-missing at xs d
      (λ k within. ap (λ slot. same_slot (key (get_or xs k d)) slot) is ∙ ap is_eq (rising k within)) in
      let here : same_slot (key x) q ≡ true = (eq_by_cmp_equiv slot_total).symm (key x) q ∙ e in
      sym
      (ap (option_map value) (find-append at xs (x ∷ []) ∙ ap (λ found. option_or found (find at (x ∷ []))) none
      ∙ ap last here))
  by_tie false e =
      let elsewhere : same_slot (key x) q ≡ false = (eq_by_cmp_equiv slot_total).symm (key x) q ∙ e in
      sym
      (ap (option_map value) (find-append at xs (x ∷ []) ∙ ap (λ tie. option_or (find at xs) (last tie)) elsewhere
      ∙ sym (or-none (find at xs))))

-- the first elements of a list that rises by slot are below the next
pub below_next :
    {A : Type 0} (key : A → SlotRef) (xs : List A) (i : ℕ) (d : A)
    → AllPairs (λ one other. slot_cmp (key one) (key other) ≡ Less) xs → i < length xs → (k : ℕ) → k < length (take i xs)
    → slot_cmp (key (get_or (take i xs) k d)) (key (get_or xs i d)) ≡ Less
below_next key xs i d rise within k lower =
    let below : k < i = omega (arith, length-take-le i xs (omega arith)) in
    rw (get_or-take i xs k d below) (rise k i d below within)

-- slots that aren't filled yet are empty
pub boot-vacant :
    (t : Layout) (m : Machine) (i : ℕ) (d : Filled) → AllPairs (λ one other. slot_cmp one.slot other.slot ≡ Less) t.caps
    → i < length t.caps → IsBoot (record t { caps = take i t.caps; pairs = [] }) m → cap_of m (get_or t.caps i d).slot ≡ None
unfolding initial_cap
boot-vacant t m i d rise within boot =
    let slot : SlotRef = (get_or t.caps i d).slot in
    boot.caps slot
    ∙ ap (option_map (λ (f : Filled). f.cap))
    (find-missing (λ (f : Filled). same_slot f.slot slot) (take i t.caps) d
    (λ k lower. ap is_eq (below_next (λ (f : Filled). f.slot) t.caps i d rise within k lower)))

-- one slot more is filled
pub boot-filled :
    (t : Layout) (m : Machine) (i : ℕ) (d : Filled) → AllPairs (λ one other. slot_cmp one.slot other.slot ≡ Less) t.caps
    → i < length t.caps → IsBoot (record t { caps = take i t.caps; pairs = [] }) m
    → IsBoot (record t { caps = take (i + 1) t.caps; pairs = [] }) (with_cap m (get_or t.caps i d).slot (get_or t.caps i d).cap)
unfolding initial_of initial_cap initial_parent bound_context bound_thread with_cap
boot-filled t m i d rise within boot =
    let filled : Filled = get_or t.caps i d in
    let slot : SlotRef = filled.slot in
    let held : Cap = filled.cap in
    rw (take_more t.caps i d within) (record {
      objects = λ q. object_of-with_cap m slot held q ∙ boot.objects q;
      queues = λ q. queue_of-with_cap m slot held q ∙ boot.queues q;
      words = λ q. words_of-with_cap m slot held q ∙ boot.words q;
      caps = λ q. cap_of-with_cap m slot held q
          ∙ ap (cond (same_slot q slot) (Some held)) (boot.caps q)
          ∙ find-last (λ (f : Filled). f.slot) (λ f. f.cap) (take i t.caps) filled d
          (below_next (λ (f : Filled). f.slot) t.caps i d rise within) q;
      parents = λ q. parent_of-with_cap m slot held q ∙ boot.parents q;
      next = boot.next;
      going = boot.going;
    })

-- one child more has its parent
pub boot-derived :
    (t : Layout) (m : Machine) (i : ℕ) (d : Pair) → AllPairs (λ one other. slot_cmp one.child other.child ≡ Less) t.pairs
    → i < length t.pairs → IsBoot (record t { pairs = take i t.pairs }) m
    → IsBoot (record t { pairs = take (i + 1) t.pairs }) (with_parent m (get_or t.pairs i d).child (get_or t.pairs i d).parent)
unfolding initial_of initial_cap initial_parent bound_context bound_thread with_parent
boot-derived t m i d rise within boot =
    let pair : Pair = get_or t.pairs i d in
    let slot : SlotRef = pair.child in
    let above : SlotRef = pair.parent in
    rw (take_more t.pairs i d within) (record {
      objects = λ q. object_of-with_parent m slot above q ∙ boot.objects q;
      queues = λ q. queue_of-with_parent m slot above q ∙ boot.queues q;
      words = λ q. words_of-with_parent m slot above q ∙ boot.words q;
      caps = λ q. cap_of-with_parent m slot above q ∙ boot.caps q;
      parents = λ q. parent_of-with_parent m slot above q
          ∙ ap (cond (same_slot q slot) (Some above)) (boot.parents q)
          ∙ find-last (λ (p : Pair). p.child) (λ p. p.parent) (take i t.pairs) pair d
          (below_next (λ (p : Pair). p.child) t.pairs i d rise within) q;
      next = boot.next;
      going = boot.going;
    })

pub boot-object_there :
    (t : Layout) (m : Machine) (id : ObjId) (initial : Initial) → IsBoot t m → slice_get t.objects id.0 ≡ Some initial
    → IsSome (object_of m id)
unfolding initial_of
boot-object_there t m id initial boot declared =
    ap is_some (boot.objects id ∙ ap (option_map (λ initial. bound t id initial.object)) declared)

-- the boot state has the slots that the table declares
pub boot-has_slot : (t : Layout) (m : Machine) (slot : SlotRef) → IsBoot t m → HasSlot t.objects slot → IsTrue (has_slot m slot)
unfolding initial_of
boot-has_slot t m slot boot has =
    let holder : Object = has.holder.object in
    let at : object_of m slot.holder ≡ Some (bound t slot.holder holder) =
    boot.objects slot.holder ∙ ap (option_map (λ initial. bound t slot.holder initial.object)) has.held in
    rw (at, slot_count-bound t slot.holder holder) (lt-ltb slot.index (slot_count holder) has.within)
