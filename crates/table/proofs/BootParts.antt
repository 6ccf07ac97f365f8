-- The objects, capabilities and bindings of a boot state, as its table lists them.
use Rattle.std.specs.{Cmp.tied_itself, List.find, Ordering.is_eq, Prelude.{⊤, AllPairs, Contains, None, Option, Some, option_map}}
use Rattle.std.proofs.Common.{[], ℕ, ◌<◌, ◌∙◌, ◌∷◌, ◌≡◌, ◌≢◌, ◌⊎◌, Bool, List, ap, arith, cond, false, get_or, inl, inr, length, refl}
use Rattle.std.proofs.{Common.{subst, suc, sym, true, zero}, lemmas.{Bool.cases_order, List.Elements.{All-contains, at_from_Contains}}}
use Rattle.std.proofs.lemmas.Option.{get_or_from_slice_get, none-some, same_Some, slice_get_within}
use Rattle.base.specs.declared.ids.{ObjId.ObjId, SlotRef.SlotRef}
use Rattle.machine.specs.declared.{cap.Cap.Cap, layout.{Binding.Binding, Filled.Filled, Initial.Initial, Pair.Pair}, object.Object.Object}
use Rattle.machine.specs.{declared.{object.{Object.Object as o, ReplyState.ReplyState as reply}, thread.Inbox.Inbox as inbox}, Boot.IsBoot}
use Rattle.machine.specs.{Boot.bound, Layout.{Layout, bound_context, bound_thread, initial_cap, initial_of, initial_parent}}
use Rattle.machine.{specs.Machine.{Machine, cap_of, object_of, parent_of, same_id, same_slot}, proofs.LookUps.{id_total, one_id, one_slot}}
use Rattle.table.specs.{Rules.{IsAtRest, IsBindingOf, IsBlank, IsCapOf, IsLawful, IsObjectOf}, Tree.{IsPairOf, is_original}}

-- look-ups

pub map-some :
    {A B : Type 0} (f : A → B) (found : Option A) (y : B) → option_map f found ≡ Some y → (x : A) × (found ≡ Some x) × (y ≡ f x)
map-some f None y is = absurd (none-some y is)
map-some f (Some x) y is = (x, refl, same_Some y (f x) (sym is))

Contains-cons : {X : Type 0} (y : X) (ys : List X) (x : X) → Contains ys x → Contains (y ∷ ys) x
Contains-cons y ys x has = (suc has.0, omega (arith, has.1), has.2)

-- an element that is found is in the list and passes
finds : {X : Type 0} (p : X → Bool) (xs : List X) (x : X) → find p xs ≡ Some x → Contains xs x × (p x ≡ true)
finds p [] x is = absurd (none-some x is)
finds p (y ∷ ys) x is = by_test (λ rest. finds p ys x rest) (p y) refl is where
  by_test :
      (find p ys ≡ Some x → Contains ys x × (p x ≡ true)) → (test : Bool) → p y ≡ test → cond test (Some y) (find p ys) ≡ Some x
      → Contains (y ∷ ys) x × (p x ≡ true)
  by_test further true first is = let same : y ≡ x = same_Some y x is in ((0, omega arith, same), ap p (sym same) ∙ first)
  by_test further false first is = let rest = further is in (Contains-cons y ys x rest.0, rest.1)

-- a look-up finds something if an element passes
not-missed :
    {X : Type 0} (p : X → Bool) (xs : List X) (k : ℕ) (x : X) → k < length xs → get_or xs k x ≡ x → p x ≡ true → find p xs ≡ None
    → ⊥
not-missed p [] k x within at passes missed = omega (arith, within)
not-missed p (y ∷ ys) zero x within at passes missed =
    none-some y (sym missed ∙ ap (λ test. cond test (Some y) (find p ys)) (ap p at ∙ passes))
not-missed p (y ∷ ys) (suc k) x within at passes missed =
    by_test (λ rest. not-missed p ys k x (omega (arith, within)) at passes rest) (p y) missed where
      by_test : (find p ys ≡ None → ⊥) → (test : Bool) → cond test (Some y) (find p ys) ≡ None → ⊥
      by_test further true missed = none-some y (sym missed)
      by_test further false missed = further missed

-- the only element that passes is found
pub find-only :
    {X : Type 0} (p : X → Bool) (xs : List X) (x : X) → Contains xs x → p x ≡ true
    → ((y : X) → Contains xs y → p y ≡ true → y ≡ x) → find p xs ≡ Some x
find-only {X} p xs x has passes only = by_found (find p xs) refl where
  by_found : (found : Option X) → find p xs ≡ found → find p xs ≡ Some x
  by_found None missed = absurd (not-missed p xs has.0 x has.1 has.2 passes missed)
  by_found (Some y) is = let there = finds p xs y is in is ∙ ap (λ z. Some z) (only y there.0 there.1)

-- two elements of a list that relates each to those after it are equal, or one relates to the other
pub pair-cases :
    {X : Type 0} (R : X → X → Type 0) (xs : List X) (x y : X) → AllPairs R xs → Contains xs x → Contains xs y
    → (x ≡ y) ⊎ (R x y ⊎ R y x)
pair-cases {X} R xs x y pairs has_x has_y =
    by_order (at_from_Contains xs x has_x) (at_from_Contains xs y has_y)
    (cases_order (at_from_Contains xs x has_x).0 (at_from_Contains xs y has_y).0) where
      At : X → Type 0
      At x = (k : ℕ) × (k < length xs) × ((d : X) → get_or xs k d ≡ x)

      related : (x y : X) (one : At x) (other : At y) → one.0 < other.0 → R x y
      related x y one other below =
          subst (λ z. R z y) (one.2 x) (subst (R (get_or xs one.0 x)) (other.2 x) (pairs one.0 other.0 x below other.1))

      by_order :
          (one : At x) (other : At y) → (one.0 ≡ other.0) ⊎ ((one.0 < other.0) ⊎ (other.0 < one.0)) → (x ≡ y) ⊎ (R x y ⊎ R y x)
      by_order one other (inl is) = inl (sym (one.2 x) ∙ ap (λ k. get_or xs k x) is ∙ other.2 x)
      by_order one other (inr (inl below)) = inr (inl (related x y one other below))
      by_order one other (inr (inr above)) = inr (inr (related y x other one above))

same_id-itself : (id : ObjId) → same_id id id ≡ true
same_id-itself id = ap is_eq (tied_itself id_total id)

-- an object as it is in a boot state: empty, at rest, and bound as the table says
abbrev pub IsAtBoot : Layout → ObjId → Object → Type 0
IsAtBoot t id (o.Untyped memory) = memory.watermark ≡ memory.base
IsAtBoot t id (o.Tcb thread) = IsAtRest thread.state × (thread.inbox ≡ inbox.Empty) × (thread.context ≡ bound_context t id)
IsAtBoot t id (o.Notification notification) = notification.pending ≡ None
IsAtBoot t id (o.Reply answer) = answer.state ≡ reply.Free
IsAtBoot t id (o.Context context) = context.thread ≡ bound_thread t id
IsAtBoot t id _ = ⊤

at_boot-bound : (t : Layout) (id : ObjId) (object : Object) → IsBlank object → IsAtBoot t id (bound t id object)
at_boot-bound t id (o.Untyped _) blank = blank.2
at_boot-bound t id (o.CNode _) blank = tt
at_boot-bound t id (o.Tcb _) blank = (blank.0, blank.1, refl)
at_boot-bound t id (o.Endpoint _) blank = tt
at_boot-bound t id (o.Notification _) blank = blank
at_boot-bound t id (o.Reply _) blank = blank
at_boot-bound t id (o.Context _) blank = refl
at_boot-bound t id (o.Frame _) blank = tt
at_boot-bound t id (o.Control _) blank = tt

-- an object of a boot state, as its table declares it
pub record Declares (t : Layout) (id : ObjId) (object : Object) : Type 0 where
  pub initial : Initial
  pub at : initial_of t id ≡ Some initial
  pub is : object ≡ bound t id initial.object
  pub within : id.0 < length t.objects
  pub in_list : (d : Initial) → get_or t.objects id.0 d ≡ initial

pub declares :
    (t : Layout) (m : Machine) (id : ObjId) (object : Object) → IsBoot t m → object_of m id ≡ Some object → Declares t id object
unfolding initial_of
declares t m id object boot present =
    let found =
    map-some (λ (initial : Initial). bound t id initial.object) (initial_of t id) object (sym (boot.objects id) ∙ present) in
    record {
      initial = found.0;
      at = found.1;
      is = found.2;
      within = slice_get_within t.objects id.0 found.0 found.1;
      in_list = λ d. get_or_from_slice_get t.objects id.0 found.0 d found.1;
    }

pub declared-present :
    (t : Layout) (m : Machine) (id : ObjId) (initial : Initial) → IsBoot t m → initial_of t id ≡ Some initial
    → object_of m id ≡ Some (bound t id initial.object)
declared-present t m id initial boot at = boot.objects id ∙ ap (option_map (λ (initial : Initial). bound t id initial.object)) at

pub declared-law :
    (t : Layout) (id : ObjId) (object : Object) → IsLawful t → (declared : Declares t id object)
    → IsObjectOf (length t.labels) declared.initial
declared-law t id object lawful declared =
    let P : Initial → Type 0 = λ initial. IsObjectOf (length t.labels) initial in
    subst P (declared.in_list declared.initial) (lawful.draft.objects.each id.0 declared.initial declared.within)

pub at_boot :
    (t : Layout) (m : Machine) (id : ObjId) (object : Object) → IsLawful t → IsBoot t m → object_of m id ≡ Some object
    → IsAtBoot t id object
at_boot t m id object lawful boot present =
    let declared = declares t m id object boot present in
    let P : Object → Type 0 = λ object. IsAtBoot t id object in
    subst P (sym declared.is) (at_boot-bound t id declared.initial.object (declared-law t id object lawful declared).blank)

pub in_slot :
    (t : Layout) (slot : SlotRef) (held : Cap) → initial_cap t slot ≡ Some held
    → Contains t.caps (record { slot = slot; cap = held })
unfolding initial_cap
in_slot t slot held filled =
    let at_slot : Filled → Bool = λ filled. same_slot filled.slot slot in
    let found = map-some (λ (filled : Filled). filled.cap) (find at_slot t.caps) held filled in
    let there = finds at_slot t.caps found.0 found.1 in
    let same : found.0.slot ≡ slot = one_slot found.0.slot slot there.1 in
    let is : found.0 ≡ record { slot = slot; cap = held } = λ i. record { slot = same i; cap = sym found.2 i } in
    subst (Contains t.caps) is there.0

-- a capability of the table is marked as its source says
pub marked :
    (t : Layout) (slot : SlotRef) (held : Cap) → IsLawful t → initial_cap t slot ≡ Some held
    → held.original ≡ is_original t slot held.detail
marked t slot held lawful filled =
    let P : Filled → Type 0 = λ filled. filled.cap.original ≡ is_original t filled.slot filled.cap.detail in
    All-contains P t.caps (record { slot = slot; cap = held }) lawful.marked (in_slot t slot held filled)

-- a slot and its parent are a pair of the table
pub paired :
    (t : Layout) (slot parent : SlotRef) → IsLawful t → initial_parent t slot ≡ Some parent
    → IsPairOf t (record { parent = parent; child = slot })
unfolding initial_parent
paired t slot parent lawful joined =
    let of_slot : Pair → Bool = λ pair. same_slot pair.child slot in
    let found = map-some (λ (pair : Pair). pair.parent) (find of_slot t.pairs) parent joined in
    let there = finds of_slot t.pairs found.0 found.1 in
    let same : found.0.child ≡ slot = one_slot found.0.child slot there.1 in
    let is : found.0 ≡ record { parent = parent; child = slot } = λ i. record { parent = sym found.2 i; child = same i } in
    let P : Pair → Type 0 = λ pair. IsPairOf t pair in
    subst P is (All-contains P t.pairs found.0 lawful.tree there.0)

-- a capability of a boot state is one that its table puts into the slot
pub fills :
    (t : Layout) (m : Machine) (slot : SlotRef) (held : Cap) → IsBoot t m → cap_of m slot ≡ Some held
    → Contains t.caps (record { slot = slot; cap = held })
fills t m slot held boot filled = in_slot t slot held (sym (boot.caps slot) ∙ filled)

pub cap-law :
    (t : Layout) (m : Machine) (slot : SlotRef) (held : Cap) → IsLawful t → IsBoot t m → cap_of m slot ≡ Some held
    → IsCapOf t.objects (record { slot = slot; cap = held })
cap-law t m slot held lawful boot filled =
    let P : Filled → Type 0 = λ filled. IsCapOf t.objects filled in
    All-contains P t.caps (record { slot = slot; cap = held }) lawful.draft.caps.each (fills t m slot held boot filled)

-- a capability of a boot state is marked as its source says
pub mark-law :
    (t : Layout) (m : Machine) (slot : SlotRef) (held : Cap) → IsLawful t → IsBoot t m → cap_of m slot ≡ Some held
    → held.original ≡ is_original t slot held.detail
mark-law t m slot held lawful boot filled = marked t slot held lawful (sym (boot.caps slot) ∙ filled)

-- a slot's parent in a boot state is its parent in the table
pub pair-law :
    (t : Layout) (m : Machine) (slot parent : SlotRef) → IsLawful t → IsBoot t m → parent_of m slot ≡ Some parent
    → IsPairOf t (record { parent = parent; child = slot })
pair-law t m slot parent lawful boot joined = paired t slot parent lawful (sym (boot.parents slot) ∙ joined)

abbrev pub Binds : Layout → ObjId → ObjId → Type 0
Binds t thread context = Contains t.bindings (record { thread = thread; context = context })

pub binding-law :
    (t : Layout) (thread context : ObjId) → IsLawful t → Binds t thread context
    → IsBindingOf t.objects (record { thread = thread; context = context })
binding-law t thread context lawful binds =
    let P : Binding → Type 0 = λ binding. IsBindingOf t.objects binding in
    All-contains P t.bindings (record { thread = thread; context = context }) lawful.draft.bindings.each binds

-- a thread has a context exactly if the table binds it to that context

pub binds-thread : (t : Layout) (thread context : ObjId) → bound_context t thread ≡ Some context → Binds t thread context
unfolding bound_context
binds-thread t thread context is =
    let of_thread : Binding → Bool = λ binding. same_id binding.thread thread in
    let found = map-some (λ (binding : Binding). binding.context) (find of_thread t.bindings) context is in
    let there = finds of_thread t.bindings found.0 found.1 in
    let same : found.0.thread ≡ thread = one_id found.0.thread thread there.1 in
    let is : found.0 ≡ record { thread = thread; context = context } = λ i. record { thread = same i; context = sym found.2 i } in
    subst (Contains t.bindings) is there.0

pub thread-bound :
    (t : Layout) (thread context : ObjId) → IsLawful t → Binds t thread context → bound_context t thread ≡ Some context
unfolding bound_context
thread-bound t thread context lawful binds =
    ap (option_map (λ (binding : Binding). binding.context))
    (find-only of_thread t.bindings here binds (same_id-itself thread) only) where
      here : Binding
      here = record { thread = thread; context = context }

      of_thread : Binding → Bool
      of_thread binding = same_id binding.thread thread

      only : (binding : Binding) → Contains t.bindings binding → of_thread binding ≡ true → binding ≡ here
      only binding has tie =
          let same : binding.thread.0 ≡ thread.0 = ap (λ (id : ObjId). id.0) (one_id binding.thread thread tie) in
          let Rises : Binding → Binding → Type 0 = λ one other. one.thread.0 < other.thread.0 in
          elim (pair-cases Rises t.bindings binding here lawful.draft.bindings.rise has binds) [
            | inl is ↦ is
            | inr rises ↦ elim rises [ inl below ↦ absurd (omega arith) | inr above ↦ absurd (omega arith) ]
          ]

-- a context has a thread exactly if the table binds the thread to it

pub binds-context : (t : Layout) (thread context : ObjId) → bound_thread t context ≡ Some thread → Binds t thread context
unfolding bound_thread
binds-context t thread context is =
    let of_context : Binding → Bool = λ binding. same_id binding.context context in
    let found = map-some (λ (binding : Binding). binding.thread) (find of_context t.bindings) thread is in
    let there = finds of_context t.bindings found.0 found.1 in
    let same : found.0.context ≡ context = one_id found.0.context context there.1 in
    let is : found.0 ≡ record { thread = thread; context = context } = λ i. record { thread = sym found.2 i; context = same i } in
    subst (Contains t.bindings) is there.0

pub context-bound :
    (t : Layout) (thread context : ObjId) → IsLawful t → Binds t thread context → bound_thread t context ≡ Some thread
unfolding bound_thread
context-bound t thread context lawful binds =
    ap (option_map (λ (binding : Binding). binding.thread))
    (find-only of_context t.bindings here binds (same_id-itself context) only) where
      here : Binding
      here = record { thread = thread; context = context }

      of_context : Binding → Bool
      of_context binding = same_id binding.context context

      only : (binding : Binding) → Contains t.bindings binding → of_context binding ≡ true → binding ≡ here
      only binding has tie =
          let same : binding.context ≡ context = one_id binding.context context tie in
          let Differ : Binding → Binding → Type 0 = λ one other. one.context ≢ other.context in
          elim (pair-cases Differ t.bindings binding here lawful.draft.bindings.contexts_differ has binds) [
            | inl is ↦ is
            | inr differ ↦ elim differ [ inl apart ↦ absurd (apart same) | inr apart ↦ absurd (apart (sym same)) ]
          ]
