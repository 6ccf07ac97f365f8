-- Look-ups in a capability table: what a slot holds, a slot's parent and a thread's context stand at one place of one list.
use Rattle.std.{specs.List.{AllPairs, find, slice_get}, proofs.Common.{[], ℕ, ◌<◌, ◌∙◌, ◌∷◌, ◌≡◌, Bool, List, None}}
use Rattle.std.proofs.Common.{Option, Some, ap, arith, cond, false, get_or, length, option_map, refl, suc, sym, true, zero}
use Rattle.std.proofs.lemmas.Option.{get_or_from_slice_get, none-some, same_Some, slice_get-get_or, slice_get_within}
use Rattle.base.specs.declared.ids.{ObjId.ObjId, SlotRef.SlotRef}
use Rattle.machine.specs.declared.{cap.Cap.Cap, layout.{Binding.Binding, Filled.Filled, Pair.Pair}}
use Rattle.machine.specs.{Layout.{Layout, bound_context, initial_cap, initial_parent}, Machine.{same_id, same_slot}}
use Rattle.{machine.proofs.{Ids.itself, LookUps.{one_id, one_slot}}, table.specs.Rules.IsLawful}

-- an element that is found: where it is, that it passes, and that none before it passes
pub record FoundAt {X : Type 0} (p : X → Bool) (xs : List X) (x : X) : Type 0 where
  pub at : ℕ
  pub here : slice_get xs at ≡ Some x
  pub passes : p x ≡ true
  pub before : (i : ℕ) (y : X) → i < at → slice_get xs i ≡ Some y → p y ≡ false

found_later : {X : Type 0} (p : X → Bool) (y : X) (ys : List X) (x : X) → p y ≡ false → FoundAt p ys x → FoundAt p (y ∷ ys) x
found_later {X = X} p y ys x fails found =
    record { at = suc found.at; here = found.here; passes = found.passes; before = before } where
      before : (i : ℕ) (z : X) → i < suc found.at → slice_get (y ∷ ys) i ≡ Some z → p z ≡ false
      before zero z lt at = ap p (sym (same_Some y z at)) ∙ fails
      before (suc i) z lt at = found.before i z (omega arith) at

pub found_at : {X : Type 0} (p : X → Bool) (xs : List X) (x : X) → find p xs ≡ Some x → FoundAt p xs x
found_at p [] x found = absurd (none-some x found)
found_at p (y ∷ ys) x found = by (p y) refl found (found_at p ys x) where
  by :
      (passes : Bool) → p y ≡ passes → cond passes (Some y) (find p ys) ≡ Some x → (find p ys ≡ Some x → FoundAt p ys x)
      → FoundAt p (y ∷ ys) x
  by true passes found later =
      record { at = 0; here = found; passes = ap p (sym (same_Some y x found)) ∙ passes; before = λ i z lt. absurd (omega (arith, lt)) }
  by false fails found later = found_later p y ys x fails (later found)

-- if nothing is found, nothing passes
pub none_found : {X : Type 0} (p : X → Bool) (xs : List X) → find p xs ≡ None → (k : ℕ) (x : X) → slice_get xs k ≡ Some x → p x ≡ false
none_found p [] found k x at = absurd (none-some x at)
none_found {X = X} p (y ∷ ys) found k x at = by (p y) refl found k at (none_found p ys) where
  by :
      (passes : Bool) → p y ≡ passes → cond passes (Some y) (find p ys) ≡ None → (k : ℕ) → slice_get (y ∷ ys) k ≡ Some x
      → (find p ys ≡ None → (k : ℕ) (x : X) → slice_get ys k ≡ Some x → p x ≡ false) → p x ≡ false
  by true passes found k at later = absurd (none-some y (sym found))
  by false fails found zero at later = ap p (sym (same_Some y x at)) ∙ fails
  by false fails found (suc k) at later = later found k x at

-- the first that passes is found
pub found_first :
    {X : Type 0} (p : X → Bool) (xs : List X) (k : ℕ) (x : X) → slice_get xs k ≡ Some x → p x ≡ true
    → ((i : ℕ) (y : X) → i < k → slice_get xs i ≡ Some y → p y ≡ false) → find p xs ≡ Some x
found_first p [] k x here passes before = absurd (none-some x here)
found_first p (y ∷ ys) zero x here passes before =
    ap (λ b. cond b (Some y) (find p ys)) (ap p (same_Some y x here) ∙ passes) ∙ here
found_first p (y ∷ ys) (suc k) x here passes before =
    ap (λ b. cond b (Some y) (find p ys)) (before 0 y (omega arith) refl)
    ∙ found_first p ys k x here passes (λ i z lt at. before (suc i) z (omega arith) at)

pub read_at :
    {X : Type 0} (items xs : List X) (k : ℕ) (d : X) → items ≡ xs → k < length items → slice_get xs k ≡ Some (get_or items k d)
read_at items xs k d same lt = ap (λ ys. slice_get ys k) (sym same) ∙ slice_get-get_or items k d lt

pub pair_at :
    {X : Type 0} (R : X → X → Type 0) (xs : List X) (i j : ℕ) (x y : X) → AllPairs R xs → i < j → slice_get xs i ≡ Some x
    → slice_get xs j ≡ Some y → R x y
pair_at R xs i j x y all lt at_i at_j =
    rw (sym (get_or_from_slice_get xs i x x at_i), sym (get_or_from_slice_get xs j y x at_j))
    (all i j x lt (slice_get_within xs j y at_j))

-- the value of a key stands in the list
pub record KeyedAt {K V X : Type 0} (key : X → K) (value : X → V) (xs : List X) (k : K) (v : V) : Type 0 where
  pub at : ℕ
  pub element : X
  pub here : slice_get xs at ≡ Some element
  pub key_is : key element ≡ k
  pub value_is : value element ≡ v

keyed_at :
    {K V X : Type 0} (same : K → K → Bool) (one : (a b : K) → same a b ≡ true → a ≡ b) (key : X → K) (value : X → V)
    (xs : List X) (k : K) (v : V)
    → option_map value (find (λ x. same (key x) k) xs) ≡ Some v → KeyedAt key value xs k v
keyed_at {X = X} same one key value xs k v is = by (find (λ x. same (key x) k) xs) refl is where
  by : (found : Option X) → find (λ x. same (key x) k) xs ≡ found → option_map value found ≡ Some v → KeyedAt key value xs k v
  by None found is = absurd (none-some v is)
  by (Some element) found is =
      let at = found_at (λ x. same (key x) k) xs element found in
      record { at = at.at; element = element; here = at.here; key_is = one (key element) k at.passes; value_is = same_Some (value element) v is }

-- a filled slot stands in the table's list of capabilities

pub filled_at :
    (t : Layout) (slot : SlotRef) (held : Cap) → initial_cap t slot ≡ Some held
    → KeyedAt (λ (f : Filled). f.slot) (λ f. f.cap) t.caps slot held
unfolding initial_cap
filled_at t slot held is = keyed_at same_slot one_slot (λ (f : Filled). f.slot) (λ f. f.cap) t.caps slot held is

-- a child stands with its parent in the table's list of pairs

pub parent_at :
    (t : Layout) (child parent : SlotRef) → initial_parent t child ≡ Some parent
    → KeyedAt (λ (p : Pair). p.child) (λ p. p.parent) t.pairs child parent
unfolding initial_parent
parent_at t child parent is = keyed_at same_slot one_slot (λ (p : Pair). p.child) (λ p. p.parent) t.pairs child parent is

-- a bound thread stands with its context in the table's list of bindings

pub bound_at :
    (t : Layout) (thread context : ObjId) → bound_context t thread ≡ Some context
    → KeyedAt (λ (b : Binding). b.thread) (λ b. b.context) t.bindings thread context
unfolding bound_context
bound_at t thread context is = keyed_at same_id one_id (λ (b : Binding). b.thread) (λ b. b.context) t.bindings thread context is

pub bound_from :
    (t : Layout) → IsLawful t → (k : ℕ) (binding : Binding) → slice_get t.bindings k ≡ Some binding
    → bound_context t binding.thread ≡ Some binding.context
unfolding bound_context
bound_from t lawful k binding here =
    ap (option_map (λ (b : Binding). b.context))
    (found_first (λ (b : Binding). same_id b.thread binding.thread) t.bindings k binding here
    (itself binding.thread)
    (λ i other lt at. id_below other.thread binding.thread (pair_at (λ (one other : Binding). one.thread.0 < other.thread.0) t.bindings i k other binding lawful.draft.bindings.rise lt at here)))
  where
    id_below : (a b : ObjId) → a.0 < b.0 → same_id a b ≡ false
    id_below a b lt = grind arith
