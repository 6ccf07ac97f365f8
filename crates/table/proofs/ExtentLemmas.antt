-- The extents of objects: how large they are, which of them meet, and which untyped memory holds an address.
use Rattle.std.{specs.List.{Contains, find, list_any, slice_get, Sorted.IsPermutation}, proofs.Common.{[], ℕ, ◌%◌, ◌&&◌, ◌*◌, ◌++◌, ◌+◌}}
use Rattle.std.proofs.Common.{◌-◌, ◌<◌, ◌^◌, ◌||◌, ◌∙◌, ◌∷◌, ◌≡◌, ◌≤◌, ◌⊎◌, All, Bool, List, None, Option, Some, ap, arith, false, get_or}
use Rattle.std.proofs.{Common.{inl, inr, length, nat_le, nat_lt, refl, subst, suc, sym, true, zero}, Math.Pow.pow_mono}
use Rattle.std.proofs.lemmas.{Bool.{cases_lt, false≢true, Decides.nat_tests}, Grind.one_shifted, List.{get_or_default, Folds.find_at}}
use Rattle.std.proofs.lemmas.List.Sorted.{Contains-permutation, IsPermutation-push_more, IsPermutation-refl, IsPermutation-sym}
use Rattle.std.proofs.lemmas.{List.{Sorted.list_any-IsPermutation, Sums.position_or_len_is}, Option.{get_or_from_slice_get, none-some}}
use Rattle.std.proofs.lemmas.Option.{same_Some, slice_get-get_or, slice_get_cases}
use Rattle.base.specs.declared.limits.TheConstants.{ADDRESS_BITS, ADDRESS_END}
use Rattle.machine.specs.declared.{layout.Initial.Initial, object.{Object.{Object, Object as o}, Untyped.Untyped}}
use Rattle.machine.specs.{Authority.has_memory_at, Objects.{address_of, end_of, size_bits, size_of}}
use Rattle.table.specs.{declared.extent.Extent.Extent, Inventory.{extent_of, extents_from}, Placement.{AreApart, holds, meets, touches}}
use Rattle.table.proofs.SearchLemmas.{find_none}

pub size_of-bits : (object : Object) (bits : ℕ) → size_bits object ≡ Some bits → size_of object ≡ 2 ^ bits
size_of-bits (o.Untyped memory) bits e = ap (λ n. 2 ^ n) (same_Some memory.bits bits e)
size_of-bits (o.CNode node) bits e = ap (λ n. 2 ^ n) (same_Some (node.radix + 5) bits e)
size_of-bits (o.Tcb _) bits e = ap (λ n. 2 ^ n) (same_Some 10 bits e)
size_of-bits (o.Endpoint _) bits e = ap (λ n. 2 ^ n) (same_Some 4 bits e)
size_of-bits (o.Notification _) bits e = ap (λ n. 2 ^ n) (same_Some 5 bits e)
size_of-bits (o.Reply _) bits e = ap (λ n. 2 ^ n) (same_Some 5 bits e)
size_of-bits (o.Context _) bits e = ap (λ n. 2 ^ n) (same_Some 8 bits e)
size_of-bits (o.Frame _) bits e = ap (λ n. 2 ^ n) (same_Some 12 bits e)
size_of-bits (o.Control _) bits e = absurd (none-some bits e)

-- an object below the addresses' end has at most as many bits as an address
few_bits : (start bits : ℕ) → start + 2 ^ bits ≤ ADDRESS_END → bits ≤ ADDRESS_BITS
few_bits start bits h = by (cases_lt ADDRESS_BITS bits) where
  by : (ADDRESS_BITS < bits) ⊎ (bits ≤ ADDRESS_BITS) → bits ≤ ADDRESS_BITS
  by (inr few) = few
  by (inl many) = let large : 562949953421312 ≤ 2 ^ bits = pow_mono {i = 49} {j = bits} many in omega (arith, large)

pub small : (object : Object) (bits : ℕ) → size_bits object ≡ Some bits → end_of object ≤ ADDRESS_END → bits ≤ ADDRESS_BITS
small object bits e h =
    few_bits (address_of object) bits
    (let same : size_of object ≡ 2 ^ bits = size_of-bits object bits e in omega (arith, same, h))

pub shifted : (bits : ℕ) → bits ≤ ADDRESS_BITS → (1 * 2 ^ bits % 18446744073709551616 ≡ 2 ^ bits) × (2 ^ bits ≤ ADDRESS_END)
shifted bits few = ((one_shifted bits 18446744073709551615 refl (omega arith)).0, pow_mono {i = bits} {j = 48} few)

pub few_fit : (object : Object) (bits : ℕ) → size_bits object ≡ Some bits → bits ≤ ADDRESS_BITS
    → nat_le (address_of object) (ADDRESS_END - 1 * 2 ^ bits % 18446744073709551616) ≡ nat_le (end_of object) ADDRESS_END
few_fit object bits e few =
    let size : size_of object ≡ 2 ^ bits = size_of-bits object bits e in
    let shift : 1 * 2 ^ bits % 18446744073709551616 ≡ 2 ^ bits = (shifted bits few).0 in
    let below : 2 ^ bits ≤ ADDRESS_END = (shifted bits few).1 in
    rw shift (compared (address_of object) (2 ^ bits) (size_of object) size below) where
      compared :
          (start power size : ℕ) → size ≡ power → power ≤ ADDRESS_END
          → nat_le start (ADDRESS_END - power) ≡ nat_le (start + size) ADDRESS_END
      compared start power size e h = grind (arith, nat_tests)

pub many_exceed :
    (object : Object) (bits : ℕ) → size_bits object ≡ Some bits → ADDRESS_BITS < bits
    → nat_le bits ADDRESS_BITS ≡ nat_le (end_of object) ADDRESS_END
many_exceed object bits e many =
    let size : size_of object ≡ 2 ^ bits = size_of-bits object bits e in
    let large : 562949953421312 ≤ 2 ^ bits = pow_mono {i = 49} {j = bits} many in
    compared (address_of object) bits (2 ^ bits) (size_of object) size large many where
      compared :
          (start bits power size : ℕ) → size ≡ power → 562949953421312 ≤ power → ADDRESS_BITS < bits
          → nat_le bits ADDRESS_BITS ≡ nat_le (start + size) ADDRESS_END
      compared start bits power size e h many = grind (arith, nat_tests)

-- an object meets the extents of others exactly if it meets the others
met_extents :
    (extent : Extent) (object : Object) (objects : List Initial) (number : ℕ)
    → extent.start ≡ address_of object → extent.end ≡ end_of object
    → list_any (λ other. touches other extent) (extents_from number objects)
    ≡ list_any (λ initial. meets initial.object object) objects
unfolding extents_from
met_extents extent object [] number start end = refl
met_extents extent object (initial ∷ objects) number start end =
    λ i.
    (nat_lt (address_of initial.object) (end i) && nat_lt (start i) (end_of initial.object))
    || met_extents extent object objects (number + 1) start end i

pub meets_any-extents :
    (extent : Extent) (object : Object) (extents : List Extent) (objects : List Initial)
    → IsPermutation (extents_from 0 objects) extents → extent.start ≡ address_of object → extent.end ≡ end_of object
    → list_any (λ other. touches other extent) extents ≡ list_any (λ initial. meets initial.object object) objects
meets_any-extents extent object extents objects same start end =
    sym (list_any-IsPermutation (λ other. touches other extent) (extents_from 0 objects) extents same)
    ∙ met_extents extent object objects 0 start end

extents_push :
    (initial : Initial) (objects : List Initial) (number : ℕ)
    → extents_from number (objects ++ initial ∷ [])
    ≡ extents_from number objects ++ extent_of (number + length objects) initial.object ∷ []
unfolding extents_from
extents_push initial [] number = ap (λ n. extent_of n initial.object ∷ []) (omega arith)
extents_push initial (other ∷ objects) number =
    ap (λ rest. extent_of number other.object ∷ rest)
    (extents_push initial objects (number + 1)
    ∙ ap (λ n. extents_from (number + 1) objects ++ extent_of n initial.object ∷ []) (omega arith))

pub no_extents :
    (objects : List Initial) (extents : List Extent) → objects ≡ [] → extents ≡ []
    → IsPermutation (extents_from 0 objects) extents
unfolding extents_from
no_extents objects extents none empty = rw (none, empty) (IsPermutation-refl [])

pub none_apart : (extents : List Extent) → extents ≡ [] → AreApart extents
none_apart extents empty = rw empty (record {
  upward = λ k d within. absurd (omega (arith, within));
  rising = λ i j d before within. absurd (omega (arith, within));
})

push_at_zero :
    (initial : Initial) (objects : List Initial)
    → extents_from 0 (objects ++ initial ∷ []) ≡ extents_from 0 objects ++ extent_of (length objects) initial.object ∷ []
push_at_zero initial objects =
    extents_push initial objects 0 ∙ ap (λ n. extents_from 0 objects ++ extent_of n initial.object ∷ []) (omega arith)

-- the extents with one object more
pub extents_with :
    (initial : Initial) (extent : Extent) (objects : List Initial) (extents : List Extent)
    → IsPermutation (extents_from 0 objects) extents → extent.start ≡ address_of initial.object
    → extent.end ≡ end_of initial.object → extent.number ≡ length objects
    → (before more : List Extent) → before ≡ extents → IsPermutation (extent ∷ before) more
    → (reserved all : List Initial) → reserved ≡ objects → all ≡ reserved ++ initial ∷ []
    → IsPermutation (extents_from 0 all) more
extents_with initial extent objects extents same start end number before more kept added reserved all held pushed =
    rw (pushed, held, push_at_zero initial objects)
    (IsPermutation-push_more (extents_from 0 objects) extents more (extent_of (length objects) initial.object) same
    (subst (λ is. IsPermutation (is ∷ extents) more) (λ i. record { start = start i; end = end i; number = number i })
    (subst (λ list. IsPermutation (extent ∷ list) more) kept added)))

extents_length : (number : ℕ) (objects : List Initial) → length (extents_from number objects) ≡ length objects
unfolding extents_from
extents_length number [] = refl
extents_length number (initial ∷ objects) = ap suc (extents_length (number + 1) objects)

extents_at :
    (number : ℕ) (objects : List Initial) (i : ℕ) (d : Extent) (e : Initial) → i < length objects
    → get_or (extents_from number objects) i d ≡ extent_of (number + i) (get_or objects i e).object
unfolding extents_from
extents_at number [] i d e within = absurd (omega arith)
extents_at number (initial ∷ objects) zero d e within = ap (λ n. extent_of n initial.object) (omega arith)
extents_at number (initial ∷ objects) (suc i) d e within =
    extents_at (number + 1) objects i d e (omega arith)
    ∙ ap (λ n. extent_of n (get_or objects i e).object) (omega arith)

numbered_at :
    (objects : List Initial) (i : ℕ) (d : Extent) (e : Initial) → i < length objects
    → get_or (extents_from 0 objects) i d ≡ extent_of i (get_or objects i e).object
numbered_at objects i d e within =
    extents_at 0 objects i d e within ∙ ap (λ n. extent_of n (get_or objects i e).object) (omega arith)

-- an object that holds an address as memory is untyped memory
memory_of :
    (initial : Initial) (object : Object) → initial.object ≡ object
    → ((address : ℕ) → has_memory_at address initial ≡ false) ⊎ ((memory : Untyped) × (initial.object ≡ o.Untyped memory))
memory_of initial (o.Untyped memory) is = inr (memory, is)
memory_of initial (o.CNode _) is = inl (λ address. rw is refl)
memory_of initial (o.Tcb _) is = inl (λ address. rw is refl)
memory_of initial (o.Endpoint _) is = inl (λ address. rw is refl)
memory_of initial (o.Notification _) is = inl (λ address. rw is refl)
memory_of initial (o.Reply _) is = inl (λ address. rw is refl)
memory_of initial (o.Context _) is = inl (λ address. rw is refl)
memory_of initial (o.Frame _) is = inl (λ address. rw is refl)
memory_of initial (o.Control _) is = inl (λ address. rw is refl)

memory_extent :
    (address number : ℕ) (initial : Initial) (memory : Untyped) → initial.object ≡ o.Untyped memory
    → has_memory_at address initial ≡ holds address (extent_of number initial.object)
memory_extent address number initial memory is = rw is refl

-- an object's extent holds each address that its memory holds
held_at :
    (address number : ℕ) (initial : Initial) → has_memory_at address initial ≡ true
    → holds address (extent_of number initial.object) ≡ true
held_at address number initial has = elim (memory_of initial initial.object refl) [
  | inl none ↦ absurd (false≢true (sym (none address) ∙ has))
  | inr memory ↦ sym (memory_extent address number initial memory.0 memory.1) ∙ has
]

-- the memory that holds an address, read off the extents: `result` is the one extent that holds the address
module _ (address : ℕ) (objects : List Initial) (extents : List Extent) (same : IsPermutation (extents_from 0 objects) extents)
    (result : Option Extent) (alone : All (λ extent. holds address extent ≡ true → result ≡ Some extent) extents) where
  holder_is :
      (i : ℕ) (d : Initial) → i < length objects → has_memory_at address (get_or objects i d) ≡ true
      → result ≡ Some (extent_of i (get_or objects i d).object)
  holder_is i d within has =
      let extent = extent_of i (get_or objects i d).object in
      let there : Contains (extents_from 0 objects) extent =
      (i, subst (λ n. i < n) (sym (extents_length 0 objects)) within, numbered_at objects i extent d within) in
      let among = Contains-permutation (extents_from 0 objects) extents extent same there in
      subst (λ (e : Extent). holds address e ≡ true → result ≡ Some e) among.2 (alone among.0 extent among.1)
      (held_at address i (get_or objects i d) has)

  unheld : (initial : Initial) (is : Bool) → has_memory_at address initial ≡ is → (is ≡ true → ⊥) → has_memory_at address initial ≡ false
  unheld initial false same never = same
  unheld initial true same never = absurd (never refl)

  -- if no extent holds the address, no memory does
  pub memory_nowhere : result ≡ None → find (has_memory_at address) objects ≡ None
  memory_nowhere none = find_none (has_memory_at address) objects (λ i d within.
      unheld (get_or objects i d) (has_memory_at address (get_or objects i d)) refl
      (λ has. none-some _ (sym none ∙ holder_is i d within has)))

  module _ (extent : Extent) (found : result ≡ Some extent) (among : Contains extents extent) where
    -- the number of the extent is that of its object
    pub its_object :
        (j : ℕ) × (j < length objects) × ((d : Initial) → extent ≡ extent_of j (get_or objects j d).object)
    its_object =
        let there = Contains-permutation extents (extents_from 0 objects) extent (IsPermutation-sym (extents_from 0 objects) extents same) among in
        let within : there.0 < length objects = subst (λ n. there.0 < n) (extents_length 0 objects) there.1 in
        (there.0, within, λ d. sym there.2 ∙ numbered_at objects there.0 extent d within)

    pub is_numbered : slice_get objects extent.number ≡ None → ⊥
    is_numbered none = elim (slice_get_cases objects its_object.0).1 [
      | inl is ↦
          none-some is.0
          (sym none ∙ ap (λ (e : Extent). slice_get objects e.number) (its_object.2 is.0) ∙ is.2)
      | inr past ↦ absurd (omega (arith, past.0, its_object.1))
    ]

    module _ (initial : Initial) (at : slice_get objects extent.number ≡ Some initial) where
      is_its : (get_or objects its_object.0 initial ≡ initial) × (extent ≡ extent_of its_object.0 initial.object)
      is_its =
          let number : extent.number ≡ its_object.0 = ap (λ (e : Extent). e.number) (its_object.2 initial) in
          let here = get_or_from_slice_get objects its_object.0 initial initial (ap (slice_get objects) (sym number) ∙ at) in
          (here, its_object.2 initial ∙ ap (λ (x : Initial). extent_of its_object.0 x.object) here)

      -- the object holds the address if it is untyped memory
      pub has_it : (memory : Untyped) → initial.object ≡ o.Untyped memory → holds address extent ≡ true → has_memory_at address initial ≡ true
      has_it memory is held =
          memory_extent address its_object.0 initial memory is ∙ ap (holds address) (sym is_its.1) ∙ held

      pub lacks_it : ((memory : Untyped) → initial.object ≡ o.Untyped memory → ⊥) → has_memory_at address initial ≡ false
      lacks_it other = elim (memory_of initial initial.object refl) [
        | inl none ↦ none address
        | inr memory ↦ absurd (other memory.0 memory.1)
      ]

      -- no other object has memory there
      alone_there : (i : ℕ) (d : Initial) → i < length objects → has_memory_at address (get_or objects i d) ≡ true → i ≡ its_object.0
      alone_there i d within has =
          ap (λ (e : Extent). e.number)
          (sym (same_Some _ _ (sym found ∙ holder_is i d within has)) ∙ its_object.2 initial)

      pub memory_there : has_memory_at address initial ≡ true → find (has_memory_at address) objects ≡ Some initial
      memory_there has =
          find_at (has_memory_at address) objects
          ∙ ap (slice_get objects)
          (position_or_len_is (has_memory_at address) objects its_object.0 initial (omega (arith, its_object.1))
          (λ k before. unheld (get_or objects k initial) (has_memory_at address (get_or objects k initial)) refl
          (λ it. absurd (omega (arith, before, alone_there k initial (omega (arith, before, its_object.1)) it))))
          (λ _. ap (has_memory_at address) is_its.0 ∙ has))
          ∙ slice_get-get_or objects its_object.0 initial its_object.1 ∙ ap (λ x. Some x) is_its.0

      pub no_memory_there : has_memory_at address initial ≡ false → find (has_memory_at address) objects ≡ None
      no_memory_there lacks = find_none (has_memory_at address) objects (λ i d within.
          unheld (get_or objects i d) (has_memory_at address (get_or objects i d)) refl
          (λ has. false≢true (sym lacks ∙ lacking i d within has (alone_there i d within has)))) where
            lacking : (i : ℕ) (d : Initial) → i < length objects → has_memory_at address (get_or objects i d) ≡ true
                → i ≡ its_object.0 → has_memory_at address initial ≡ true
            lacking i d within has is =
                ap (has_memory_at address) (sym is_its.0 ∙ ap (λ n. get_or objects n initial) (sym is) ∙ get_or_default objects i initial d within)
                ∙ has
