-- The next pair of a table may be added to the tree of a state that has the pairs before it.
use Rattle.std.specs.{declared.cmp.Ordering.TheVariants.Less, List.find, Ordering.is_eq, Prelude.{AllPairs, IsSome, IsTrue, None, Option}}
use Rattle.std.{specs.Prelude.{Some, option_map}, proofs.Common.{[], ℕ, ◌+◌, ◌<◌, ◌∙◌, ◌∷◌, ◌≡◌, Bool, List, ap, cond, false, get_or}}
use Rattle.{std.proofs.{Common.{length, refl, suc, sym, take, true, zero}, lemmas.Bool.false≢true}, base.specs.declared.ids.SlotRef.SlotRef}
use Rattle.machine.specs.{declared.{cap.Cap.Cap, layout.Pair.Pair}, Boot.IsBoot, Layout.{Layout, initial_cap, initial_parent}}
use Rattle.machine.specs.Machine.{Machine, cap_of, has_slot, parent_of, same_slot, slot_cmp, with_parent}
use Rattle.{table.specs.Tree.IsPairOf, kernel.proofs.BootLemmas.{below_next, boot-derived, find-missing}}

-- an element found among the first of a list is found in the list
find-first : {X : Type 0} (p : X → Bool) (n : ℕ) (xs : List X) (x : X) → find p (take n xs) ≡ Some x → find p xs ≡ Some x
find-first p zero xs x is = cc
find-first p (suc n) [] x is = cc
find-first p (suc n) (y ∷ xs) x is = by_test (find-first p n xs x) (p y) is where
  by_test :
      (find p (take n xs) ≡ Some x → find p xs ≡ Some x) → (test : Bool) → cond test (Some y) (find p (take n xs)) ≡ Some x
      → cond test (Some y) (find p xs) ≡ Some x
  by_test rest true first = first
  by_test rest false later = rest later

-- a slot that is filled is there
pub filled_slot :
    (m : Machine) → ((slot : SlotRef) (held : Cap) → cap_of m slot ≡ Some held → IsTrue (has_slot m slot)) → (slot : SlotRef)
    → IsSome (cap_of m slot) → IsTrue (has_slot m slot)
filled_slot m there slot filled = by_cap (cap_of m slot) refl filled where
  by_cap : (filling : Option Cap) → cap_of m slot ≡ filling → IsSome filling → IsTrue (has_slot m slot)
  by_cap None is some = absurd (false≢true some)
  by_cap (Some held) is some = there slot held is

module _ (t : Layout) (m : Machine) (i : ℕ) (d : Pair) where
  abbrev next : Pair
  next = get_or t.pairs i d

  -- its two slots are filled

  pub next_below : IsBoot (record t { pairs = take i t.pairs }) m → IsPairOf t next → IsSome (cap_of m next.child)
  unfolding initial_cap
  next_below boot pair = rw (boot.caps next.child ∙ pair.child) refl

  pub next_above : IsBoot (record t { pairs = take i t.pairs }) m → IsPairOf t next → IsSome (cap_of m next.parent)
  unfolding initial_cap
  next_above boot pair = rw (boot.caps next.parent ∙ pair.parent) refl

  module _ (rise : AllPairs (λ one other. slot_cmp one.child other.child ≡ Less) t.pairs) (within : i < length t.pairs)
      (boot : IsBoot (record t { pairs = take i t.pairs }) m) where
    -- its child has no parent yet: pairs rise by child
    pub next_root : parent_of m next.child ≡ None
    unfolding initial_parent
    next_root =
        boot.parents next.child
        ∙ ap (option_map (λ pair. pair.parent))
        (find-missing (λ pair. same_slot pair.child next.child) (take i t.pairs) d
        (λ k lower. ap is_eq (below_next (λ (p : Pair). p.child) t.pairs i d rise within k lower)))

    -- the pairs of the state are then the table's
    pub next_ranked :
        (slot parent : SlotRef) → parent_of (with_parent m next.child next.parent) slot ≡ Some parent
        → initial_parent t slot ≡ Some parent
    unfolding initial_parent
    next_ranked slot parent joined =
        by_found (find here (take (i + 1) t.pairs)) refl
        (sym ((boot-derived t m i d rise within boot).parents slot) ∙ joined) where
          here : Pair → Bool
          here pair = same_slot pair.child slot

          by_found :
              (found : Option Pair) → find here (take (i + 1) t.pairs) ≡ found → option_map (λ pair. pair.parent) found ≡ Some parent
              → option_map (λ pair. pair.parent) (find here t.pairs) ≡ Some parent
          by_found None is e = cc
          by_found (Some pair) is e =
              ap (option_map (λ pair. pair.parent)) (find-first here (i + 1) t.pairs pair is) ∙ e
