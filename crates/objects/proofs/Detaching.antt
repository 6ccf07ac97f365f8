-- A slot that leaves its parent: links of a forest stay so.
use Rattle.std.{specs.Prelude.{None, Some}, proofs.Common.{◌<◌, ◌∙◌, ◌≡◌, ◌≢◌, ◌⊎◌, arith, inl, inr, sym}}
use Rattle.objects.{specs.Forest.{IsForest, Leaves, Links}, proofs.Forests.{cases_link, cases_none, parent_shared}}

module _ {K : Type 0} (decide : (x y : K) → (x ≡ y) ⊎ (x ≢ y)) (old new : Links K) (c p : K)
    (forest : IsForest old) (leaves : Leaves old new c p) (under : old.parent c ≡ Some p) where
  with_parent : (b q : K) → new.parent b ≡ Some q → b ≢ c
  with_parent b q is same = let here = leaves.parent_here in cc

  with_previous : (b a : K) → new.previous b ≡ Some a → b ≢ c
  with_previous b a is same = let here = leaves.previous_here in cc

  old_parent : (b q : K) → new.parent b ≡ Some q → old.parent b ≡ Some q
  old_parent b q is = sym (leaves.parent_other b (with_parent b q is)) ∙ is

  -- the next slot is behind the one before, and the rest as before
  behind_now :
      (a b : K) → new.previous b ≡ Some a
      → ((old.next c ≡ Some b) × (old.previous c ≡ Some a)) ⊎ ((old.next c ≢ Some b) × (old.previous b ≡ Some a))
  behind_now a b is =
      elim (cases_link decide (old.next c) b) [
        | inl next ↦ inl (next, sym (leaves.previous_after b next) ∙ is)
        | inr other ↦ inr (other, sym (leaves.previous_other b (with_previous b a is) other) ∙ is)
      ]

  apart_before : (a : K) → old.previous c ≡ Some a → a ≢ c
  apart_before a before same =
      let less : forest.order a < forest.order c = forest.later a c before in
      let equal : forest.order a ≡ forest.order c = cc in omega arith

  apart_next : (b : K) → old.next c ≡ Some b → b ≢ c
  apart_next b next same = apart_before b (let behind = forest.onward c b next in cc) same

  -- the next is under the same parent
  next_under : (b : K) → old.next c ≡ Some b → old.parent b ≡ Some p
  next_under b next = parent_shared old forest c b (forest.onward c b next) ∙ under

  -- a first child isn't behind the one that leaves
  first_not_next : (q b : K) → old.first q ≡ Some b → old.next c ≢ Some b
  first_not_next q b first next =
      let behind = forest.onward c b next in let none = (forest.headed q b first).1 in cc

  kept_first :
      (q b : K) → old.first q ≡ Some b → b ≢ c → (new.parent b ≡ Some q) × (new.previous b ≡ None)
  kept_first q b first apart =
      let below = forest.headed q b first in
      (leaves.parent_other b apart ∙ below.0, leaves.previous_other b apart (first_not_next q b first) ∙ below.1)

  pub left_forest : IsForest new
  left_forest =
      record {
        depth = forest.depth;
        order = forest.order;
        deeper = λ b q is. forest.deeper b q (old_parent b q is);
        later = λ a b is. grind
            (arith, behind_now a b is, forest.later a b, forest.later a c, forest.later c b, forest.onward c b);
        headed = λ q b is. grind (arith, decide q p, cases_none (old.previous c), apart_next b, next_under b, kept_first q b);
        heads = λ q b is none. grind (arith, old_parent b q is, cases_link decide (old.next c) b, next_under b, decide q p);
        onward = λ a b is. grind (arith, cases_link decide (old.previous c) a, forest.onward a b, forest.onward c b);
        back = λ a b is. grind (arith, behind_now a b is, forest.back a b, forest.back a c, with_previous b a is);
        beside = λ a b q is above. grind (arith, behind_now a b is, old_parent b q above, next_under b, apart_before a);
        rooted = λ b none. grind (arith, decide b c, forest.rooted b, next_under b);
      }
