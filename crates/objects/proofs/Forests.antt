-- Links of a forest: what follows of them, and that they stay so as a root comes under a parent.
use Rattle.std.{specs.Prelude.{None, Option, Some}, proofs.Common.{ℕ, ◌<◌, ◌∙◌, ◌≡◌, ◌≢◌, ◌⊎◌, arith, inl, inr, refl, suc, sym, zero}}
use Rattle.objects.specs.Forest.{IsForest, Joins, Links}

pub cases_link : {K : Type 0} → ((x y : K) → (x ≡ y) ⊎ (x ≢ y)) → (link : Option K) (a : K) → (link ≡ Some a) ⊎ (link ≢ Some a)
cases_link decide None a = inr (λ same. cc)
cases_link decide (Some b) a =
    elim (decide b a) [ inl same ↦ inl cc | inr differs ↦ inr (λ same. differs cc) ]

pub cases_none : {K : Type 0} (link : Option K) → (link ≡ None) ⊎ (link ≢ None)
cases_none None = inl refl
cases_none (Some a) = inr (λ same. cc)

module _ {K : Type 0} (links : Links K) (forest : IsForest links) where
  -- siblings are under the same parent
  pub parent_shared : (a b : K) → links.previous b ≡ Some a → links.parent b ≡ links.parent a
  parent_shared a b behind = by_parent (links.parent b) refl where
    by_parent : (o : Option K) → links.parent b ≡ o → links.parent b ≡ links.parent a
    by_parent None root = let none = forest.rooted b root in cc
    by_parent (Some p) is = is ∙ sym (forest.beside a b p behind is)

  -- nobody stands behind a root
  pub none_behind : (a b : K) → links.parent a ≡ None → links.previous b ≢ Some a
  none_behind a b root behind =
      let shared = parent_shared a b behind in let none = forest.rooted b (shared ∙ root) in cc

  first_by_order :
      (p : K) (most : ℕ) (c : K) → forest.order c < most → links.parent c ≡ Some p → (head : K) × (links.first p ≡ Some head)
  first_by_order p zero c less is = absurd (omega arith)
  first_by_order p (suc most) c less is = by_previous (λ a lower. first_by_order p most a lower) (links.previous c) refl where
    by_previous :
        ((a : K) → forest.order a < most → links.parent a ≡ Some p → (head : K) × (links.first p ≡ Some head))
        → (o : Option K) → links.previous c ≡ o → (head : K) × (links.first p ≡ Some head)
    by_previous earlier None none = (c, forest.heads p c is none)
    by_previous earlier (Some a) behind =
        let lower : forest.order a < forest.order c = forest.later a c behind in
        earlier a (omega arith) (forest.beside a c p behind is)

  -- a parent has a first child
  pub first_of : (c p : K) → links.parent c ≡ Some p → (head : K) × (links.first p ≡ Some head)
  first_of c p = first_by_order p (suc (forest.order c)) c (omega arith)

  pub childless : (p : K) → links.first p ≡ None → (c : K) → links.parent c ≢ Some p
  childless p none c is = let first = (first_of c p is).1 in cc

pub empty_forest :
    {K : Type 0} (links : Links K) → ((q : K) → links.parent q ≡ None) → ((q : K) → links.first q ≡ None)
    → ((q : K) → links.next q ≡ None) → ((q : K) → links.previous q ≡ None) → IsForest links
empty_forest links parent first next previous =
    record {
      depth = λ q. 0;
      order = λ q. 0;
      deeper = λ c p is. let none = parent c in cc;
      later = λ a b is. let none = previous b in cc;
      headed = λ p c is. let none = first p in cc;
      heads = λ p c is head. let none = parent c in cc;
      onward = λ a b is. let none = next a in cc;
      back = λ a b is. let none = previous b in cc;
      beside = λ a b p behind is. let none = parent b in cc;
      rooted = λ b root. previous b;
    }

-- a root comes under a parent

module _ {K : Type 0} (decide : (x y : K) → (x ≡ y) ⊎ (x ≢ y)) (old new : Links K) (c p : K)
    (forest : IsForest old) (joins : Joins old new c p) (root : old.parent c ≡ None) where
  no_first : (q : K) → old.first q ≢ Some c
  no_first q is = let parent = (forest.headed q c is).0 in cc

  head : new.previous c ≡ None
  head = joins.previous_other c (no_first p) ∙ forest.rooted c root

  old_parent : (b q : K) → b ≢ c → new.parent b ≡ Some q → old.parent b ≡ Some q
  old_parent b q apart is = sym (joins.parent_other b apart) ∙ is

  -- the old first child is behind the new, and the rest as before
  behind_now :
      (a b : K) → new.previous b ≡ Some a
      → ((a ≡ c) × (old.first p ≡ Some b)) ⊎ ((a ≢ c) × (old.first p ≢ Some b) × (old.previous b ≡ Some a))
  behind_now a b is =
      elim (cases_link decide (old.first p) b) [
        | inl first ↦ let here = joins.previous_here b first in inl (cc, first)
        | inr other ↦
            let before : old.previous b ≡ Some a = sym (joins.previous_other b other) ∙ is in
            inr ((λ same. none_behind old forest c b root cc), other, before)
      ]

  no_previous : (b a : K) → new.previous b ≡ Some a → b ≢ c
  no_previous b a is same = let none = head in cc

  -- the one that joins comes before all others
  abbrev place : {x y : K} → (x ≡ y) ⊎ (x ≢ y) → ℕ → ℕ
  place (inl same) n = 0
  place (inr apart) n = suc n

  joined_order : K → ℕ
  joined_order q = place (decide q c) (forest.order q)

  joined_later : (a b : K) → new.previous b ≡ Some a → joined_order a < joined_order b
  unfolding joined_order
  joined_later a b is = by_cases (decide a c) (decide b c) where
    by_cases : (s : (a ≡ c) ⊎ (a ≢ c)) (t : (b ≡ c) ⊎ (b ≢ c)) → place s (forest.order a) < place t (forest.order b)
    by_cases s (inl same) = absurd (no_previous b a is same)
    by_cases (inl same) (inr apart) = omega arith
    by_cases (inr differs) (inr apart) =
        elim (behind_now a b is) [
          | inl here ↦ absurd (differs here.0)
          | inr there ↦ let later = forest.later a b there.2 in omega arith
        ]

  pub joined_forest : (rank : K → ℕ) → ((s q : K) → new.parent s ≡ Some q → rank q < rank s) → IsForest new
  joined_forest rank ranked =
      record {
        depth = rank;
        order = joined_order;
        deeper = ranked;
        later = joined_later;
        headed = λ q b is. grind (arith, decide q p, head, forest.headed q b, forest.headed p b, no_first q);
        heads = λ q b is none. grind (arith, decide b c, cases_link decide (old.first p) b, forest.heads q b, old_parent b q);
        onward = λ a b is. grind (arith, decide a c, forest.onward a b, forest.headed p b);
        back = λ a b is. grind (arith, behind_now a b is, forest.back a b);
        beside = λ a b q is above. grind (arith, no_previous b a is, old_parent b q, behind_now a b is, forest.headed p b);
        rooted = λ b none. grind (arith, forest.headed p b, forest.rooted b);
      }
