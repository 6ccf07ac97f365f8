-- The derivation tree by links: each slot has its parent, its first child, and the siblings after and before it; when such links are
-- those of a forest, and the links after a root has come under a parent, and after a slot has left its parent (confine's own).
use Rattle.std.specs.Prelude.{ℕ, ◌<◌, ◌≡◌, ◌≢◌, None, Option, Some}

-- the four links of each slot
pub record Links (K : Type 0) : Type 0 where
  pub parent : K → Option K
  pub first : K → Option K
  pub next : K → Option K
  pub previous : K → Option K

-- The links agree with one another. Ranks exclude circles: one rises from each parent to its children, and one from each sibling to
-- the next.
pub record IsForest {K : Type 0} (links : Links K) : Type 0 where
  pub depth : K → ℕ
  pub order : K → ℕ
  pub deeper : (c p : K) → links.parent c ≡ Some p → depth p < depth c
  pub later : (a b : K) → links.previous b ≡ Some a → order a < order b
  pub headed : (p c : K) → links.first p ≡ Some c → (links.parent c ≡ Some p) × (links.previous c ≡ None)
  pub heads : (p c : K) → links.parent c ≡ Some p → links.previous c ≡ None → links.first p ≡ Some c
  pub onward : (a b : K) → links.next a ≡ Some b → links.previous b ≡ Some a
  pub back : (a b : K) → links.previous b ≡ Some a → links.next a ≡ Some b
  pub beside : (a b p : K) → links.previous b ≡ Some a → links.parent b ≡ Some p → links.parent a ≡ Some p
  pub rooted : (b : K) → links.parent b ≡ None → links.previous b ≡ None

-- the slot `c`, a root, comes under `p`, before the children that are there
pub record Joins {K : Type 0} (old new : Links K) (c p : K) : Type 0 where
  pub parent_here : new.parent c ≡ Some p
  pub parent_other : (q : K) → q ≢ c → new.parent q ≡ old.parent q
  pub first_here : new.first p ≡ Some c
  pub first_other : (q : K) → q ≢ p → new.first q ≡ old.first q
  pub next_here : new.next c ≡ old.first p
  pub next_other : (q : K) → q ≢ c → new.next q ≡ old.next q
  pub previous_here : (q : K) → old.first p ≡ Some q → new.previous q ≡ Some c
  pub previous_other : (q : K) → old.first p ≢ Some q → new.previous q ≡ old.previous q

-- the slot `c` leaves its parent `p`, and its siblings become neighbours
pub record Leaves {K : Type 0} (old new : Links K) (c p : K) : Type 0 where
  pub parent_here : new.parent c ≡ None
  pub parent_other : (q : K) → q ≢ c → new.parent q ≡ old.parent q
  -- the next sibling is then the first child, if the slot was
  pub first_here : old.previous c ≡ None → new.first p ≡ old.next c
  pub first_same : old.previous c ≢ None → new.first p ≡ old.first p
  pub first_other : (q : K) → q ≢ p → new.first q ≡ old.first q
  pub next_here : new.next c ≡ None
  pub next_before : (q : K) → old.previous c ≡ Some q → new.next q ≡ old.next c
  pub next_other : (q : K) → q ≢ c → old.previous c ≢ Some q → new.next q ≡ old.next q
  pub previous_here : new.previous c ≡ None
  pub previous_after : (q : K) → old.next c ≡ Some q → new.previous q ≡ old.previous c
  pub previous_other : (q : K) → q ≢ c → old.next c ≢ Some q → new.previous q ≡ old.previous q
