-- The steps by which a table's line is read: the words it has, the tests it passed, and the item it adds.
use Rattle.std.proofs.{Common.{[], ℕ, ◌∷◌, ◌≡◌, List, None, Ok, Option, Result, Some, ap, refl, true}, lemmas.Bool.{and_from, and_parts}}
use Rattle.{words.specs.{declared.faults.Wrong.Wrong, Reading.{bind, or_syntax}}, machine.specs.Layout.Layout}
use Rattle.table.specs.Items.{BeforeBindings, BeforeCaps, BeforeObjects, BeforePairs, Item}
use Rattle.captext.specs.{TableText.IsLineOf, Tables.{is_nil, takes_caps, takes_labels, takes_objects, takes_pairs}}

-- a line was read: it adds an item
abbrev pub TakesItem : Layout → List (List ℕ) → Layout → Type 0
TakesItem t words next = (item : Item) × IsLineOf t words next item

-- a word spelled a value, and reading went on with it
pub spelled_then : {V Y : Type 0} (o : Option V) (f : V → Result Y Wrong) (y : Y) → bind (or_syntax o) f ≡ Ok y
    → (v : V) × (o ≡ Some v) × (f v ≡ Ok y)
unfolding bind or_syntax
spelled_then (Some v) f y h = (v, refl, h)
spelled_then None f y h = cc

pub same_ok : {X : Type 0} (x y : X) → ◌≡◌ {A = Result X Wrong} (Ok x) (Ok y) → x ≡ y
same_ok x y h = cc

-- the sections that have not begun

nil_takes : {X : Type 0} (xs : List X) → is_nil xs ≡ true → xs ≡ []
nil_takes [] h = refl
nil_takes (x ∷ xs) h = cc

nil_again : {X : Type 0} (xs : List X) → xs ≡ [] → is_nil xs ≡ true
nil_again xs none = ap is_nil none

pub pairs_take : (t : Layout) → takes_pairs t ≡ true → BeforeBindings t
pairs_take t h = nil_takes t.bindings h

pub caps_take : (t : Layout) → takes_caps t ≡ true → BeforePairs t
caps_take t h = let parts = and_parts _ _ h in (nil_takes t.pairs parts.0, pairs_take t parts.1)

pub objects_take : (t : Layout) → takes_objects t ≡ true → BeforeCaps t
objects_take t h = let parts = and_parts _ _ h in (nil_takes t.caps parts.0, caps_take t parts.1)

pub labels_take : (t : Layout) → takes_labels t ≡ true → BeforeObjects t
labels_take t h = let parts = and_parts _ _ h in (nil_takes t.objects parts.0, objects_take t parts.1)

pub pairs_again : (t : Layout) → BeforeBindings t → takes_pairs t ≡ true
pairs_again t now = nil_again t.bindings now

pub caps_again : (t : Layout) → BeforePairs t → takes_caps t ≡ true
caps_again t now = and_from _ _ (nil_again t.pairs now.0) (pairs_again t now.1)

pub objects_again : (t : Layout) → BeforeCaps t → takes_objects t ≡ true
objects_again t now = and_from _ _ (nil_again t.caps now.0) (caps_again t now.1)

pub labels_again : (t : Layout) → BeforeObjects t → takes_labels t ≡ true
labels_again t now = and_from _ _ (nil_again t.objects now.0) (objects_again t now.1)
