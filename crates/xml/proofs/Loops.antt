-- How the attributes of a tag, and the comments and tags of a text, go on by one, or end.
use Rattle.std.proofs.Common.{[], ℕ, ◌++◌, ◌+◌, ◌-◌, ◌<◌, ◌==◌, ◌∷◌, ◌≡◌, ◌≤◌, Err, List, Ok, arith, false, length, refl, suc, true, zero}
use Rattle.words.specs.{declared.faults.Fault.Fault, Reading.bind}
use Rattle.xml.specs.{Document.{Draft, finished_at, item_at, items_at}, Place.{Place, after_spaces}, Tag.{Pair, attribute_at}}
use Rattle.xml.specs.Tag.{attributes_at, ends_tag}

-- the tag ends
pub attributes_end : (room n : ℕ) (found : List Pair) (place : Place) → n < room → ends_tag (after_spaces place).rest ≡ true
    → attributes_at (room - n) found place ≡ Ok (found, after_spaces place)
unfolding attributes_at
attributes_end room n found place less ends =
    let one : room - n ≡ suc (room - (n + 1)) = omega arith in
    rw one (rw ends refl)

-- an attribute follows
pub attributes_more : (room n : ℕ) (found : List Pair) (place next : Place) (pair : Pair) → n < room
    → ends_tag (after_spaces place).rest ≡ false → attribute_at found place ≡ Ok (pair, next)
    → attributes_at (room - n) found place ≡ attributes_at (room - (n + 1)) (found ++ pair ∷ []) next
unfolding attributes_at bind
attributes_more room n found place next pair less goes read =
    let one : room - n ≡ suc (room - (n + 1)) = omega arith in
    rw one (rw (goes, read) refl)

-- or one that is wrong
pub attributes_fault : (room n : ℕ) (found : List Pair) (place : Place) (fault : Fault) → n < room
    → ends_tag (after_spaces place).rest ≡ false → attribute_at found place ≡ Err fault
    → attributes_at (room - n) found place ≡ Err fault
unfolding attributes_at bind
attributes_fault room n found place fault less goes read =
    let one : room - n ≡ suc (room - (n + 1)) = omega arith in
    rw one (rw (goes, read) refl)

-- the text ends
pub items_end : (count n : ℕ) (draft : Draft) (place : Place) → n < count → length (after_spaces place).rest ≡ 0
    → items_at (count - n) draft place ≡ finished_at draft (after_spaces place)
unfolding items_at
items_end count n draft place less none =
    let one : count - n ≡ suc (count - (n + 1)) = omega arith in
    rw one (rw none refl)

not_zero : (n : ℕ) → 0 < n → (n == 0) ≡ false
not_zero n some = grind arith

-- a comment or a tag follows
pub items_more : (count n : ℕ) (draft after : Draft) (place next : Place) → n < count → 0 < length (after_spaces place).rest
    → item_at draft (after_spaces place) ≡ Ok (after, next)
    → items_at (count - n) draft place ≡ items_at (count - (n + 1)) after next
unfolding items_at bind
items_more count n draft after place next less some read =
    let one : count - n ≡ suc (count - (n + 1)) = omega arith in
    rw one (rw (not_zero _ some, read) refl)

-- or one that is wrong
pub items_fault : (count n : ℕ) (draft : Draft) (place : Place) (fault : Fault) → n < count
    → 0 < length (after_spaces place).rest → item_at draft (after_spaces place) ≡ Err fault
    → items_at (count - n) draft place ≡ Err fault
unfolding items_at bind
items_fault count n draft place fault less some read =
    let one : count - n ≡ suc (count - (n + 1)) = omega arith in
    rw one (rw (not_zero _ some, read) refl)

-- so many comments and tags were read
pub items_over : (count n : ℕ) (draft : Draft) (place : Place) → count ≤ n
    → items_at (count - n) draft place ≡ finished_at draft place
unfolding items_at
items_over count n draft place past =
    let none : count - n ≡ 0 = omega arith in
    rw none refl

-- a number that isn't 0
pub some_left : (n : ℕ) → (n == 0) ≡ false → 0 < n
some_left zero e = absurd cc
some_left (suc n) e = omega arith
