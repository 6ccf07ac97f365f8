-- The search for the regions that a user maps, map by map.
use Rattle.std.proofs.Common.{[], ℕ, ◌++◌, ◌+◌, ◌<◌, ◌∙◌, ◌∷◌, ◌≡◌, ◌≤◌, List, add-one, ap, append_assoc, arith, cond, drop, drop-cons}
use Rattle.std.proofs.{Common.{false, get_or, length, map, refl, suc, sym, take, true, zero}, lemmas.List.{append-nil, drop_all}}
use Rattle.microkit.specs.declared.description.{Map.Map, User.User}
use Rattle.importing.specs.{declared.slots.Held.Held, Maps.{frame_held, is_new, regions_from}}

-- one more element of a list
pub take_more : {X : Type 0} (xs : List X) (i : ℕ) (d : X) → i < length xs → take i xs ++ get_or xs i d ∷ [] ≡ take (i + 1) xs
take_more {X = X} xs i d below = rw add-one (sym (by xs i below))
  where
    by : (ys : List X) (k : ℕ) → k < length ys → take (suc k) ys ≡ take k ys ++ get_or ys k d ∷ []
    by [] k below = absurd (omega (arith, below))
    by (y ∷ ys) zero below = refl
    by (y ∷ ys) (suc k) below = ap (λ zs. y ∷ zs) (by ys k (omega (arith, below)))

pub drop_more : {X : Type 0} (xs : List X) (i : ℕ) (d : X) → i < length xs → drop i xs ≡ get_or xs i d ∷ drop (i + 1) xs
drop_more xs i d below = rw add-one (drop-cons xs i d below)

-- the map at a place decides
step : (maps : List Map) (user : User) (i : ℕ) (one : Map) → i < length maps → get_or maps i one ≡ one
    → regions_from (take i maps) user (drop i maps)
    ≡ cond (is_new maps user i one) (one.region ∷ regions_from (take (i + 1) maps) user (drop (i + 1) maps))
    (regions_from (take (i + 1) maps) user (drop (i + 1) maps))
step maps user i one below at =
    ap (λ left. regions_from (take i maps) user left) (drop_more maps i one below ∙ ap (λ m. m ∷ drop (i + 1) maps) at)
    ∙ ap (λ seen. cond (is_new maps user i one) (one.region ∷ regions_from seen user (drop (i + 1) maps))
    (regions_from seen user (drop (i + 1) maps)))
    (ap (λ m. take i maps ++ m ∷ []) (sym at) ∙ take_more maps i one below)

-- a new region
pub found_more : (maps : List Map) (user : User) (i : ℕ) (one : Map) (found : List Held) → i < length maps → get_or maps i one ≡ one
    → is_new maps user i one ≡ true
    → (found ++ frame_held maps user one.region ∷ []) ++ map (frame_held maps user) (regions_from (take (i + 1) maps) user (drop (i + 1) maps))
    ≡ found ++ map (frame_held maps user) (regions_from (take i maps) user (drop i maps))
found_more maps user i one found below at new =
    append_assoc found (frame_held maps user one.region ∷ []) _
    ∙ sym (ap (λ xs. found ++ map (frame_held maps user) xs)
    (step maps user i one below at
    ∙ ap (λ b. cond b (one.region ∷ regions_from (take (i + 1) maps) user (drop (i + 1) maps))
    (regions_from (take (i + 1) maps) user (drop (i + 1) maps))) new))

-- no new region
pub found_same : (maps : List Map) (user : User) (i : ℕ) (one : Map) (found : List Held) → i < length maps → get_or maps i one ≡ one
    → is_new maps user i one ≡ false
    → found ++ map (frame_held maps user) (regions_from (take (i + 1) maps) user (drop (i + 1) maps))
    ≡ found ++ map (frame_held maps user) (regions_from (take i maps) user (drop i maps))
found_same maps user i one found below at old =
    sym (ap (λ xs. found ++ map (frame_held maps user) xs)
    (step maps user i one below at
    ∙ ap (λ b. cond b (one.region ∷ regions_from (take (i + 1) maps) user (drop (i + 1) maps))
    (regions_from (take (i + 1) maps) user (drop (i + 1) maps))) old))

-- no map is left
pub found_all : (maps : List Map) (user : User) (i : ℕ) (found : List Held) → length maps ≤ i
    → found ++ map (frame_held maps user) (regions_from (take i maps) user (drop i maps)) ≡ found
found_all maps user i found past =
    ap (λ left. found ++ map (frame_held maps user) (regions_from (take i maps) user left)) (drop_all i maps past) ∙ append-nil found
