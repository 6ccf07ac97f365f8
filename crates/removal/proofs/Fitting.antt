-- Lists of objects that are there, none of them twice: such a list is no longer than there are objects.
use Rattle.std.{specs.{FinMap.{FinMap, entries}, Prelude.{◌⊎◌, Contains, IsSome, None, is_some}}, proofs.Common.{[], ℕ, ◌++◌, ◌-◌, ◌<◌}}
use Rattle.std.proofs.Common.{◌∙◌, ◌∷◌, ◌≡◌, ◌≢◌, ◌≤◌, List, ap, arith, cond, inl, inr, length, length-append, refl, subst, suc, sym, zero}
use Rattle.std.proofs.lemmas.{Bool.false≢true, List.{Elements.Contains-append_cases, Quantifiers.{all_pairs_push, all_pairs_remove}}}
use Rattle.{std.proofs.lemmas.List.{get_or_default, length-map}, base.specs.declared.ids.ObjId.ObjId}
use Rattle.machine.specs.{declared.object.Object.Object, Counts.objects_in, Machine.{Machine, id_cmp, object_of}}
use Rattle.{machine.proofs.{FiniteLemmas.cond_elsewhere, LookUps.{id_apart, id_total}}, removal.specs.UnderWay.HasNoneTwice}
use Rattle.std.specs.FinMap as map

-- an object that stands first and once isn't among the rest
first_apart : (id : ObjId) (ids : List ObjId) → HasNoneTwice (id ∷ ids) → ¬ (Contains ids id)
first_apart id ids once there = once 0 (suc there.0) id (omega arith) (omega (arith, there.1)) (sym there.2)

further_in : (id : ObjId) (ids : List ObjId) (each : ObjId) → Contains ids each → Contains (id ∷ ids) each
further_in id ids each there = (suc there.0, omega (arith, there.1), there.2)

pub first_in : (id : ObjId) (ids : List ObjId) → Contains (id ∷ ids) id
first_in id ids = (0, omega arith, refl)

-- a table that has a key is not empty
some_key : (table : FinMap id_cmp Object) (id : ObjId) → IsSome (map.get table id) → 1 ≤ map.len table
some_key table id there = by_len (map.len table) refl where
  by_len : (n : ℕ) → map.len table ≡ n → 1 ≤ n
  by_len zero is =
      absurd
      (false≢true
      (sym (ap is_some (map.get-empty id_cmp id)) ∙ sym (ap (λ t. is_some (map.get t id)) (map.empty_of_len table is)) ∙ there))
  by_len (suc n) is = omega arith

fits_in :
    (ids : List ObjId) (table : FinMap id_cmp Object) → HasNoneTwice ids → ((id : ObjId) → Contains ids id → IsSome (map.get table id))
    → length ids ≤ map.len table
fits_in [] table once there = omega arith
fits_in (id ∷ ids) table once there =
    let first : IsSome (map.get table id) = there id (first_in id ids) in
    let some = some_key table id first in
    let less : map.len (map.remove table id) ≡ map.len table - 1 =
    map.len-remove id_total table id ∙ ap (λ b. cond b (map.len table - 1) (map.len table)) first in
    let fewer : length ids ≤ map.len (map.remove table id) =
    fits_in ids (map.remove table id) (all_pairs_remove (λ a b. a ≢ b) (id ∷ ids) 0 (omega arith) once)
    (λ each listed.
    ap is_some
    (map.get-remove id_total table id each
    ∙ cond_elsewhere id_total id_apart each id None (map.get table each)
    (λ same. first_apart id ids once (subst (λ (x : ObjId). Contains ids x) same listed)))
    ∙ there each (further_in id ids each listed)) in
    omega (arith, some, less, fewer)

objects_counted : (m : Machine) → objects_in m ≡ map.len m.objects
unfolding objects_in
objects_counted m = length-map (entries m.objects) (λ entry. entry.1) ∙ sym (map.len-entries m.objects)

pub no_more_than_objects :
    (m : Machine) (ids : List ObjId) → HasNoneTwice ids → ((id : ObjId) → Contains ids id → IsSome (object_of m id))
    → length ids ≤ objects_in m
unfolding object_of
no_more_than_objects m ids once there = let all = objects_counted m in let few = fits_in ids m.objects once there in omega (arith, all, few)

pub only_one : (x y : ObjId) → Contains (x ∷ []) y → y ≡ x
only_one x y (zero, within, is) = sym is
only_one x y (suc k, within, is) = absurd (omega (arith, within))

-- an object that isn't in a list may be added to it, once
pub once_more : (ids : List ObjId) (id : ObjId) → HasNoneTwice ids → (¬ (Contains ids id)) → HasNoneTwice (ids ++ id ∷ [])
once_more ids id once apart =
    all_pairs_push (λ a b. a ≢ b) ids id once (λ k d less same. apart (k, less, get_or_default ids k id d less ∙ same))

-- a list that lacks a present object has room for it
pub room_for_one :
    (m : Machine) (ids : List ObjId) (id : ObjId) → HasNoneTwice ids → ((each : ObjId) → Contains ids each → IsSome (object_of m each))
    → IsSome (object_of m id) → (¬ (Contains ids id)) → length ids < objects_in m
room_for_one m ids id once there present apart =
    let few = no_more_than_objects m (ids ++ id ∷ []) (once_more ids id once apart) (λ each listed. by_place each (Contains-append_cases ids (id ∷ []) each listed)) in
    let longer = length-append ids (id ∷ []) in
    omega (arith, few, longer)
  where
    by_place : (each : ObjId) → Contains ids each ⊎ Contains (id ∷ []) each → IsSome (object_of m each)
    by_place each (inl listed) = there each listed
    by_place each (inr last) = subst (λ (x : ObjId). IsSome (object_of m x)) (sym (only_one id each last)) present
