-- The places of numbers after a change of the table of the first numbers, or of the hash map of the others; each number in use is listed.
use Rattle.std.specs.{Cmp.unsigned_tied, List.list_any, Map.lookup, Prelude.{◌||◌, IsSome, None, Option, Some, is_some, nat_eq, option_map}}
use Rattle.std.{specs.Prelude.slice_get, proofs.Common.{[], ℕ, ◌++◌, ◌+◌, ◌∙◌, ◌∷◌, ◌≡◌, ◌≢◌, Bool, List, ap, arith, cond, eq-eqb, false}}
use Rattle.std.proofs.{Common.{length, map, refl, replicate, suc, sym, true, zero}, lemmas.{Bool.false≢true, List.Folds.list_any-append}}
use Rattle.{std.proofs.lemmas.List.{map-append, nil_from_length}, base.specs.declared.ids.ObjId.ObjId, machine.specs.Machine.same_id}
use Rattle.objects.specs.{declared.numbers.Places.Places, Edits.edited, Places.{from_either, numbers_from, numbers_in, places_in}}
use Rattle.objects.proofs.EditLemmas.{slice_get_edited_other, slice_get_edited_same}
use Rattle.std.specs.HashMap as hash

-- a number that the table is for has the place that was set
pub set_early :
    (early : List (Option ℕ)) (late : Option ℕ) (number : ℕ) (was place : Option ℕ) → slice_get early number ≡ Some was
    → from_either (slice_get (edited (λ _. place) early number) number) late ≡ place
set_early early late number was place is =
    ap (λ o. from_either o late) (slice_get_edited_same (λ _. place) early number ∙ ap (option_map (λ _. place)) is)

-- each other number has the place that it had
pub other_early :
    (early : List (Option ℕ)) (late : Option ℕ) (number : ℕ) (place : Option ℕ) (other : ℕ) → other ≢ number
    → from_either (slice_get (edited (λ _. place) early number) other) late ≡ from_either (slice_get early other) late
other_early early late number place other differs =
    ap (λ o. from_either o late) (slice_get_edited_other (λ _. place) early number other differs)

-- no number has a place in a new table, if nothing was hashed either
pub nothing_early :
    (count number : ℕ) (late : Option ℕ) → late ≡ None → from_either (slice_get (replicate count None) number) late ≡ None
nothing_early zero number late none = none
nothing_early (suc count) zero late none = refl
nothing_early (suc count) (suc number) late none = nothing_early count number late none

pub unplaced : (places : Places) → places.early ≡ [] → places.late.entries ≡ [] → (a : ℕ) → places_in places a ≡ None
unplaced places early late a =
    ap (λ xs. from_either (slice_get xs a) (lookup (nat_eq a) places.late.entries)) early ∙ ap (λ es. lookup (nat_eq a) es) late

-- a table that is widened while nothing is hashed gives each number the place that it had
widened_early :
    (early : List (Option ℕ)) (count number : ℕ) (late : Option ℕ) → late ≡ None
    → from_either (slice_get (early ++ replicate count None) number) late ≡ from_either (slice_get early number) late
widened_early [] count number late none = nothing_early count number late none ∙ sym none
widened_early (place ∷ early) count zero late none = refl
widened_early (place ∷ early) count (suc number) late none = widened_early early count number late none

pub widened :
    (places : Places) (count number : ℕ) → length places.late.entries ≡ 0
    → from_either (slice_get (places.early ++ replicate count None) number) (hash.get nat_eq places.late number)
    ≡ places_in places number
widened places count number none =
    widened_early places.early count number _
    (ap (λ es. lookup (nat_eq number) es) (nil_from_length places.late.entries none))

-- a number in use is listed: it is among the first

same_number : (q : ObjId) (number : ℕ) → nat_eq q.0 number ≡ same_id q (record { 0 = number })
same_number q number = sym (unsigned_tied q.0 number)

early_listed :
    (q : ObjId) (early : List (Option ℕ)) (from at : ℕ) → IsSome (slice_get early at) → q.0 ≡ from + at
    → list_any (same_id q) (map (λ number. record { 0 = number }) (numbers_from from early)) ≡ true
early_listed q [] from at some is = absurd (false≢true some)
early_listed q (place ∷ early) from zero some is =
    ap (λ tie. tie || list_any (same_id q) (map (λ number. record { 0 = number }) (numbers_from (suc from) early)))
    (sym (same_number q from) ∙ eq-eqb q.0 from (omega arith))
early_listed q (place ∷ early) from (suc at) some is =
    or_later (same_id q (record { 0 = from })) (early_listed q early (suc from) at some (omega arith))
  where
    or_later : (tie : Bool) {rest : Bool} → rest ≡ true → (tie || rest) ≡ true
    or_later true is = refl
    or_later false is = is

-- or it is hashed

abbrev numbered : ObjId → List (ℕ × ℕ) → Bool
numbered q es = list_any (same_id q) (map (λ number. record { 0 = number }) (map (λ e. e.0) es))

any-number : (q : ObjId) (es : List (ℕ × ℕ)) → is_some (lookup (nat_eq q.0) es) ≡ numbered q es
any-number q [] = refl
any-number q (e ∷ es) =
    by_tie (nat_eq q.0 e.0) (any-number q es) ∙ ap (λ tie. tie || numbered q es) (same_number q e.0)
  where
    by_tie :
        (tie : Bool) → is_some (lookup (nat_eq q.0) es) ≡ numbered q es
        → is_some (cond tie (Some e.1) (lookup (nat_eq q.0) es)) ≡ (tie || numbered q es)
    by_tie true rest = refl
    by_tie false rest = rest

pub number_listed :
    (places : Places) (q : ObjId) → IsSome (places_in places q.0)
    → list_any (same_id q) (map (λ number. record { 0 = number }) (numbers_in places)) ≡ true
number_listed places q some =
    ap (list_any (same_id q)) (map-append (λ number. record { 0 = number }) first (hash.keys places.late))
    ∙ list_any-append (same_id q) (map (λ number. record { 0 = number }) first) _
    ∙ by_early (slice_get places.early q.0) refl some
  where
    first : List ℕ
    first = numbers_from 0 places.early

    or_there : (a b : Bool) → b ≡ true → (a || b) ≡ true
    or_there true b is = refl
    or_there false b is = is

    here_or : (a b : Bool) → a ≡ true → (a || b) ≡ true
    here_or true b is = refl
    here_or false b is = absurd (false≢true is)

    by_early :
        (o : Option (Option ℕ)) → slice_get places.early q.0 ≡ o
        → IsSome (from_either o (hash.get nat_eq places.late q.0))
        → (list_any (same_id q) (map (λ number. record { 0 = number }) first)
        || list_any (same_id q) (map (λ number. record { 0 = number }) (hash.keys places.late)))
        ≡ true
    by_early None is some = or_there _ _ (sym (any-number q places.late.entries) ∙ some)
    by_early (Some place) is some = here_or _ _ (early_listed q places.early 0 q.0 (ap is_some is) (omega arith))
