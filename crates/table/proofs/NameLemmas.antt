-- Names that are kept as strings: the place of a name among them, and that a new name goes last.
use Rattle.std.specs.{List.{list_any, position_or_len, prefix_len}, Str.bytes_eq, String.{string_bytes, string_eq}}
use Rattle.std.proofs.Common.{[], ℕ, ◌++◌, ◌+◌, ◌||◌, ◌∙◌, ◌∷◌, ◌≡◌, Bool, List, None, Option, Some, String, ap, arith, cond}
use Rattle.std.proofs.Common.{false, if◌then◌else◌, is_some, length, map, nat_lt, not, option_map, position, refl, suc, sym, true}
use Rattle.{std.proofs.lemmas.{Bool.Decides.nat_tests, List.{length-map, map_push}}, indexmap.specs.IndexSet.insert_key}

prefix_len-map : {X Y : Type 0} (p : Y → Bool) (f : X → Y) (xs : List X) → prefix_len p (map f xs) ≡ prefix_len (λ x. p (f x)) xs
prefix_len-map p f [] = refl
prefix_len-map p f (x ∷ xs) = ap (λ n. cond (p (f x)) (1 + n) 0) (prefix_len-map p f xs)

pub position-map : {X Y : Type 0} (p : Y → Bool) (f : X → Y) (xs : List X) → position p (map f xs) ≡ position (λ x. p (f x)) xs
position-map p f xs =
    let place = prefix_len-map (λ y. not (p y)) f xs in
    let size = length-map xs f in
    λ i. cond (nat_lt (place i) (size i)) (Some (place i)) None

is_some-cond : (b : Bool) (n : ℕ) → is_some (cond b (Some n) None) ≡ b
is_some-cond true n = refl
is_some-cond false n = refl

pub list_any-position : {X : Type 0} (p : X → Bool) (xs : List X) → list_any p xs ≡ nat_lt (position_or_len p xs) (length xs)
list_any-position p [] = refl
list_any-position p (x ∷ xs) = by (p x) (list_any p xs) (position_or_len p xs) (length xs) (list_any-position p xs) where
  by : (b any : Bool) (n len : ℕ) → any ≡ nat_lt n len → (b || any) ≡ nat_lt (cond (not b) (1 + n) 0) (suc len)
  by true any n len e = grind (arith, nat_tests)
  by false any n len e = e ∙ grind (arith, nat_tests)

-- a name without a place isn't in the list
pub list_any-none : {X : Type 0} (p : X → Bool) (xs : List X) → is_some (position p xs) ≡ false → list_any p xs ≡ false
list_any-none p xs none =
    list_any-position p xs ∙ sym (is_some-cond (nat_lt (position_or_len p xs) (length xs)) (position_or_len p xs)) ∙ none

-- a name has a number exactly if it has a place
pub is_some-option_map : {X Y : Type 0} (f : X → Y) (o : Option X) → is_some (option_map f o) ≡ is_some o
is_some-option_map f None = refl
is_some-option_map f (Some x) = refl

-- a new name goes last
pub added :
    {A : Type 0} (name : List ℕ) (string : String A) (strings : List (String A)) (names : List (List ℕ))
    → string_bytes string ≡ name → map string_bytes strings ≡ names
    → is_some (position (λ other. bytes_eq name other) names) ≡ false
    → map string_bytes (insert_key string_eq strings string) ≡ names ++ name ∷ []
added name string strings names spelled seen none =
    let at_string : is_some (position (λ other. bytes_eq (string_bytes string) other) (map string_bytes strings)) ≡ false =
    rw (spelled, seen) none in
    let absent : list_any (string_eq string) strings ≡ false =
    list_any-none _ strings
    (ap is_some (sym (position-map (λ other. bytes_eq (string_bytes string) other) string_bytes strings)) ∙ at_string) in
    ap (λ there. map string_bytes (if there then strings else strings ++ string ∷ [])) absent
    ∙ map_push string_bytes strings string ∙ (λ i. seen i ++ spelled i ∷ [])
