-- A test of what a list shows is a test of the list.
use Rattle.std.{specs.{Borrow.Bor, List.list_any, Str.bytes_eq}, proofs.Common.{[], ℕ, ◌++◌, ◌||◌, ◌∷◌, ◌≡◌, List, ap, map, refl}}
use Rattle.xml.specs.{declared.element.Attribute.Attribute, Tag.Pair, View.{pair_of, pairs_of}}

pub any_pair : (name : List ℕ) (found : List Attribute)
    → list_any (λ (pair : Pair). bytes_eq pair.name name) (pairs_of found)
    ≡ list_any (λ (attribute : Attribute). bytes_eq attribute.name.now name) found
any_pair name [] = refl
any_pair name (attribute ∷ found) = ap (λ b. bytes_eq attribute.name.now name || b) (any_pair name found)

pub any_known : (value : List ℕ) (values : List (Bor (List ℕ)))
    → list_any (λ known. bytes_eq known value) (map (λ (known : Bor (List ℕ)). known.now) values)
    ≡ list_any (λ (known : Bor (List ℕ)). bytes_eq known.now value) values
any_known value [] = refl
any_known value (known ∷ values) = ap (λ b. bytes_eq known.now value || b) (any_known value values)

-- one attribute more is one pair more
pub pairs_more : (found : List Attribute) (attribute : Attribute)
    → pairs_of (found ++ attribute ∷ []) ≡ pairs_of found ++ pair_of attribute ∷ []
pairs_more [] attribute = refl
pairs_more (first ∷ found) attribute = ap (λ pairs. pair_of first ∷ pairs) (pairs_more found attribute)
