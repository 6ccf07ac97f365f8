-- The value of an attribute, searched one attribute after another.
use Rattle.std.{specs.Str.bytes_eq, proofs.Common.{ℕ, ◌+◌, ◌<◌, ◌∙◌, ◌∷◌, ◌≡◌, ◌≤◌, List, None, Some, add-one}}
use Rattle.std.proofs.{Common.{ap, cond, drop, drop-cons, false, get_or, length, sym, true}, lemmas.List.drop_all}
use Rattle.{xml.specs.{declared.element.Attribute.Attribute, View.pairs_of}, microkit.specs.Attributes.value_among}

-- the attributes from one on
pub attributes_from : (found : List Attribute) (i : ℕ) (attribute : Attribute) → i < length found
    → attribute ≡ get_or found i attribute → drop i found ≡ attribute ∷ drop (i + 1) found
attributes_from found i attribute below is =
    rw add-one (drop-cons found i attribute below) ∙ ap (λ a. a ∷ drop (i + 1) found) (sym is)

-- an attribute has the name
pub first_value : (found : List Attribute) (name : List ℕ) (i : ℕ) (attribute : Attribute) → i < length found
    → attribute ≡ get_or found i attribute → bytes_eq attribute.name.now name ≡ true
    → value_among (pairs_of (drop i found)) name ≡ Some attribute.value.items
unfolding value_among
first_value found name i attribute below is same =
    ap (λ from. value_among (pairs_of from) name) (attributes_from found i attribute below is)
    ∙ ap (λ t. cond t (Some attribute.value.items) (value_among (pairs_of (drop (i + 1) found)) name)) same

-- an attribute has another name
pub more_values : (found : List Attribute) (name : List ℕ) (i : ℕ) (attribute : Attribute) → i < length found
    → attribute ≡ get_or found i attribute → bytes_eq attribute.name.now name ≡ false
    → value_among (pairs_of (drop i found)) name ≡ value_among (pairs_of (drop (i + 1) found)) name
unfolding value_among
more_values found name i attribute below is same =
    ap (λ from. value_among (pairs_of from) name) (attributes_from found i attribute below is)
    ∙ ap (λ t. cond t (Some attribute.value.items) (value_among (pairs_of (drop (i + 1) found)) name)) same

-- no attribute is left
pub no_values : (found : List Attribute) (name : List ℕ) (i : ℕ) → length found ≤ i
    → value_among (pairs_of (drop i found)) name ≡ None
unfolding value_among
no_values found name i past = ap (λ from. value_among (pairs_of from) name) (drop_all i found past)
