-- The search for domains without a program image, element by element.
use Rattle.std.proofs.Common.{ℕ, ◌&&◌, ◌+◌, ◌<◌, ◌||◌, ◌∙◌, ◌≡◌, ◌≤◌, Err, List, Ok, ap, arith, cond, drop, false}
use Rattle.std.proofs.{Common.{get_or, length, nat_lt, true}, lemmas.{Bool.Decides.nat_tests, List.drop_all}}
use Rattle.xml.specs.{declared.element.Element.Element, View.{node_of, nodes_of}}
use Rattle.microkit.{specs.{Flaws.{fault_here, spot_of}, Images.{has_image, images_at, is_image, lacks_image}}, proofs.Steps.elements_from}
use Rattle.microkit.specs.declared.flaws.Flaw.TheVariants as flaw

-- no element is left
pub all_have : (elements : List Element) (i : ℕ) → length elements ≤ i → images_at i (nodes_of (drop i elements)) ≡ Ok tt
unfolding images_at
all_have elements i past = ap (λ left. images_at i (nodes_of left)) (drop_all i elements past)

-- an element is no domain, or has one
pub one_has : (elements : List Element) (i : ℕ) (element : Element) → i < length elements → element ≡ get_or elements i element
    → lacks_image (node_of element) (nodes_of (drop (i + 1) elements)) ≡ false
    → images_at i (nodes_of (drop i elements)) ≡ images_at (i + 1) (nodes_of (drop (i + 1) elements))
unfolding images_at
one_has elements i element below is has =
    ap (λ left. images_at i (nodes_of left)) (elements_from elements i element below is)
    ∙ ap
    (λ t.
    cond t (Err (fault_here (spot_of i (node_of element)) flaw.NoImage)) (images_at (i + 1) (nodes_of (drop (i + 1) elements))))
    has

-- an element lacks it
pub one_lacks : (elements : List Element) (i : ℕ) (element : Element) → i < length elements → element ≡ get_or elements i element
    → lacks_image (node_of element) (nodes_of (drop (i + 1) elements)) ≡ true
    → images_at i (nodes_of (drop i elements)) ≡ Err (fault_here (spot_of i (node_of element)) flaw.NoImage)
unfolding images_at
one_lacks elements i element below is lacks =
    ap (λ left. images_at i (nodes_of left)) (elements_from elements i element below is)
    ∙ ap
    (λ t.
    cond t (Err (fault_here (spot_of i (node_of element)) flaw.NoImage)) (images_at (i + 1) (nodes_of (drop (i + 1) elements))))
    lacks

-- the search for one within an element

pub no_image : (level : ℕ) (elements : List Element) (i : ℕ) → length elements ≤ i → has_image level (nodes_of (drop i elements)) ≡ false
unfolding has_image
no_image level elements i past = ap (λ left. has_image level (nodes_of left)) (drop_all i elements past)

deeper : (level inner : ℕ) → level < inner → nat_lt level inner ≡ true
deeper level inner below = grind (arith, nat_tests)

ended : (level inner : ℕ) → inner ≤ level → nat_lt level inner ≡ false
ended level inner above = grind (arith, nat_tests)

pub level_ended : (level : ℕ) (elements : List Element) (i : ℕ) (element : Element) → i < length elements
    → element ≡ get_or elements i element → element.level ≤ level → has_image level (nodes_of (drop i elements)) ≡ false
unfolding has_image
level_ended level elements i element below is above =
    ap (λ left. has_image level (nodes_of left)) (elements_from elements i element below is)
    ∙ ap
    (λ t. t && (is_image (level + 1) (node_of element) || has_image level (nodes_of (drop (i + 1) elements))))
    (ended level element.level above)

pub image_first : (level : ℕ) (elements : List Element) (i : ℕ) (element : Element) → i < length elements
    → element ≡ get_or elements i element → level < element.level → is_image (level + 1) (node_of element) ≡ true
    → has_image level (nodes_of (drop i elements)) ≡ true
unfolding has_image
image_first level elements i element below is inside found =
    ap (λ left. has_image level (nodes_of left)) (elements_from elements i element below is)
    ∙ ap
    (λ t. t && (is_image (level + 1) (node_of element) || has_image level (nodes_of (drop (i + 1) elements))))
    (deeper level element.level inside)
    ∙ ap (λ t. t || has_image level (nodes_of (drop (i + 1) elements))) found

pub image_later : (level : ℕ) (elements : List Element) (i : ℕ) (element : Element) → i < length elements
    → element ≡ get_or elements i element → level < element.level → is_image (level + 1) (node_of element) ≡ false
    → has_image level (nodes_of (drop i elements)) ≡ has_image level (nodes_of (drop (i + 1) elements))
unfolding has_image
image_later level elements i element below is inside other =
    ap (λ left. has_image level (nodes_of left)) (elements_from elements i element below is)
    ∙ ap
    (λ t. t && (is_image (level + 1) (node_of element) || has_image level (nodes_of (drop (i + 1) elements))))
    (deeper level element.level inside)
    ∙ ap (λ t. t || has_image level (nodes_of (drop (i + 1) elements))) other
