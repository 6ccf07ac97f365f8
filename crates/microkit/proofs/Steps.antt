-- The elements of a text, taken one after another.
use Rattle.std.proofs.Common.{ℕ, ◌+◌, ◌<◌, ◌∙◌, ◌∷◌, ◌≡◌, ◌≤◌, Err, List, Ok, add-one, ap, drop, drop-cons, get_or, length, sym}
use Rattle.{std.proofs.lemmas.List.drop_all, words.specs.Reading.bind}
use Rattle.xml.specs.{declared.element.Element.Element, View.{node_of, nodes_of}}
use Rattle.microkit.specs.declared.{flaws.ElementFault.ElementFault, reading.Phase.Phase}
use Rattle.microkit.specs.{Draft.Draft, Flaws.spot_of, Reading.{element_at, elements_at}}

-- the elements from one on
pub elements_from : (elements : List Element) (i : ℕ) (element : Element) → i < length elements
    → element ≡ get_or elements i element → drop i elements ≡ element ∷ drop (i + 1) elements
elements_from elements i element below is =
    rw add-one (drop-cons elements i element below) ∙ ap (λ e. e ∷ drop (i + 1) elements) (sym is)

-- no element is left
pub none_left : (phase : Phase) (elements : List Element) (i : ℕ) (draft : Draft) → length elements ≤ i
    → elements_at phase i (nodes_of (drop i elements)) draft ≡ Ok draft
unfolding elements_at
none_left phase elements i draft past =
    ap (λ left. elements_at phase i (nodes_of left) draft) (drop_all i elements past)

-- one is taken
pub one_taken : (phase : Phase) (elements : List Element) (i : ℕ) (element : Element) (draft next : Draft) → i < length elements
    → element ≡ get_or elements i element → element_at phase (spot_of i (node_of element)) (node_of element) draft ≡ Ok next
    → elements_at phase i (nodes_of (drop i elements)) draft ≡ elements_at phase (i + 1) (nodes_of (drop (i + 1) elements)) next
unfolding elements_at bind
one_taken phase elements i element draft next below is taken =
    ap (λ left. elements_at phase i (nodes_of left) draft) (elements_from elements i element below is)
    ∙ ap (λ step. bind step (λ d. elements_at phase (i + 1) (nodes_of (drop (i + 1) elements)) d)) taken

-- one is refused
pub one_refused : (phase : Phase) (elements : List Element) (i : ℕ) (element : Element) (draft : Draft) (fault : ElementFault)
    → i < length elements → element ≡ get_or elements i element
    → element_at phase (spot_of i (node_of element)) (node_of element) draft ≡ Err fault
    → elements_at phase i (nodes_of (drop i elements)) draft ≡ Err fault
unfolding elements_at bind
one_refused phase elements i element draft fault below is refused =
    ap (λ left. elements_at phase i (nodes_of left) draft) (elements_from elements i element below is)
    ∙ ap (λ step. bind step (λ d. elements_at phase (i + 1) (nodes_of (drop (i + 1) elements)) d)) refused
