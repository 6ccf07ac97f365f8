-- The lines in which the elements of a text begin (confine's own).
use Rattle.std.specs.{List.count_by, Prelude.{[], ℕ, ◌++◌, ◌+◌, ◌==◌, ◌∷◌, ◌≡◌, ◌⊎◌, Bool, List}}
use Rattle.xml.specs.{Document.Node, Spelling.{IsSpaces, SpellsComment, SpellsDeclaration, SpellsEnd, SpellsStart}}

-- a part of a text that begins no element: the declaration, white space, a comment, or the tag that ends an element
abbrev pub BeginsNoElement : List ℕ → Type 0
BeginsNoElement part = SpellsDeclaration part ⊎ (IsSpaces part ⊎ (SpellsComment part ⊎ ((name : List ℕ) × SpellsEnd name part)))

-- where `front` stands before the rest of a text, the rest is parts that begin no element and the elements' own tags, in their order;
-- the line of an element is 1 and the line feeds before its tag
pub data AreTags : List ℕ → List ℕ → List Node → Type 0 where
  none_left : (front : List ℕ) → AreTags front [] []
  other_part :
      {nodes : List Node} (front part back : List ℕ) → BeginsNoElement part → AreTags (front ++ part) back nodes
      → AreTags front (part ++ back) nodes
  own_tag :
      {nodes : List Node} (front tag back : List ℕ) (node : Node) (is_empty : Bool)
      → SpellsStart node.name node.attributes is_empty tag → node.line ≡ 1 + count_by (λ b. b == 10) front
      → AreTags (front ++ tag) back nodes → AreTags front (tag ++ back) (node ∷ nodes)

-- the elements of a whole text
abbrev pub AreAtLines : List ℕ → List Node → Type 0
AreAtLines text nodes = AreTags [] text nodes
