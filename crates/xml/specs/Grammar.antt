-- Documents as a grammar: an element has content between its tags, or is empty, and content is comments and elements (XML 1.0).
use Rattle.std.specs.Prelude.{[], ℕ, ◌++◌, ◌+◌, ◌∷◌, ◌≡◌, ◌⊎◌, Bool, List, false, true}
use Rattle.xml.specs.{Document.{Node}, Place.{Place, start_of}}
use Rattle.xml.specs.Spelling.{IsSpaces, SpellsComment, SpellsDeclaration, SpellsEnd, SpellsStart, Stands}

-- white space stands between two places, if anything does
pub record IsGap (place end : Place) : Type 0 where
  pub text : List ℕ
  pub spaces : IsSpaces text
  pub stands : Stands text place end

-- the tag that begins an element stands between two places
pub record IsStartTag (level : ℕ) (place : Place) (node : Node) (is_empty : Bool) (end : Place) : Type 0 where
  pub text : List ℕ
  pub spelled : SpellsStart node.name node.attributes is_empty text
  pub stands : Stands text place end
  pub level_is : node.level ≡ level
  pub line_is : node.line ≡ place.line

-- the tag that ends the element of this name stands between two places
pub record IsEndTag (name : List ℕ) (place end : Place) : Type 0 where
  pub text : List ℕ
  pub spelled : SpellsEnd name text
  pub stands : Stands text place end

-- a comment stands between two places
pub record IsComment (place end : Place) : Type 0 where
  pub text : List ℕ
  pub spelled : SpellsComment text
  pub stands : Stands text place end

-- content stands between two places: comments, and elements of this level with all that stand in them, in the order of their tags
pub data IsContent : ℕ → Place → List Node → Place → Type 0 where
  nothing : {level : ℕ} {place end : Place} {nodes : List Node} → nodes ≡ [] → end ≡ place → IsContent level place nodes end
  comment :
      {level : ℕ} {place end : Place} {nodes : List Node} (front behind : Place) → IsGap place front → IsComment front behind
      → IsContent level behind nodes end → IsContent level place nodes end
  leaf :
      {level : ℕ} {place end : Place} {nodes : List Node} (front behind : Place) (node : Node) (later : List Node)
      → IsGap place front → IsStartTag level front node true behind → IsContent level behind later end → nodes ≡ node ∷ later
      → IsContent level place nodes end
  branch :
      {level : ℕ} {place end : Place} {nodes : List Node} (front inside close last behind : Place) (node : Node)
      (inner later : List Node) → IsGap place front → IsStartTag level front node false inside
      → IsContent (level + 1) inside inner close → IsGap close last → IsEndTag node.name last behind
      → IsContent level behind later end → nodes ≡ node ∷ (inner ++ later) → IsContent level place nodes end

-- one element stands between two places, with all that stand in it
pub data IsElement (level : ℕ) (place : Place) (nodes : List Node) (end : Place) : Type 0 where
  empty : (node : Node) → IsStartTag level place node true end → nodes ≡ node ∷ [] → IsElement level place nodes end
  whole :
      (inside close last : Place) (node : Node) (inner : List Node) → IsStartTag level place node false inside
      → IsContent (level + 1) inside inner close → IsGap close last → IsEndTag node.name last end → nodes ≡ node ∷ inner
      → IsElement level place nodes end

-- a document: the declaration if there is one, comments, one element, and comments up to the end of the text
pub record IsDocument (text : List ℕ) (nodes : List Node) : Type 0 where
  pub declaration : List ℕ
  pub declared : Place
  pub close : Place
  pub root : Place
  pub behind : Place
  pub last : Place
  pub end : Place
  pub declares : (declaration ≡ []) ⊎ SpellsDeclaration declaration
  pub stands : Stands declaration (start_of text) declared
  pub before : IsContent 1 declared [] close
  pub gap : IsGap close root
  pub element : IsElement 1 root nodes behind
  pub later : IsContent 1 behind [] last
  pub last_gap : IsGap last end
  pub ended : end.rest ≡ []
