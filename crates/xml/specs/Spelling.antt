-- How the parts of a document are spelled: names, attributes, tags and comments as grammars of texts (XML 1.0).
use Rattle.std.specs.{List.{count_by, list_all, list_any}, Prelude.{[], ℕ, ◌++◌, ◌+◌, ◌<◌, ◌==◌, ◌∷◌, ◌≡◌, ◌≢◌, ◌≤◌, ◌⊎◌, Bool, List, None}}
use Rattle.std.specs.{Prelude.{Some, codes, false, if◌then◌else◌, length, true}, Str.bytes_eq}
use Rattle.xml.specs.{declared.values.TheConstants.MAX_VALUE_LENGTH, Characters.{is_comment_byte, is_name_byte, is_name_start, is_space}}
use Rattle.xml.specs.{Characters.is_value_byte, Document.is_one_of, Place.Place, Tag.Pair, Value.text_of}

-- a text stands between two places; each of its line feeds ends a line
pub record Stands (text : List ℕ) (place end : Place) : Type 0 where
  pub parts : place.rest ≡ text ++ end.rest
  pub lines : end.line ≡ place.line + count_by (λ b. b == 10) text

-- white space, if any
abbrev pub IsSpaces : List ℕ → Type 0
IsSpaces text = list_all is_space text ≡ true

-- a name: a letter or `_`, and then letters, digits, `_`, `-` and `.`; `xmlns` is none
pub record IsName (name : List ℕ) : Type 0 where
  pub first : ℕ
  pub others : List ℕ
  pub whole : name ≡ first ∷ others
  pub begins : is_name_start first ≡ true
  pub bytes : list_all is_name_byte name ≡ true
  pub no_namespace : name ≢ codes "xmlns"

-- `=`, with white space round it
pub record IsEquals (text : List ℕ) : Type 0 where
  pub before : List ℕ
  pub behind : List ℕ
  pub whole : text ≡ before ++ (codes "=" ++ behind)
  pub spaces : IsSpaces before × IsSpaces behind

-- bytes between two quotes
pub record IsQuoted (inner text : List ℕ) : Type 0 where
  pub quote : ℕ
  pub quote_is : (quote ≡ 34) ⊎ (quote ≡ 39)
  pub bytes : list_all (is_value_byte quote) inner ≡ true
  pub whole : text ≡ quote ∷ [] ++ (inner ++ quote ∷ [])

-- a value between two quotes, spelled with references
pub record IsValue (value text : List ℕ) : Type 0 where
  pub inner : List ℕ
  pub quoted : IsQuoted inner text
  pub stands_for : text_of [] None inner ≡ Some value
  pub short : length value ≤ MAX_VALUE_LENGTH

-- an attribute: white space, a name, `=` and a value
pub record IsAttribute (pair : Pair) (text : List ℕ) : Type 0 where
  pub spaces : List ℕ
  pub equals : List ℕ
  pub value : List ℕ
  pub whole : text ≡ spaces ++ (pair.name ++ (equals ++ value))
  pub spaced : IsSpaces spaces × (0 < length spaces)
  pub name_is : IsName pair.name
  pub equals_is : IsEquals equals
  pub value_is : IsValue pair.value value

-- attributes, none of which has the name of an earlier one or of those before; behind the last one there may be white space
abbrev pub AreAttributes : List Pair → List Pair → List ℕ → Type 0
AreAttributes earlier [] text = IsSpaces text
AreAttributes earlier (pair ∷ pairs) text =
    (one : List ℕ) × (later : List ℕ) × IsAttribute pair one
    × (list_any (λ (other : Pair). bytes_eq other.name pair.name) earlier ≡ false)
    × AreAttributes (earlier ++ pair ∷ []) pairs later × (text ≡ one ++ later)

-- the tag that begins an element; an empty tag is the whole element
pub record SpellsStart (name : List ℕ) (pairs : List Pair) (is_empty : Bool) (text : List ℕ) : Type 0 where
  pub attributes : List ℕ
  pub whole : text ≡ codes "<" ++ (name ++ (attributes ++ (if is_empty then codes "/>" else codes ">")))
  pub name_is : IsName name
  pub attributes_are : AreAttributes [] pairs attributes

-- the tag that ends an element
pub record SpellsEnd (name text : List ℕ) : Type 0 where
  pub spaces : List ℕ
  pub whole : text ≡ codes "</" ++ (name ++ (spaces ++ codes ">"))
  pub name_is : IsName name
  pub spaced : IsSpaces spaces

-- a comment, in which no `--` stands but the one that ends it
pub record SpellsComment (text : List ℕ) : Type 0 where
  pub inner : List ℕ
  pub whole : text ≡ codes "<!--" ++ (inner ++ codes "-->")
  pub bytes : list_all is_comment_byte inner ≡ true
  pub no_end : (front back : List ℕ) → inner ≢ front ++ (codes "--" ++ back)
  pub no_dash : (front : List ℕ) → inner ≢ front ++ codes "-"

-- a part of the declaration: white space, this word, `=` and one of these values between quotes
pub record SpellsDeclared (word : List ℕ) (values : List (List ℕ)) (text : List ℕ) : Type 0 where
  pub spaces : List ℕ
  pub equals : List ℕ
  pub value : List ℕ
  pub inner : List ℕ
  pub whole : text ≡ spaces ++ (word ++ (equals ++ value))
  pub spaced : IsSpaces spaces × (0 < length spaces)
  pub equals_is : IsEquals equals
  pub value_is : IsQuoted inner value
  pub known : is_one_of values inner ≡ true

-- the encodings that may be declared
abbrev pub encodings : List (List ℕ)
encodings = codes "UTF-8" ∷ codes "utf-8" ∷ codes "US-ASCII" ∷ codes "us-ascii" ∷ []

-- the declaration
pub record SpellsDeclaration (text : List ℕ) : Type 0 where
  pub version : List ℕ
  pub encoding : List ℕ
  pub spaces : List ℕ
  pub whole : text ≡ codes "<?xml" ++ (version ++ (encoding ++ (spaces ++ codes "?>")))
  pub version_is : SpellsDeclared (codes "version") (codes "1.0" ∷ []) version
  pub encoding_is : (encoding ≡ []) ⊎ SpellsDeclared (codes "encoding") encodings encoding
  pub spaced : IsSpaces spaces
