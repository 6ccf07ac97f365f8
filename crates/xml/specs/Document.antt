-- Documents: a declaration, comments, white space and one element, whose elements are listed in the order of their tags, each with
-- its level (XML 1.0, but for what is refused).
use Rattle.std.specs.{List.list_any, Prelude.{[], ℕ, ◌&&◌, ◌++◌, ◌+◌, ◌==◌, ◌||◌, ◌∷◌, Bool, Err, List, Ok, Result, codes, if◌then◌else◌}}
use Rattle.std.specs.{Prelude.{length, nat_le, nat_lt, suc, zero}, Str.bytes_eq}
use Rattle.words.specs.{declared.faults.{Fault.Fault, Wrong.TheVariants.{Limit, Syntax}}, Fault.fault_at, Reading.◌>>=◌}
use Rattle.xml.specs.declared.{document.TheConstants.{MAX_ELEMENTS, MAX_LEVELS, MAX_TEXT_LENGTH}, tags.TheConstants.MAX_ATTRIBUTES}
use Rattle.xml.specs.{Characters.{begins_with, comment_length}, Place.{Place, after, after_spaces, expected_at, spaced_at, start_of}}
use Rattle.xml.specs.{Tag.{Pair, attributes_at, name_at, tag_end_at}, Value.{equals_at, quoted_at}}

-- an element: its level, which is 1 at the root, the line of its tag, its name and its attributes
pub record Node : Type 0 where
  pub level : ℕ
  pub line : ℕ
  pub name : List ℕ
  pub attributes : List Pair

-- what was read so far: the names of the elements that are open, the innermost first, and all elements
pub record Draft : Type 0 where
  pub open_names : List (List ℕ)
  pub nodes : List Node

-- nothing was read so far
abbrev pub no_nodes : Draft
no_nodes = record { open_names = []; nodes = [] }

-- the root was read, and no element is open
unfoldable pub is_whole : Draft → Bool
is_whole draft = length draft.open_names == 0 && nat_lt 0 (length draft.nodes)

-- one element more may begin
unfoldable pub room_at : Draft → ℕ → Result (Unit {0}) Fault
room_at draft line =
    if nat_le MAX_LEVELS (length draft.open_names) || nat_le MAX_ELEMENTS (length draft.nodes)
    then Err (fault_at line Limit)
    else Ok tt

-- with an element more, which is open unless its tag is empty
unfoldable pub with_node : Draft → ℕ → List ℕ → List Pair → Bool → Draft
with_node draft line name attributes is_empty =
    record {
      open_names = if is_empty then draft.open_names else name ∷ draft.open_names;
      nodes = draft.nodes
          ++ record { level = length draft.open_names + 1; line = line; name = name; attributes = attributes } ∷ [];
    }

-- the tag that begins an element
unfoldable pub begin_at : Draft → Place → Result (Draft × Place) Fault
begin_at draft place = do
  inside ← expected_at (codes "<") place
  name ← name_at inside
  _ ← room_at draft place.line
  attributes ← attributes_at (MAX_ATTRIBUTES + 1) [] name.1
  end ← tag_end_at attributes.1
  Ok (with_node draft place.line name.0 attributes.0 end.0, end.1)

-- the names that stay open behind an end tag, which must be of the innermost
unfoldable pub closed_at : ℕ → List (List ℕ) → List ℕ → Result (List (List ℕ)) Fault
closed_at line [] name = Err (fault_at line Syntax)
closed_at line (inner ∷ outer) name = if bytes_eq inner name then Ok outer else Err (fault_at line Syntax)

-- the tag that ends an element
unfoldable pub end_at : Draft → Place → Result (Draft × Place) Fault
end_at draft place = do
  inside ← expected_at (codes "</") place
  name ← name_at inside
  open_names ← closed_at place.line draft.open_names name.0
  behind ← expected_at (codes ">") (after_spaces name.1)
  Ok (record { open_names = open_names; nodes = draft.nodes }, behind)

-- a comment, which the first `--` ends
unfoldable pub comment_at : Place → Result Place Fault
comment_at place = do
  inside ← expected_at (codes "<!--") place
  expected_at (codes "-->") (after (comment_length inside.rest) inside)

-- a comment or a tag; no tag follows the root
unfoldable pub item_at : Draft → Place → Result (Draft × Place) Fault
item_at draft place =
    if begins_with place.rest (codes "<!--") then (comment_at place >>= λ behind. Ok (draft, behind)) else
    if is_whole draft then Err (fault_at place.line Syntax) else
    if begins_with place.rest (codes "</") then end_at draft place else begin_at draft place

-- nothing is left, and the root was read
unfoldable pub finished_at : Draft → Place → Result (List Node) Fault
finished_at draft place =
    if is_whole draft && length place.rest == 0 then Ok draft.nodes else Err (fault_at place.line Syntax)

-- comments and tags up to the end of the text, at most so many
unfoldable pub items_at : ℕ → Draft → Place → Result (List Node) Fault
items_at zero draft place = finished_at draft place
items_at (suc count) draft place =
    if length (after_spaces place).rest == 0
    then finished_at draft (after_spaces place)
    else (item_at draft (after_spaces place) >>= λ next. items_at count next.0 next.1)

-- whether a value is one of those that are known
unfoldable pub is_one_of : List (List ℕ) → List ℕ → Bool
is_one_of known value = list_any (λ (one : List ℕ). bytes_eq one value) known

-- a part of the declaration: white space, this word, and one of these values
unfoldable pub declared_at : List ℕ → List (List ℕ) → Place → Result Place Fault
declared_at word values place = do
  front ← spaced_at place
  named ← expected_at word front
  behind ← equals_at named
  value ← quoted_at behind
  if is_one_of values value.0 then Ok value.1 else Err (fault_at value.1.line Syntax)

-- the encoding, where one is declared
unfoldable pub encoding_at : Place → Result Place Fault
encoding_at place =
    if begins_with (after_spaces place).rest (codes "encoding")
    then declared_at (codes "encoding") (codes "UTF-8" ∷ codes "utf-8" ∷ codes "US-ASCII" ∷ codes "us-ascii" ∷ []) place
    else Ok place

-- the declaration, where there is one
unfoldable pub declaration_at : Place → Result Place Fault
declaration_at place =
    if begins_with place.rest (codes "<?xml")
    then (do
      version ← declared_at (codes "version") (codes "1.0" ∷ []) (after 5 place)
      encoding ← encoding_at version
      expected_at (codes "?>") (after_spaces encoding))
    else Ok place

-- the elements of a whole text, or its first fault
unfoldable pub document_of : List ℕ → Result (List Node) Fault
document_of text =
    if nat_lt MAX_TEXT_LENGTH (length text) then Err (fault_at 1 Limit) else
    (declaration_at (start_of text) >>= λ place. items_at (length text) no_nodes place)
