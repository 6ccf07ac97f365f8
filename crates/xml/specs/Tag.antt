-- Tags: names, attributes, and the tags that begin and end an element (XML 1.0).
use Rattle.std.specs.{List.list_any, Prelude.{[], ℕ, ◌++◌, ◌==◌, ◌||◌, ◌∷◌, Bool, Err, List, Ok, Result, codes, false, if◌then◌else◌}}
use Rattle.std.specs.{Prelude.{length, nat_le, suc, take, true, zero}, Str.bytes_eq}
use Rattle.words.specs.{declared.faults.{Fault.Fault, Wrong.TheVariants.{Double, Limit, Syntax}}, Fault.fault_at, Reading.◌>>=◌}
use Rattle.xml.specs.{declared.tags.TheConstants.MAX_ATTRIBUTES, Characters.{begins_with, name_length}, Place.{Place, after, after_spaces}}
use Rattle.xml.specs.{Place.{expected_at, spaced_at}, Value.{equals_at, value_at}}

-- an attribute
pub record Pair : Type 0 where
  pub name : List ℕ
  pub value : List ℕ

-- a name; `xmlns` is none
unfoldable pub name_at : Place → Result (List ℕ × Place) Fault
name_at place =
    let count = name_length place.rest in
    if count == 0 || bytes_eq (take count place.rest) (codes "xmlns")
    then Err (fault_at place.line Syntax)
    else Ok (take count place.rest, after count place)

-- the end of a tag comes next, or `/`
unfoldable pub ends_tag : List ℕ → Bool
ends_tag [] = false
ends_tag (b ∷ bs) = b == 62 || b == 47

-- whether an attribute has this name
unfoldable pub is_given : List Pair → List ℕ → Bool
is_given found name = list_any (λ (pair : Pair). bytes_eq pair.name name) found

-- one attribute more may be of this name
unfoldable pub admitted : List Pair → List ℕ → ℕ → Result (Unit {0}) Fault
admitted found name line =
    if is_given found name then Err (fault_at line Double) else
    if nat_le MAX_ATTRIBUTES (length found) then Err (fault_at line Limit) else Ok tt

-- an attribute that follows those that were found
unfoldable pub attribute_at : List Pair → Place → Result (Pair × Place) Fault
attribute_at found place = do
  front ← spaced_at place
  name ← name_at front
  _ ← admitted found name.0 name.1.line
  behind ← equals_at name.1
  value ← value_at behind
  Ok (record { name = name.0; value = value.0 }, value.1)

-- the attributes up to the end of the tag, after those that were found; `room` is more than there may be
unfoldable pub attributes_at : ℕ → List Pair → Place → Result (List Pair × Place) Fault
attributes_at zero found place = Err (fault_at place.line Limit)
attributes_at (suc room) found place =
    if ends_tag (after_spaces place).rest
    then Ok (found, after_spaces place)
    else (attribute_at found place >>= λ next. attributes_at room (found ++ next.0 ∷ []) next.1)

-- `>`, or `/>` behind an element that has no content
unfoldable pub tag_end_at : Place → Result (Bool × Place) Fault
tag_end_at place =
    if begins_with place.rest (codes "/>")
    then Ok (true, after 2 place)
    else (expected_at (codes ">") place >>= λ behind. Ok (false, behind))
