-- A place in a text: the line it stands in, and the bytes that are left. Reading goes from place to place (confine's own).
use Rattle.std.specs.{List.{count_by, prefix_len}, Prelude.{ℕ, ◌+◌, ◌==◌, Err, List, Ok, Result, drop, if◌then◌else◌, length, take}}
use Rattle.words.specs.{declared.faults.{Fault.Fault, Wrong.TheVariants.Syntax}, Fault.fault_at}
use Rattle.xml.specs.Characters.{begins_with, is_space}

pub record Place : Type 0 where
  pub line : ℕ
  pub rest : List ℕ

-- the place before a text; lines are counted from 1
abbrev pub start_of : List ℕ → Place
start_of text = record { line = 1; rest = text }

-- the place so many bytes further: each line feed ends a line
unfoldable pub after : ℕ → Place → Place
after count place =
    record { line = place.line + count_by (λ b. b == 10) (take count place.rest); rest = drop count place.rest }

-- behind the white space that comes next, if any does
unfoldable pub after_spaces : Place → Place
after_spaces place = after (prefix_len is_space place.rest) place

-- behind these bytes, which must come next
unfoldable pub expected_at : List ℕ → Place → Result Place Fault
expected_at text place =
    if begins_with place.rest text then Ok (after (length text) place) else Err (fault_at place.line Syntax)

-- behind white space, which must come next
unfoldable pub spaced_at : Place → Result Place Fault
spaced_at place =
    if length (after_spaces place).rest == length place.rest
    then Err (fault_at place.line Syntax)
    else Ok (after_spaces place)
