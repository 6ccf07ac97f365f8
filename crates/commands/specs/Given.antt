-- Systems as they are given: a capability table, or a system description with the table that it becomes (confine's own).
use Rattle.std.specs.{List.position, Prelude.{ℕ, ◌==◌, Bool, List, Option, Some, false, not, option_and_then, slice_get}}
use Rattle.{xml.specs.Characters.is_space, machine.specs.Layout.Layout, commands.specs.declared.given.Given.{Given, Given as given}}

-- the table of a system
abbrev pub layout_of : Given → Layout
layout_of (given.Table t) = t
layout_of (given.Description d) = d.table

abbrev pub is_tag : Option ℕ → Bool
is_tag (Some byte) = byte == 60
is_tag _ = false

-- the place of the first byte that isn't white space
abbrev pub first_visible : List ℕ → Option ℕ
first_visible text = position (λ byte. not (is_space byte)) text

-- a text is one of a description: its first byte that isn't white space is `<`
abbrev pub is_description : List ℕ → Bool
is_description text = is_tag (option_and_then (slice_get text) (first_visible text))
