-- The lines on the changes from one system to another (confine's own).
use Rattle.std.specs.{List.flat_map, Prelude.{ℕ, ◌++◌, ◌∷◌, ◌≡◌, List, None, Option, Some, codes, if◌then◌else◌}}
use Rattle.{base.specs.Kinds.kind_name, machine.specs.Layout.Layout, reach.specs.Reach.TableReach}
use Rattle.{captext.specs.PolicyText.label_name, summary.specs.Padding.given}
use Rattle.diff.specs.declared.change.{Change.{Change, Change as change}, Marks.Marks, Role.{Role, Role as role}, Sign.{Sign, Sign as sign}}
use Rattle.diff.specs.declared.{change.{Standing.{Standing, Standing as stands}, Verb.{Verb, Verb as verb}}, names.Named.Named}
use Rattle.diff.specs.Changes.{AreChanges, has_marks, sign_of, sign_of_marks, sign_of_standing}

-- words

abbrev pub sign_text : Sign → List ℕ
sign_text sign.Gained = codes "+"
sign_text sign.Lost = codes "-"
sign_text sign.Differs = codes "~"

abbrev pub standing_text : Standing → List ℕ
standing_text stands.Absent = codes "nothing"
standing_text stands.Label = codes "label"
standing_text stands.Program = codes "program"

abbrev pub verb_text : Verb → List ℕ
verb_text verb.Changes = codes "changes"
verb_text verb.Takes = codes "takes"
verb_text verb.Reads = codes "reads"

abbrev pub role_text : Role → List ℕ
role_text role.Keeper = codes "keeper"
role_text role.Actor = codes "actor"

-- the marks of a cell, as the summary's matrix has them

abbrev pub letters_text : Marks → List ℕ
letters_text marks =
    given marks.calls (codes "C") ++ (given marks.answers (codes "A") ++ (given marks.signals (codes "S") ++ given marks.others (codes "F")))

abbrev pub extent_text : Marks → List ℕ
extent_text marks = if marks.changes then letters_text marks else given marks.takes (codes "t")

abbrev pub marks_text : Marks → List ℕ
marks_text marks = extent_text marks ++ given marks.shares (codes "m")

abbrev pub cell_text : Marks → List ℕ
cell_text marks = if has_marks marks then marks_text marks else codes "."

-- lines, by the names of two tables

module _ (old new : Layout) where
  abbrev pub name_in : Option ℕ → Option ℕ → List ℕ
  name_in one (Some label) = label_name new label
  name_in (Some label) None = label_name old label
  name_in None None = codes ""

  -- the name of a label
  abbrev pub name_text : Named → List ℕ
  name_text named = name_in named.old named.new

  -- a name behind a space
  abbrev pub spaced_name : Named → List ℕ
  spaced_name named = 32 ∷ name_text named

  abbrev pub standing_line : Sign → Named → Standing → Standing → List ℕ
  standing_line sign.Gained named one other = 32 ∷ standing_text other ++ spaced_name named
  standing_line sign.Lost named one other = 32 ∷ standing_text one ++ spaced_name named
  standing_line sign.Differs named one other = spaced_name named ++ (32 ∷ standing_text one ++ 32 ∷ standing_text other)

  abbrev pub cell_line : Sign → Named → Named → Marks → Marks → List ℕ
  cell_line sign.Gained from to one other = spaced_name from ++ (spaced_name to ++ 32 ∷ marks_text other)
  cell_line sign.Lost from to one other = spaced_name from ++ (spaced_name to ++ 32 ∷ marks_text one)
  cell_line sign.Differs from to one other = spaced_name from ++ (spaced_name to ++ (32 ∷ marks_text one ++ 32 ∷ marks_text other))

  -- what a line says behind its sign
  abbrev pub change_text : Change → List ℕ
  change_text (change.Standing named one other) = standing_line (sign_of_standing one other) named one other
  change_text (change.Cell from to one other) = cell_line (sign_of_marks one other) from to one other
  change_text (change.Use told from how to) = spaced_name from ++ (32 ∷ verb_text how ++ spaced_name to)
  change_text (change.Role told is named) = 32 ∷ role_text is ++ spaced_name named
  change_text (change.Edge told from kind to) = codes " edge" ++ (spaced_name from ++ (32 ∷ kind_name kind ++ spaced_name to))

  abbrev pub change_line : Change → List ℕ
  change_line told = sign_text (sign_of told) ++ (change_text told ++ codes "\n")

  abbrev pub changes_text : List Change → List ℕ
  changes_text changed = flat_map change_line changed

-- a text has the changes from one reach to another, line by line
pub record IsDiffText (old new : TableReach) (text : List ℕ) : Type 0 where
  pub changed : List Change
  pub are : AreChanges old new changed
  pub is : text ≡ changes_text old.table new.table changed
