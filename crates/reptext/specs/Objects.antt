-- The list of a table's objects: a line for each, in the order of their numbers, with its number, kind, name and label (confine's own).
use Rattle.std.specs.{Fmt.decimal, List.{enumerate_from, zip}, Prelude.{[], ℕ, ◌∷◌, List, map}}
use Rattle.{words.specs.Text.text_of, machine.specs.{declared.layout.Initial.Initial, Layout.Layout}}
use Rattle.captext.specs.{PolicyText.label_name, TableText.kind_word}

-- NUMBER KIND NAME LABEL
abbrev pub entry_words : Layout → ℕ → List ℕ → Initial → List (List ℕ)
entry_words t number name initial = decimal number ∷ kind_word initial.object ∷ name ∷ label_name t initial.label ∷ []

-- the objects with their names, numbered from 0
abbrev pub entries : Layout → List (ℕ × (List ℕ × Initial))
entries t = enumerate_from 0 (zip t.names t.objects)

abbrev pub objects_text : Layout → List ℕ
objects_text t = text_of (map (λ entry. entry_words t entry.0 entry.1.0 entry.1.1) (entries t))
