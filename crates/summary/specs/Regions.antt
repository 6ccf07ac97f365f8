-- The text on labels without a thread: one line for those with the same users, and below it who these are (confine's own).
use Rattle.std.specs.List.{filter, flat_map, list_all, list_any}
use Rattle.std.specs.Prelude.{[], ℕ, ◌&&◌, ◌++◌, ◌∷◌, Bool, List, codes, false, if◌then◌else◌, map, nat_lt, not, true}
use Rattle.{base.specs.Labels.is_in, machine.specs.Layout.Layout, captext.specs.PolicyText.label_name}
use Rattle.summary.specs.{declared.rows.Row.Row, Padding.given}

abbrev pub is_same : Bool → Bool → Bool
is_same true b = b
is_same false b = not b

-- whether the row's label may take from a label and not change it otherwise
abbrev pub takes_from : Row → ℕ → Bool
takes_from row l = is_in row.shrinks l && not (is_in row.changes l)

-- the labels with a thread that may change a label
abbrev pub changers : List Row → ℕ → List ℕ
changers rows l = map (λ row. row.label) (filter (λ row. is_in row.changes l) rows)

-- the labels with a thread that read a label
abbrev pub readers : List Row → ℕ → List ℕ
readers rows l = map (λ row. row.label) (filter (λ row. is_in row.reads l) rows)

-- the labels with a thread that may take from a label, and not change it otherwise
abbrev pub takers : List Row → ℕ → List ℕ
takers rows l = map (λ row. row.label) (filter (λ row. takes_from row l) rows)

-- whether the row's label uses two labels in the same ways
abbrev pub uses_alike : ℕ → ℕ → Row → Bool
uses_alike k l row =
    (is_same (is_in row.changes k) (is_in row.changes l) && is_same (takes_from row k) (takes_from row l))
    && is_same (is_in row.reads k) (is_in row.reads l)

-- whether two labels are changed, taken from and read by the same labels with a thread
abbrev pub has_same_users : List Row → ℕ → ℕ → Bool
has_same_users rows k l = list_all (uses_alike k l) rows

-- the labels with the same users as a label
abbrev pub group_of : List Row → List ℕ → ℕ → List ℕ
group_of rows others l = filter (λ k. has_same_users rows k l) others

-- whether a label comes before another and has the same users
abbrev pub is_leader : List Row → ℕ → ℕ → Bool
is_leader rows l k = nat_lt k l && has_same_users rows k l

-- whether no label before this one has the same users
abbrev pub leads : List Row → List ℕ → ℕ → Bool
leads rows others l = not (list_any (λ k. is_leader rows l k) others)

-- a name that follows another one
abbrev pub more_name : Layout → ℕ → List ℕ
more_name t l = codes ", " ++ label_name t l

-- names with commas between them
abbrev pub names_text : Layout → List ℕ → List ℕ
names_text t [] = []
names_text t (first ∷ labels) = label_name t first ++ flat_map (more_name t) labels

abbrev pub is_nil : List ℕ → Bool
is_nil [] = true
is_nil (first ∷ labels) = false

-- the text between two lists
abbrev pub separator : Bool → List ℕ
separator first = if first then [] else codes "; "

-- a word and names, if there are any names
abbrev pub listed_text : Layout → Bool → List ℕ → List ℕ → List ℕ
listed_text t first word labels = if is_nil labels then [] else separator first ++ (word ++ names_text t labels)

-- who changes a label, who may only take from it, and who reads it
abbrev pub lists_text : Layout → List ℕ → List ℕ → List ℕ → List ℕ
lists_text t changers takers readers =
    listed_text t true (codes "changed by ") changers
    ++ (listed_text t (is_nil changers) (codes "taken away by ") takers
    ++ listed_text t (is_nil changers && is_nil takers) (codes "read by ") readers)

-- who uses a label, or that nobody does
abbrev pub who_text : Layout → List ℕ → List ℕ → List ℕ → List ℕ
who_text t changers takers readers =
    if (is_nil changers && is_nil takers) && is_nil readers then codes "changed and read by nobody" else lists_text t changers takers readers

abbrev pub users_text : Layout → List ℕ → List ℕ → List ℕ → List ℕ
users_text t changers takers readers = codes "\n    " ++ (who_text t changers takers readers ++ codes "\n")

-- the labels with the same users as this one, if it is the first of them
abbrev pub group_text : Layout → List Row → List ℕ → ℕ → List ℕ
group_text t rows others l =
    given (leads rows others l) (names_text t (group_of rows others l) ++ users_text t (changers rows l) (takers rows l) (readers rows l))

abbrev pub regions_text : Layout → List Row → List ℕ → List ℕ
regions_text t rows others = flat_map (group_text t rows others) others
