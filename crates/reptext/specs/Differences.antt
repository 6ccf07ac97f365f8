-- The changes from one system to another, as JSON: each line of their text as an object (confine's own).
use Rattle.std.specs.{List.list_any, Prelude.{[], ℕ, ◌∷◌, List, codes, map}}
use Rattle.serde_json.specs.{Data.{Data, array, boolean, member, no_members, object, string}, View.items_of}
use Rattle.{base.specs.{declared.kind.Kind.Kind, Kinds.kind_name}, machine.specs.Layout.Layout}
use Rattle.diff.specs.declared.change.{Change.{Change, Change as change}, Marks.Marks, Role.Role, Sign.Sign, Standing.Standing, Verb.Verb}
use Rattle.diff.specs.{Changes.{adds, sign_of}, Text.{cell_text, name_text, role_text, sign_text, standing_text, verb_text}}
use Rattle.reptext.specs.Reports.{names_data}

-- what a label was and what it is
abbrev pub standing_data : Sign → List ℕ → Standing → Standing → Data
standing_data sign name old new =
    object (member (codes "label") (string name)
    (member (codes "new") (string (standing_text new))
    (member (codes "old") (string (standing_text old))
    (member (codes "sign") (string (sign_text sign)) no_members))))

-- what the cell of two programs was and what it is
abbrev pub cell_data : Sign → List ℕ → List ℕ → Marks → Marks → Data
cell_data sign from to old new =
    object (member (codes "cell") (names_data (from ∷ to ∷ []))
    (member (codes "new") (string (cell_text new))
    (member (codes "old") (string (cell_text old))
    (member (codes "sign") (string (sign_text sign)) no_members))))

abbrev pub use_data : Sign → List ℕ → Verb → List ℕ → Data
use_data sign from verb to =
    object (member (codes "sign") (string (sign_text sign))
    (member (codes "use") (names_data (from ∷ verb_text verb ∷ to ∷ [])) no_members))

abbrev pub role_data : Sign → Role → List ℕ → Data
role_data sign role name =
    object (member (codes "role") (names_data (role_text role ∷ name ∷ []))
    (member (codes "sign") (string (sign_text sign)) no_members))

abbrev pub edge_data : Sign → List ℕ → Kind → List ℕ → Data
edge_data sign from kind to =
    object (member (codes "edge") (names_data (from ∷ kind_name kind ∷ to ∷ []))
    (member (codes "sign") (string (sign_text sign)) no_members))

-- the entry of a change, by the names of two tables
abbrev pub change_data : Layout → Layout → Change → Data
change_data old new (change.Standing named one other) =
    standing_data (sign_of (change.Standing named one other)) (name_text old new named) one other
change_data old new (change.Cell from to one other) =
    cell_data (sign_of (change.Cell from to one other)) (name_text old new from) (name_text old new to) one other
change_data old new (change.Use sign from verb to) = use_data sign (name_text old new from) verb (name_text old new to)
change_data old new (change.Role sign role named) = role_data sign role (name_text old new named)
change_data old new (change.Edge sign from kind to) = edge_data sign (name_text old new from) kind (name_text old new to)

-- all changes, and whether any adds authority
abbrev pub changes_data : Layout → Layout → List Change → Data
changes_data old new changed =
    object (member (codes "adds") (boolean (list_any adds changed))
    (member (codes "changes") (array (items_of (map (change_data old new) changed))) no_members))
