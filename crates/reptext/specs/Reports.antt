-- Reports, each one JSON object on a line, without spaces and with its keys in the order of their bytes (confine's own).
use Rattle.std.specs.{List.{filter, fold, range_with_len}, Prelude.{[], ℕ, ◌++◌, ◌∷◌, ◌≡◌, Bool, List, codes, length, map}}
use Rattle.serde_json.specs.Data.{Data, Members, array, member, no_members, number, object, put, string}
use Rattle.serde_json.specs.{Data.unsigned, View.items_of, Written.compact_text}
use Rattle.{base.specs.declared.edge.Edge.Edge, forms.specs.{declared.file.File.File, Files.file_word}}
use Rattle.{machine.specs.Layout.Layout, policy.specs.{Cut.IsCut, Full.IsFull, Policy.allows}}
use Rattle.{reach.specs.declared.extent.Extent.Extent, captext.specs.PolicyText.label_name}
use Rattle.{claims.specs.{declared.keeping.Kept.Kept, Claims.kept_word}, reptext.specs.Relations.Decides}
use Rattle.reach.specs.declared.extent.Extent.TheVariants as extent

-- a value on a line, where 10 is the line feed
abbrev pub line_of : Data → List ℕ
line_of value = compact_text value ++ 10 ∷ []

-- the report of a fault: its number, the file and the line
abbrev pub fault_data : ℕ → File → ℕ → Data
fault_data fault file line =
    object (member (codes "fault") (number (unsigned fault))
    (member (codes "file") (string (file_word file))
    (member (codes "line") (number (unsigned line)) no_members)))

-- a list of names
abbrev pub names_data : List (List ℕ) → Data
names_data names = array (items_of (map string names))

-- a denial: the names of the place, and the rule that is broken there
abbrev pub denial_data : List ℕ → List (List ℕ) → Data
denial_data rule place =
    object (member (codes "place") (names_data place)
    (member (codes "rule") (string rule)
    (member (codes "verdict") (string (codes "deny")) no_members)))

-- the numbers of the labels of a table
abbrev pub labels_of : Layout → List ℕ
labels_of t = range_with_len 0 (length t.labels)

-- the members with one more: a label's name, with the names of all that the test relates it to, in the order of their numbers
abbrev pub with_related : Layout → (ℕ → ℕ → Bool) → Members → ℕ → Members
with_related t test members a = put (label_name t a) (names_data (map (label_name t) (filter (test a) (labels_of t)))) members

-- a member for each label
abbrev pub relation_data : Layout → (ℕ → ℕ → Bool) → Data
relation_data t test = object (fold (with_related t test) no_members (labels_of t))

-- an acceptance: how many slots are filled, and for each label those that it may act on, by removals and in any way
abbrev pub check_data : Layout → (ℕ → ℕ → Bool) → (ℕ → ℕ → Bool) → Data
check_data t cut full =
    object (member (codes "caps") (number (unsigned (length t.caps)))
    (member (codes "cut") (relation_data t cut)
    (member (codes "full") (relation_data t full)
    (member (codes "verdict") (string (codes "accept")) no_members))))

-- a legal log: how many entries it has, and that its last state lies within the policy
abbrev pub within_data : ℕ → Data
within_data entries =
    object (member (codes "entries") (number (unsigned entries))
    (member (codes "state") (string (codes "within"))
    (member (codes "verdict") (string (codes "legal")) no_members)))

-- a legal log whose last state lies outside the policy: the place, and the rule that is broken there
abbrev pub outside_data : ℕ → List ℕ → List (List ℕ) → Data
outside_data entries rule place =
    object (member (codes "entries") (number (unsigned entries))
    (member (codes "place") (names_data place)
    (member (codes "rule") (string rule)
    (member (codes "state") (string (codes "outside"))
    (member (codes "verdict") (string (codes "legal")) no_members)))))

-- a log that isn't legal: the first entry, from 1, that is no step
abbrev pub illegal_data : ℕ → Data
illegal_data entry =
    object (member (codes "entry") (number (unsigned entry))
    (member (codes "verdict") (string (codes "illegal")) no_members))

-- an acceptance, without details
abbrev pub accept_data : Data
accept_data = object (member (codes "verdict") (string (codes "accept")) no_members)

-- claims that hold: their number, and what those on flows bound
abbrev pub hold_data : ℕ → Kept → Data
hold_data claims kept =
    object (member (codes "claims") (number (unsigned claims))
    (member (codes "kept") (string (kept_word kept))
    (member (codes "verdict") (string (codes "hold")) no_members)))

-- the word for how far an authority goes
abbrev pub extent_word : Extent → List ℕ
extent_word extent.Full = codes "full"
extent_word extent.Take = codes "take"
extent_word extent.Nothing = codes "none"

-- no run in which one label does something to another: it is impossible
abbrev pub impossible_data : Data
impossible_data =
    object (member (codes "bound") (string (codes "none"))
    (member (codes "run") (string (codes "impossible")) no_members))

-- no run was found: how far the authority goes, and how many calls were tried
abbrev pub unfound_data : Extent → ℕ → Data
unfound_data bound steps =
    object (member (codes "bound") (string (extent_word bound))
    (member (codes "run") (string (codes "none found"))
    (member (codes "steps") (number (unsigned steps)) no_members)))

abbrev pub fault_report : ℕ → File → ℕ → List ℕ
fault_report fault file line = line_of (fault_data fault file line)

abbrev pub denial_report : List ℕ → List (List ℕ) → List ℕ
denial_report rule place = line_of (denial_data rule place)

-- a text is the report of an acceptance, with the cut and full authority of each label
pub record IsCheckReport (t : Layout) (edges : List Edge) (text : List ℕ) : Type 0 where
  pub cut : ℕ → ℕ → Bool
  pub full : ℕ → ℕ → Bool
  pub cuts : Decides t cut (IsCut (allows edges))
  pub fulls : Decides t full (IsFull (allows edges))
  pub told : text ≡ line_of (check_data t cut full)
