-- Files of a command: what they hold, as far as their bytes are known, and why they couldn't be loaded (confine's own).
use Rattle.std.specs.Prelude.{[], ℕ, ◌∷◌, ◌≡◌, ◌⊎◌, Bool, Err, List, None, Ok, Option, Result, Some, false, true}
use Rattle.words.specs.{declared.faults.Fault.Fault, Reading.◌>>=◌}
use Rattle.forms.specs.declared.file.File.{File, TheVariants.{Description, New, Policy, Table}}
use Rattle.microkit.specs.Reading.{description_of_text}
use Rattle.machine.specs.Layout.{Layout}
use Rattle.captext.specs.{Policies.read_policy_of, Tables.read_table_of}
use Rattle.importing.specs.{declared.pieces.Minting.Minting, Tables.table_at}
use Rattle.commands.specs.{declared.{end.{Asked.Asked, Misuse.{Misuse, Misuse as misuse}}, load.{Pair.Pair, Stop.{Stop, Stop as stop}, Three.Three, Two.Two, With.With}}}
use Rattle.commands.specs.{declared.{choices.Taken.{Taken, Taken as taken}, given.Given.{Given, Given as given}}, Described.Described, Given.{is_description, layout_of}}

-- the contents of files; or the first file that isn't a text of its kind, with its text, the table that it was read by, if that is another
-- file, and its fault; or why the system isn't read as it was given; or nothing, since the bytes of a file aren't known
pub data Contents (X : Type 0) : Type 0 where
  whole : X → Contents X
  faulty : File → List ℕ → Option Layout → Fault → Contents X
  misused : Misuse → Contents X
  unknown : Contents X

-- what files hold, and then what the files after them do
abbrev pub and_then : {X Y : Type 0} → Contents X → (X → Contents Y) → Contents Y
and_then (whole x) next = next x
and_then (faulty file text table fault) next = faulty file text table fault
and_then (misused told) next = misused told
and_then unknown next = unknown

-- what a text of a file was read as, by a table, if that is another
abbrev pub held_by : {X : Type 0} → File → Option Layout → List ℕ → Result X Fault → Contents X
held_by file table text (Ok x) = whole x
held_by file table text (Err fault) = faulty file text table fault

-- a file whose bytes may be known, as a function reads them
abbrev pub contents_of : {X : Type 0} → File → Option Layout → Option (List ℕ) → (List ℕ → Result X Fault) → Contents X
contents_of file table None read = unknown
contents_of file table (Some text) read = held_by file table text (read text)

-- what a table holds
abbrev pub table_contents : Option (List ℕ) → Contents Layout
table_contents table = contents_of Table None table read_table_of

-- a text is read as a description, of which a table is made; or the first fault
unfoldable pub described_of : Minting → List ℕ → Result Described Fault
described_of minting text = do
  description ← description_of_text text
  table ← table_at description minting
  Ok (record { description = description; table = table })

-- what a description holds, with its table
abbrev pub described_contents : Minting → Option (List ℕ) → Contents Described
described_contents minting description = contents_of Description None description (described_of minting)

-- the names of a file that is a system: as a table, and as a description

module _ (table description : File) where
  -- a text that is read as a table
  abbrev pub as_table : List ℕ → Contents Given
  as_table text = and_then (held_by table None text (read_table_of text)) (λ t. whole (given.Table t))

  -- a text that is read as a description
  abbrev pub as_description : Minting → List ℕ → Contents Given
  as_description minting text = and_then (held_by description None text (described_of minting text)) (λ d. whole (given.Description d))

  -- a system's text, by whether it is one of a description, and whether rights are given
  abbrev pub as_system : Option Minting → Bool → List ℕ → Contents Given
  as_system None true text = misused misuse.NoRights
  as_system (Some minting) true text = as_description minting text
  as_system None false text = as_table text
  as_system (Some minting) false text = misused misuse.NeedlessRights

  -- the text of one of two systems, of which rights are for descriptions alone
  abbrev pub as_either : Option Minting → Bool → List ℕ → Contents Given
  as_either None true text = misused misuse.NoRights
  as_either (Some minting) true text = as_description minting text
  as_either rights false text = as_table text

  abbrev pub as_taken : Taken → List ℕ → Contents Given
  as_taken taken.Table text = as_table text
  as_taken (taken.System rights) text = as_system rights (is_description text) text
  as_taken (taken.Either rights) text = as_either rights (is_description text) text

  abbrev pub named_contents : Taken → Option (List ℕ) → Contents Given
  named_contents taken None = unknown
  named_contents taken (Some text) = as_taken taken text

-- what a system holds
abbrev pub given_contents : Taken → Option (List ℕ) → Contents Given
given_contents = named_contents Table Description

-- what the second system of a comparison holds
abbrev pub new_contents : Taken → Option (List ℕ) → Contents Given
new_contents = named_contents New New

-- what two systems hold
abbrev pub two_contents : Taken → Option (List ℕ) → Option (List ℕ) → Contents Two
two_contents taken old new =
    and_then (given_contents taken old) (λ o. and_then (new_contents taken new) (λ n. whole (record { old = o; new = n })))

-- what a system and a second file of this name hold, as a function reads that
abbrev pub with_contents :
    {X : Type 0} → Taken → File → (Layout → List ℕ → Result X Fault) → Option (List ℕ) → Option (List ℕ) → Contents (With X)
with_contents taken name read system second =
    and_then (given_contents taken system) (λ s.
    and_then (contents_of name (Some (layout_of s)) second (read (layout_of s))) (λ x. whole (record { system = s; second = x })))

-- what a table and a policy with its labels hold
abbrev pub pair_contents : Option (List ℕ) → Option (List ℕ) → Contents Pair
pair_contents table policy =
    and_then (table_contents table) (λ t.
    and_then (contents_of Policy (Some t) policy (read_policy_of t)) (λ edges. whole (record { table = t; policy = edges })))

-- what a table, a policy and a third file of this name hold, as a function reads that
abbrev pub three_contents : {X : Type 0} → File → (Layout → List ℕ → Result X Fault) → Option (List ℕ) → Option (List ℕ) → Option (List ℕ) → Contents (Three X)
three_contents name read table policy third =
    and_then (pair_contents table policy) (λ s.
    and_then (contents_of name (Some s.table) third (read s.table)) (λ x. whole (record { table = s.table; policy = s.policy; third = x })))

-- the first of some files whose device failed
abbrev pub first_failed : List (File × Bool) → Option File
first_failed [] = None
first_failed ((file, true) ∷ rest) = Some file
first_failed ((file, false) ∷ rest) = first_failed rest

-- a file of this name stopped the load before its text was read, or memory did
abbrev pub IsDeviceStop : File → Stop → Type 0
IsDeviceStop file stop.NoMemory = Unit {0}
IsDeviceStop file (stop.CannotRead which) = which ≡ file
IsDeviceStop file (stop.Faulty which fault) = ⊥
IsDeviceStop file (stop.NoLabel asked) = ⊥
IsDeviceStop file (stop.Misused told) = ⊥

-- a file of this name stopped the load, or memory did
abbrev pub IsStopOf : File → Stop → Type 0
IsStopOf file stop.NoMemory = Unit {0}
IsStopOf file (stop.CannotRead which) = which ≡ file
IsStopOf file (stop.Faulty which fault) = which ≡ file
IsStopOf file (stop.NoLabel asked) = ⊥
IsStopOf file (stop.Misused told) = ⊥

-- a system that is called so, as a table and as a description, stopped the load, or memory did
abbrev pub IsSystemStop : File → File → Stop → Type 0
IsSystemStop plain xml stop.NoMemory = Unit {0}
IsSystemStop plain xml (stop.CannotRead which) = which ≡ plain
IsSystemStop plain xml (stop.Faulty which fault) = (which ≡ plain) ⊎ (which ≡ xml)
IsSystemStop plain xml (stop.NoLabel asked) = ⊥
IsSystemStop plain xml (stop.Misused told) = Unit {0}

-- a device failed
abbrev pub is_unread : {X : Type 0} → Result X Stop → Bool
is_unread (Err (stop.CannotRead file)) = true
is_unread _ = false

-- the file whose device failed
abbrev pub unread_of : {X : Type 0} → Result X Stop → Option File
unread_of (Err (stop.CannotRead file)) = Some file
unread_of _ = None

-- the label that is lacking
abbrev pub lacking_of : {X : Type 0} → Result X Stop → Option Asked
lacking_of (Err (stop.NoLabel asked)) = Some asked
lacking_of _ = None

-- what was loaded is what the files hold, and the fault or the misuse that was told is theirs
abbrev pub IsLoadedAs : {X : Type 0} → Contents X → Result X Stop → Type 0
IsLoadedAs unknown loaded = Unit {0}
IsLoadedAs (whole x) (Ok y) = x ≡ y
IsLoadedAs (faulty file text table fault) (Ok x) = ⊥
IsLoadedAs (misused why) (Ok x) = ⊥
IsLoadedAs (whole x) (Err (stop.Faulty which told)) = ⊥
IsLoadedAs (faulty file text table fault) (Err (stop.Faulty which told)) = (which ≡ file) × (told ≡ fault)
IsLoadedAs (misused why) (Err (stop.Faulty which told)) = ⊥
IsLoadedAs (whole x) (Err (stop.Misused told)) = ⊥
IsLoadedAs (faulty file text table fault) (Err (stop.Misused told)) = ⊥
IsLoadedAs (misused why) (Err (stop.Misused told)) = told ≡ why
IsLoadedAs contents (Err _) = Unit {0}
