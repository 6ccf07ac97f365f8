-- The table that a description becomes (confine's own).
--
-- Labels, objects, capabilities and bindings are added one after another, each in the order of its list. The first that passes a limit of
-- tables is the fault, with its line. There are no pairs of the derivation tree: each capability is original.
use Rattle.std.specs.{List.range_with_len, Prelude.{[], ℕ, ◌&&◌, ◌∷◌, Bool, Err, List, None, Ok, Option, Result, Some, false}}
use Rattle.std.specs.Prelude.{if◌then◌else◌, length, map, not, position, slice_get, true}
use Rattle.base.specs.declared.limits.TheConstants.{MAX_OBJECTS}
use Rattle.base.specs.declared.label.TheConstants.Label as Label
use Rattle.words.specs.{declared.faults.{Fault.Fault, Wrong.TheVariants.{Limit, Tree, UnknownName}}, Fault.fault_at, Reading.◌>>=◌}
use Rattle.microkit.specs.{declared.labels.Subject.Subject, Description.Description, Labels.{line_of, names_of, subjects_of}}
use Rattle.machine.specs.{declared.{layout.{Binding.Binding, Filled.Filled}, object.ObjectKind.ObjectKind}, Layout.{Layout, initial_of}}
use Rattle.machine.specs.declared.object.ObjectKind.TheVariants as kind
use Rattle.table.specs.Building.{declares_slot, is_above_bindings, is_above_caps, is_bound, is_fitting, may_hold, repeats_untyped}
use Rattle.table.specs.{Building.{with_binding, with_filled}, Rules.kind_at, Tree.{tree_fault, with_originals}}
use Rattle.importing.specs.declared.{pieces.{Grant.Grant, Minting.Minting, Piece.Piece}, tables.Bond.Bond}
use Rattle.importing.specs.{Built.{Plan, or_fault, pieces_added, started}, Grants.{grants_of, roots_of}, Groups.{labelled_of, labels_at}}
use Rattle.importing.specs.{Groups.{line_at, places_of, uses_in}, Pieces.{pieces_of, same_piece}, Plan.piece_line}
use Rattle.importing.specs.declared.pieces.Form.TheVariants as form

-- each subject has an object, and the objects are no more than a table may have
abbrev pub subject_beyond : Description → Option Subject → Result (Unit {0}) Fault
subject_beyond d None = Ok tt
subject_beyond d (Some subject) = Err (fault_at (line_of d subject) Limit)

unfoldable pub subjects_fit : Description → List Subject → Result (Unit {0}) Fault
subjects_fit d subjects = subject_beyond d (slice_get subjects MAX_OBJECTS)

-- the labels are no more than a table of version 2 may have
abbrev pub label_beyond : Description → List Subject → Option ℕ → Result (Unit {0}) Fault
label_beyond d subjects None = Ok tt
label_beyond d subjects (Some place) = Err (fault_at (line_at subjects d place) Limit)

unfoldable pub labels_fit : Description → List Subject → List ℕ → Result (Unit {0}) Fault
labels_fit d subjects places = label_beyond d subjects (slice_get places Label.COUNT)

-- the number of an object is the place of its piece
abbrev pub piece_number : List Piece → Piece → Option ℕ
piece_number pieces piece = position (λ (one : Piece). same_piece one piece) pieces

-- a filled slot, by the numbers of holder and object
abbrev pub filled_by : Grant → ℕ → ℕ → Filled
filled_by grant holder target =
    record {
      slot = record { holder = record { 0 = holder }; index = grant.index };
      cap = record { object = record { 0 = target }; detail = grant.detail; original = true };
    }

-- a table may take a filled slot
unfoldable pub takes_cap : Layout → Filled → Bool
takes_cap t filled =
    is_above_caps t filled.slot
    && (declares_slot t filled.slot
    && (may_hold (initial_of t filled.slot.holder) filled.cap.detail
    && (is_fitting t filled.cap && not (repeats_untyped t filled.cap))))

-- the table with one more filled slot, if it may take it
unfoldable pub cap_added : ℕ → Filled → Layout → Result Layout Fault
cap_added line filled t = if takes_cap t filled then Ok (with_filled t filled) else Err (fault_at line UnknownName)

-- the table with one more capability
unfoldable pub grant_added : Description → List Piece → Grant → Layout → Result Layout Fault
grant_added d pieces grant t = do
  holder ← or_fault (piece_line d grant.holder) UnknownName (piece_number pieces grant.holder)
  target ← or_fault (piece_line d grant.holder) UnknownName (piece_number pieces grant.target)
  cap_added (piece_line d grant.holder) (filled_by grant holder target) t

-- the table with these capabilities
unfoldable pub grants_added : Description → List Piece → List Grant → Layout → Result Layout Fault
grants_added d pieces [] t = Ok t
grants_added d pieces (grant ∷ grants) t = grant_added d pieces grant t >>= λ next. grants_added d pieces grants next

-- a domain's thread with its context
abbrev pub bond_of : ℕ → Bond
bond_of n = record { thread = record { form = form.Main; number = n }; context = record { form = form.Time; number = n } }

-- the bindings of all domains; no virtual processor runs at boot
abbrev pub bonds_of : Description → List Bond
bonds_of d = map bond_of (range_with_len 0 (length d.domains))

abbrev pub is_thread : Option ObjectKind → Bool
is_thread (Some kind.Tcb) = true
is_thread _ = false

abbrev pub is_context : Option ObjectKind → Bool
is_context (Some kind.Context) = true
is_context _ = false

abbrev pub binding_by : ℕ → ℕ → Binding
binding_by thread context = record { thread = record { 0 = thread }; context = record { 0 = context } }

-- a table may take a binding
unfoldable pub takes_binding : Layout → Binding → Bool
takes_binding t binding =
    is_above_bindings t binding.thread
    && (is_thread (kind_at t binding.thread)
    && (is_context (kind_at t binding.context) && not (is_bound t binding.context)))

unfoldable pub binding_added : ℕ → Binding → Layout → Result Layout Fault
binding_added line binding t = if takes_binding t binding then Ok (with_binding t binding) else Err (fault_at line UnknownName)

unfoldable pub bond_added : Description → List Piece → Bond → Layout → Result Layout Fault
bond_added d pieces bond t = do
  thread ← or_fault (piece_line d bond.thread) UnknownName (piece_number pieces bond.thread)
  context ← or_fault (piece_line d bond.thread) UnknownName (piece_number pieces bond.context)
  binding_added (piece_line d bond.thread) (binding_by thread context) t

unfoldable pub bonds_added : Description → List Piece → List Bond → Layout → Result Layout Fault
bonds_added d pieces [] t = Ok t
bonds_added d pieces (bond ∷ bonds) t = bond_added d pieces bond t >>= λ next. bonds_added d pieces bonds next

-- a table without pairs, after the test of its tree
unfoldable pub finished : Layout → Result Layout Fault
finished t = by (tree_fault (with_originals t))
  where
    by : Option ℕ → Result Layout Fault
    by None = Ok (with_originals t)
    by (Some pair) = Err (fault_at 0 Tree)

abbrev pub plan_for : Description → List (List ℕ) → List Grant → Plan
plan_for d names grants =
    record {
      description = d;
      subjects = subjects_of d;
      names = names;
      uses = uses_in d;
      places = places_of (uses_in d) (subjects_of d);
      labelled = labelled_of d;
      grants = grants;
    }

-- the plan of a description, whose subjects and labels must be within the limits
unfoldable pub planned : Description → Minting → Result Plan Fault
planned d minting = do
  _ ← subjects_fit d (subjects_of d)
  _ ← labels_fit d (subjects_of d) (places_of (uses_in d) (subjects_of d))
  names ← names_of d
  Ok (plan_for d names (grants_of d minting))

-- the capabilities and bindings of a table that has its objects
unfoldable pub filled_up : Description → List Piece → List Grant → Layout → Result Layout Fault
filled_up d pieces grants t = do
  held ← grants_added d pieces grants t
  rooted ← grants_added d pieces (roots_of d grants) held
  bonds_added d pieces (bonds_of d) rooted

-- the table of the labels and objects of a plan
unfoldable pub objects_by : List Piece → Plan → Result Layout Fault
objects_by pieces plan = do
  built ← pieces_added plan pieces (started (labels_at plan.names plan.places))
  Ok built.table

-- the table of a plan
unfoldable pub table_by : List Piece → Plan → Result Layout Fault
table_by pieces plan = do
  objects ← objects_by pieces plan
  filled ← filled_up plan.description pieces plan.grants objects
  finished filled

-- the table of a description, or its first fault
unfoldable pub table_at : Description → Minting → Result Layout Fault
table_at d minting = planned d minting >>= λ plan. table_by (pieces_of d) plan
