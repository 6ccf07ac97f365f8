-- The changes from one system to another (confine's own): which there are, in their order, and which of them add authority.
use Rattle.std.specs.{List.flat_map, Prelude.{[], ℕ, ◌&&◌, ◌++◌, ◌==◌, ◌||◌, ◌∷◌, ◌≡◌, Bool, List, Option, Some, false, if◌then◌else◌, not}}
use Rattle.{std.specs.Prelude.true, base.specs.declared.{edge.Edge.Edge, kind.Kind.{Kind, TheVariants.{Await, Read, Receive}}}}
use Rattle.{reach.specs.Reach.TableReach, summary.specs.{declared.rows.Row.Row, Regions.is_same, Rows.AreRows}}
use Rattle.diff.specs.declared.change.{Change.{Change, Change as change}, Marks.Marks, Role.{Role, Role as role}, Sign.{Sign, Sign as sign}}
use Rattle.diff.specs.declared.{change.{Standing.{Standing, Standing as stands}, Verb.{Verb, Verb as verb}}, names.Named.Named}
use Rattle.diff.specs.{Names.{named_in_new, named_in_old, names_of}, Side.{SideOf, cell, has_edge, has_role, standing, uses}}

-- what a label is

abbrev pub same_standing : Standing → Standing → Bool
same_standing stands.Absent stands.Absent = true
same_standing stands.Label stands.Label = true
same_standing stands.Program stands.Program = true
same_standing _ _ = false

abbrev pub sign_of_standing : Standing → Standing → Sign
sign_of_standing stands.Absent new = sign.Gained
sign_of_standing old stands.Absent = sign.Lost
sign_of_standing _ _ = sign.Differs

-- a label is new, or has a thread now
abbrev pub adds_standing : Standing → Standing → Bool
adds_standing stands.Absent stands.Label = true
adds_standing stands.Absent stands.Program = true
adds_standing stands.Label stands.Program = true
adds_standing _ _ = false

-- the marks of a cell

abbrev pub same_letters : Marks → Marks → Bool
same_letters old new =
    (is_same old.calls new.calls && is_same old.answers new.answers) && (is_same old.signals new.signals && is_same old.others new.others)

abbrev pub same_extent : Marks → Marks → Bool
same_extent old new =
    is_same old.changes new.changes && (is_same old.takes new.takes && is_same old.shares new.shares)

abbrev pub same_marks : Marks → Marks → Bool
same_marks old new = same_letters old new && same_extent old new

-- whether there is one, so that the cell isn't a dot
abbrev pub has_marks : Marks → Bool
has_marks marks = marks.changes || (marks.takes || marks.shares)

abbrev pub sign_of_marks : Marks → Marks → Sign
sign_of_marks old new = if not (has_marks old) then sign.Gained else (if not (has_marks new) then sign.Lost else sign.Differs)

-- whether the new cell has one that the old one lacks: to take is less than to change

abbrev pub gains : Bool → Bool → Bool
gains old new = new && not old

abbrev pub adds_letters : Marks → Marks → Bool
adds_letters old new =
    (gains old.calls new.calls || gains old.answers new.answers) || (gains old.signals new.signals || gains old.others new.others)

abbrev pub adds_extent : Marks → Marks → Bool
adds_extent old new =
    gains old.changes new.changes || ((gains old.takes new.takes && not old.changes) || gains old.shares new.shares)

abbrev pub adds_marks : Marks → Marks → Bool
adds_marks old new = adds_letters old new || adds_extent old new

-- whether a change is about something new, gone, or another than it was; and whether it adds authority

abbrev pub sign_of : Change → Sign
sign_of (change.Standing named old new) = sign_of_standing old new
sign_of (change.Cell from to old new) = sign_of_marks old new
sign_of (change.Use told from how to) = told
sign_of (change.Role told is named) = told
sign_of (change.Edge told from kind to) = told

abbrev pub is_gained : Sign → Bool
is_gained sign.Gained = true
is_gained _ = false

abbrev pub adds : Change → Bool
adds (change.Standing named old new) = adds_standing old new
adds (change.Cell from to old new) = adds_marks old new
adds (change.Use told from how to) = is_gained told
adds (change.Role told is named) = is_gained told
adds (change.Edge told from kind to) = is_gained told

-- the changes, of two systems

-- what is told of what a label is shows that its threads make calls now, or no longer do
abbrev pub shows_actor : Sign → Standing → Standing → Bool
shows_actor sign.Gained old new = adds_standing old new
shows_actor sign.Lost old new = adds_standing new old
shows_actor sign.Differs old new = false

-- what is in one system and not in the other
abbrev pub signs : Bool → Bool → List Sign
signs true false = sign.Lost ∷ []
signs false true = sign.Gained ∷ []
signs _ _ = []

module _ (old new : SideOf) where
  -- the change of what a label is
  abbrev pub standing_change : Named → List Change
  standing_change named =
      if same_standing (standing old named.old) (standing new named.new) then []
      else change.Standing named (standing old named.old) (standing new named.new) ∷ []

  -- the change of a cell
  abbrev pub cell_change : Named → Named → List Change
  cell_change from to =
      if same_marks (cell old from.old to.old) (cell new from.new to.new) then []
      else change.Cell from to (cell old from.old to.old) (cell new from.new to.new) ∷ []

  -- the change of what a program does to a label without a thread
  abbrev pub use_change : Named → Named → Verb → List Change
  use_change from to how =
      flat_map (λ told. change.Use told from how to ∷ []) (signs (uses old how from.old to.old) (uses new how from.new to.new))

  abbrev pub use_changes : Named → Named → List Change
  use_changes from to = use_change from to verb.Changes ++ (use_change from to verb.Takes ++ use_change from to verb.Reads)

  -- changes of labels that keep, and of those whose threads make calls; these not if the label is new or gone, or its threads are
  abbrev pub role_change : Role → Named → List Change
  role_change is named = flat_map (λ told. change.Role told is named ∷ []) (signs (has_role old is named.old) (has_role new is named.new))

  abbrev pub keeper_change : Named → List Change
  keeper_change named = role_change role.Keeper named

  abbrev pub actor_change_if : Bool → Sign → Named → List Change
  actor_change_if true told named = []
  actor_change_if false told named = change.Role told role.Actor named ∷ []

  abbrev pub actor_change : Named → List Change
  actor_change named =
      flat_map (λ told. actor_change_if (shows_actor told (standing old named.old) (standing new named.new)) told named)
      (signs (has_role old role.Actor named.old) (has_role new role.Actor named.new))

-- edges

-- two labels of one system are the same, as far as it has them
abbrev pub same_number : Option ℕ → Option ℕ → Bool
same_number (Some from) (Some to) = from == to
same_number _ _ = false

-- the kinds of edges by which a label reads
abbrev pub is_reading : Kind → Bool
is_reading Read = true
is_reading Receive = true
is_reading Await = true
is_reading _ = false

-- a label as the same pair of systems has it, the other way round
abbrev pub turned : Named → Named
turned named = record { old = named.new; new = named.old }

abbrev pub same_named : Named → Named → Bool
same_named from to = same_number from.new to.new

-- two systems, of which the first lacks an edge that the second has

module _ (old new : SideOf) where
  -- another change shows that a label is new, or has a thread now
  abbrev pub shows_standing : Named → Bool
  shows_standing named = adds_standing (standing old named.old) (standing new named.new)

  -- another change shows that threads of one program may do more to objects of another
  abbrev pub shows_cell : Named → Named → Bool
  shows_cell from to = adds_marks (cell old from.old to.old) (cell new from.new to.new)

  -- another change shows that a program does this to a label without a thread
  abbrev pub shows_use : Verb → Named → Named → Bool
  shows_use how from to = uses new how from.new to.new && not (uses old how from.old to.old)

  -- an edge by which one label reads another is shown by that alone; each other edge by all that is new between its labels
  abbrev pub shows_edge : Named → Kind → Named → Bool
  shows_edge from kind to =
      if is_reading kind && not (same_named from to) then shows_use verb.Reads from to
      else ((shows_standing from || shows_standing to)
      || (shows_cell from to || (shows_use verb.Changes from to || shows_use verb.Takes from to)))

  -- the first lacks it, and no other change shows it
  abbrev pub is_told : Named → Kind → Named → Bool
  is_told from kind to = not (has_edge old from.old kind to.old) && not (shows_edge from kind to)

module _ (old new : SideOf) where
  -- the ends of an edge of the new system, and of the old one
  abbrev pub end_in_new : ℕ → Named
  end_in_new label = named_in_new old.reach.table new.reach.table label

  abbrev pub end_in_old : ℕ → Named
  end_in_old label = named_in_old old.reach.table new.reach.table label

  abbrev pub gained_edge : Edge → List Change
  gained_edge edge =
      if is_told old new (end_in_new edge.from) edge.kind (end_in_new edge.to)
      then change.Edge sign.Gained (end_in_new edge.from) edge.kind (end_in_new edge.to) ∷ [] else []

  abbrev pub lost_edge : Edge → List Change
  lost_edge edge =
      if is_told new old (turned (end_in_old edge.from)) edge.kind (turned (end_in_old edge.to))
      then change.Edge sign.Lost (end_in_old edge.from) edge.kind (end_in_old edge.to) ∷ [] else []

  -- all of them: what labels are, cells, what programs do to labels without a thread, keepers, labels that act, and edges
  abbrev pub changes_among : List Named → List Change
  changes_among names =
      flat_map (standing_change old new) names
      ++ (flat_map (λ from. flat_map (cell_change old new from) names) names
      ++ (flat_map (λ from. flat_map (use_changes old new from) names) names
      ++ (flat_map (keeper_change old new) names
      ++ (flat_map (actor_change old new) names
      ++ (flat_map gained_edge new.reach.policy ++ flat_map lost_edge old.reach.policy)))))

  abbrev pub changes : List Change
  changes = changes_among (names_of old.reach.table new.reach.table)

-- these are the changes from one reach to another
pub record AreChanges (old new : TableReach) (changed : List Change) : Type 0 where
  pub old_rows : List Row
  pub new_rows : List Row
  pub old_are : AreRows old old_rows
  pub new_are : AreRows new new_rows
  pub are : changed ≡ changes (record { reach = old; rows = old_rows }) (record { reach = new; rows = new_rows })
