-- The text of a capability table, line by line: each line adds one item to the table, or is faulty. A line with several faults is told the
-- first in this order: form and order of lines, unknown name, double, wrong kind, limit, place in memory.
use Rattle.std.specs.{List.find, Prelude.{[], ℕ, ◌&&◌, ◌+◌, ◌^◌, ◌∷◌, Bool, Err, List, None, Ok, Option, Result, Some, codes, false}}
use Rattle.std.specs.{Prelude.{if◌then◌else◌, is_some, length, nat_le, nat_lt, not, true}, Str.bytes_eq}
use Rattle.base.specs.declared.core_number.TheConstants.CoreNo as CoreNo
use Rattle.base.specs.declared.{ids.{ObjId.ObjId, SlotRef.SlotRef}, limits.TheConstants.{ADDRESS_END, MAX_PERIOD, MAX_RADIX}}
use Rattle.base.specs.declared.rights.Rights.{Rights}
use Rattle.machine.specs.declared.{cap.{Cap.Cap, Detail.{Detail, Detail as d}}, layout.Version.Version, object.Object.{Object, Object as o}}
use Rattle.machine.specs.declared.layout.Version.TheVariants as version
use Rattle.machine.specs.declared.{object.{ObjectKind.ObjectKind, ReplyState.ReplyState as reply, Share.Share}, thread.RunState.RunState}
use Rattle.machine.specs.declared.object.ObjectKind.TheVariants as kind
use Rattle.machine.specs.declared.thread.Inbox.TheVariants as inbox
use Rattle.machine.specs.declared.thread.RunState.TheVariants as run
use Rattle.machine.specs.{KindWords.object_kind_of, Layout.{Layout, empty_layout, initial_of, most_labels}, Objects.end_of}
use Rattle.words.specs.{declared.faults.{Fault.Fault, Wrong.{Wrong, Wrong as wrong}}, Name.name_at, Number.{hex_at, number_at}}
use Rattle.words.specs.{Parts.{PartReader, in_turn, read_as}, Reading.{◌>>=◌, Format, Whole, ended_at, or_syntax, read_format, word_at}}
use Rattle.words.specs.Text.{line_is, lines_of}
use Rattle.table.specs.Building.{declares_slot, has_cap_to, has_room, is_above_bindings, is_above_caps, is_above_pairs, is_bound, is_free}
use Rattle.table.specs.{Building.{repeats_control, with_binding, with_filled, with_initial, with_label, with_pair}, Names.label_named}
use Rattle.table.specs.{Names.object_named, Placement.is_aligned, Rules.kind_at, Tree.{tree_fault, with_originals}}
use Rattle.captext.specs.{declared.shapes.{Place.Place, Term.{Term, Term as term}}, Shapes.{NamedSlot, names_at, slot_at, terms_at}}
use Rattle.captext.specs.declared.shapes.Place.TheVariants as place
use Rattle.captext.specs.TableText.{start_word, table_header}

-- what a line asks for, else a fault
abbrev pub demand : Bool → Wrong → Result (Unit {0}) Wrong
demand true fault = Ok tt
demand false fault = Err fault

-- a value, else a fault
abbrev pub value_or : {X : Type 0} → Wrong → Option X → Result X Wrong
value_or fault None = Err fault
value_or fault (Some x) = Ok x

abbrev pub is_nil : {X : Type 0} → List X → Bool
is_nil [] = true
is_nil (x ∷ xs) = false

-- the sections come in the order label, object, cap, child, bind

abbrev pub takes_pairs : Layout → Bool
takes_pairs t = is_nil t.bindings

abbrev pub takes_caps : Layout → Bool
takes_caps t = is_nil t.pairs && takes_pairs t

abbrev pub takes_objects : Layout → Bool
takes_objects t = is_nil t.caps && takes_caps t

abbrev pub takes_labels : Layout → Bool
takes_labels t = is_nil t.objects && takes_objects t

-- a label of this name
unfoldable pub labelled : Layout → List ℕ → Result Layout Wrong
labelled t name = do
  _ ← demand (takes_labels t) wrong.Syntax
  _ ← demand (not (is_some (label_named t name))) wrong.Double
  _ ← demand (nat_lt (length t.labels) (most_labels t.version)) wrong.Limit
  Ok (with_label t name)

-- label NAME
unfoldable pub label_line : Layout → List (List ℕ) → Result Layout Wrong
label_line t words = do
  name ← name_at words
  _ ← ended_at name.1
  labelled t name.0

-- the number of an object's label, where an object of this name may be declared now
unfoldable pub heading : Layout → List ℕ → List ℕ → Result ℕ Wrong
heading t name label = do
  _ ← demand (takes_objects t) wrong.Syntax
  number ← value_or wrong.UnknownName (label_named t label)
  _ ← demand (not (is_some (object_named t name))) wrong.Double
  Ok number

-- one object more is within the limits, and ends within the addresses that there are
abbrev pub is_within : Layout → Object → Bool
is_within t object = has_room t object && nat_le (end_of object) ADDRESS_END

-- an object with its name and label, within the limits and where it may lie
unfoldable pub declared : Layout → List ℕ → ℕ → Object → Result Layout Wrong
declared t name label object = do
  _ ← demand (is_within t object) wrong.Limit
  _ ← demand (is_aligned object && is_free t object) wrong.Misplaced
  Ok (with_initial t name (record { label = label; object = object }))

-- the objects as they are at boot, by what their kind's words tell

abbrev pub untyped_of : ℕ × ℕ → Object
untyped_of told = o.Untyped (record { base = told.0; bits = told.1; watermark = told.0 })

abbrev pub cnode_of : ℕ × ℕ → Object
cnode_of told = o.CNode (record { address = told.0; radix = told.1 })

abbrev pub thread_of : ℕ × RunState → Object
thread_of told = o.Tcb (record { address = told.0; state = told.1; inbox = inbox.Empty; context = None })

abbrev pub endpoint_of : ℕ → Object
endpoint_of address = o.Endpoint (record { address = address })

abbrev pub notification_of : ℕ → Object
notification_of address = o.Notification (record { address = address; pending = None })

abbrev pub reply_of : ℕ → Object
reply_of address = o.Reply (record { address = address; state = reply.Free })

abbrev pub context_of : ℕ × Option Share → Object
context_of told = o.Context (record { address = told.0; share = told.1; thread = None })

abbrev pub frame_of : ℕ → Object
frame_of address = o.Frame (record { address = address })

abbrev pub control_of : ℕ → Object
control_of core = o.Control (record { core = core })

-- the run state that a table may give a thread
unfoldable pub start_of : List ℕ → Option RunState
start_of word = find (λ state. bytes_eq word (start_word state)) (run.Ready ∷ run.Inactive ∷ [])

-- the next word as such a state
unfoldable pub start_at : PartReader RunState
start_at words = do
  word ← word_at words
  start ← or_syntax (start_of word.0)
  Ok (start, word.1)

-- the share of a core, a budget and a period
abbrev pub share_of : ℕ × (ℕ × ℕ) → Option Share
share_of told = Some (record { core = told.0; budget = told.1.0; period = told.1.1 })

-- CORE BUDGET PERIOD, or `-` for no share
unfoldable pub share_at : PartReader (Option Share)
share_at words = do
  first ← word_at words
  if bytes_eq first.0 (codes "-") then Ok (None, first.1) else read_as share_of (in_turn number_at (in_turn number_at number_at)) words

-- a kind's own words as an object, whatever the limits of the kind
abbrev pub content_at : ObjectKind → PartReader Object
content_at kind.Untyped = read_as untyped_of (in_turn hex_at number_at)
content_at kind.CNode = read_as cnode_of (in_turn hex_at number_at)
content_at kind.Tcb = read_as thread_of (in_turn hex_at start_at)
content_at kind.Endpoint = read_as endpoint_of hex_at
content_at kind.Notification = read_as notification_of hex_at
content_at kind.Reply = read_as reply_of hex_at
content_at kind.Context = read_as context_of (in_turn hex_at share_at)
content_at kind.Frame = read_as frame_of hex_at
content_at kind.Control = read_as control_of number_at

-- a share within the limits
abbrev pub is_share : ℕ → ℕ → ℕ → Bool
is_share core budget period = nat_lt core CoreNo.COUNT && ((nat_le 1 budget && nat_le budget period) && nat_le period MAX_PERIOD)

abbrev pub is_limited_share : Option Share → Bool
is_limited_share None = true
is_limited_share (Some share) = is_share share.core share.budget share.period

-- an object within the limits of its kind
abbrev pub is_limited : Object → Bool
is_limited (o.Untyped memory) = nat_le 4 memory.bits && nat_le memory.bits 47
is_limited (o.CNode node) = nat_le 1 node.radix && nat_le node.radix MAX_RADIX
is_limited (o.Context context) = is_limited_share context.share
is_limited (o.Control control) = nat_lt control.core CoreNo.COUNT
is_limited _ = true

-- the object, if it is within the limits of its kind
abbrev pub limited : Object → Option Object
limited object = if is_limited object then Some object else None

-- KIND NAME LABEL and the kind's own words; a control of a core past the limit doubles none
unfoldable pub object_line : ObjectKind → Layout → List (List ℕ) → Result Layout Wrong
object_line kind t words = do
  names ← names_at words
  told ← read_as limited (content_at kind) names.1
  _ ← ended_at told.1
  number ← heading t names.0.0 names.0.1
  object ← value_or wrong.Limit told.0
  _ ← demand (not (repeats_control t object)) wrong.Double
  declared t names.0.0 number object

-- the slot at a place of a holder
abbrev pub slot_in : ObjId → Place → SlotRef
slot_in holder at = record { holder = holder; index = index_of at } where
  index_of : Place → ℕ
  index_of (place.Index index) = index
  index_of place.Root = 0

-- the slot is above those before it; that of an unknown holder isn't compared
abbrev pub rises : (SlotRef → Bool) → Option ObjId → Place → Bool
rises is_above None at = true
rises is_above (Some holder) at = is_above (slot_in holder at)

-- a place fits its holder: an index a CNode, and the root slot a TCB
abbrev pub fits_holder : Option ObjectKind → Place → Bool
fits_holder (Some kind.CNode) (place.Index _) = true
fits_holder (Some kind.Tcb) place.Root = true
fits_holder _ _ = false

-- a thread's root slot holds the capability of a CNode
abbrev pub fits_place : Place → Option ObjectKind → Bool
fits_place (place.Index _) target = true
fits_place place.Root (Some kind.CNode) = true
fits_place place.Root _ = false

-- whether a capability to the target may be at the place of the holder, by their kinds
abbrev pub may_fill : Option ObjectKind → Place → Option ObjectKind → Bool
may_fill holder at target = fits_holder holder at && fits_place at target

-- rights that are only `r` and `w`
abbrev pub is_plain : Rights → Bool
is_plain rights = nat_lt rights.0 4

-- a guard and the radix together take at most 64 bits, and the guard's value fits its size
abbrev pub is_guard : ℕ → ℕ → ℕ → Bool
is_guard radix size value = nat_le (size + radix) 64 && nat_lt value (2 ^ size)

-- a guard that fits the radix
abbrev pub guarded : ℕ → ℕ → ℕ → Result Detail Wrong
guarded radix size value =
    if is_guard radix size value then Ok (d.CNode (record { size = size; value = value })) else Err wrong.Limit

-- what a capability with these rights says, if they are only `r` and `w`
abbrev pub plain : Rights → Detail → Result Detail Wrong
plain rights detail = if is_plain rights then Ok detail else Err wrong.WrongKind

-- what a capability to an object says: a guard's size and value, rights and a badge, rights, or nothing
abbrev pub detail_of : Object → Option Term → Option Term → Result Detail Wrong
detail_of (o.CNode node) (Some (term.Decimal size)) (Some (term.Hexadecimal value)) = guarded node.radix size value
detail_of (o.Endpoint _) (Some (term.Rights rights)) (Some (term.Decimal badge)) =
    Ok (d.Endpoint (record { rights = rights; badge = badge }))
detail_of (o.Notification _) (Some (term.Rights rights)) (Some (term.Decimal badge)) =
    plain rights (d.Notification (record { rights = rights; badge = badge }))
detail_of (o.Frame _) (Some (term.Rights rights)) None = plain rights (d.Frame rights)
detail_of (o.Untyped _) None None = Ok d.Untyped
detail_of (o.Tcb _) None None = Ok d.Tcb
detail_of (o.Reply _) None None = Ok d.Reply
detail_of (o.Context _) None None = Ok d.Context
detail_of (o.Control _) None None = Ok d.Control
detail_of _ _ _ = Err wrong.WrongKind

-- what a capability to an object of the table says
unfoldable pub detail_for : Layout → ObjId → Option Term × Option Term → Result Detail Wrong
detail_for t target terms = do
  initial ← value_or wrong.UnknownName (initial_of t target)
  detail_of initial.object terms.0 terms.1

-- the capability to an object with what it says; it is derived from no other
abbrev pub capability : ObjId → Detail → Cap
capability target detail = record { object = target; detail = detail; original = true }

abbrev pub is_untyped : Option ObjectKind → Bool
is_untyped (Some kind.Untyped) = true
is_untyped _ = false

-- whether an object is an untyped that has a capability
abbrev pub is_claimed : Layout → ObjId → Bool
is_claimed t target = is_untyped (kind_at t target) && has_cap_to t target

-- a capability to an object in a slot of a holder
unfoldable pub filled : Layout → ObjId → Place → ObjId → Option Term × Option Term → Result Layout Wrong
filled t holder at target terms = do
  _ ← demand (not (is_claimed t target)) wrong.Double
  _ ← demand (may_fill (kind_at t holder) at (kind_at t target)) wrong.WrongKind
  detail ← detail_for t target terms
  _ ← demand (declares_slot t (slot_in holder at)) wrong.Limit
  Ok (with_filled t (record { slot = slot_in holder at; cap = capability target detail }))

-- the object of a name
abbrev pub named : Layout → List ℕ → Result ObjId Wrong
named t name = value_or wrong.UnknownName (object_named t name)

-- a slot, the object of its capability, and what the capability says
abbrev pub NamedCap : Type 0
NamedCap = NamedSlot × (List ℕ × (Option Term × Option Term))

-- the capability that these words name
unfoldable pub capped : Layout → NamedCap → Result Layout Wrong
capped t cap = do
  _ ← demand (takes_caps t && rises (is_above_caps t) (object_named t cap.0.0) cap.0.1) wrong.Syntax
  holder ← named t cap.0.0
  target ← named t cap.1.0
  filled t holder cap.0.1 target cap.1.1

-- SLOT NAME and at most two terms
unfoldable pub cap_at : PartReader NamedCap
cap_at = in_turn slot_at (in_turn name_at terms_at)

-- cap SLOT NAME and at most two terms
unfoldable pub cap_line : Layout → List (List ℕ) → Result Layout Wrong
cap_line t words = do
  cap ← cap_at words
  _ ← ended_at cap.1
  capped t cap.0

-- the capability in the slot of the first holder and place is the parent of that in the slot of the second
unfoldable pub paired : Layout → ObjId × Place → ObjId × Place → Result Layout Wrong
paired t parent child = do
  _ ← demand (fits_holder (kind_at t parent.0) parent.1 && fits_holder (kind_at t child.0) child.1) wrong.WrongKind
  _ ← demand (declares_slot t (slot_in parent.0 parent.1) && declares_slot t (slot_in child.0 child.1)) wrong.Limit
  Ok (with_pair t (record { parent = slot_in parent.0 parent.1; child = slot_in child.0 child.1 }))

-- the pair that these words name
unfoldable pub derived : Layout → NamedSlot × NamedSlot → Result Layout Wrong
derived t pair = do
  _ ← demand (takes_pairs t && rises (is_above_pairs t) (object_named t pair.1.0) pair.1.1) wrong.Syntax
  above ← named t pair.0.0
  below ← named t pair.1.0
  paired t (above, pair.0.1) (below, pair.1.1)

-- SLOT SLOT
unfoldable pub pair_at : PartReader (NamedSlot × NamedSlot)
pair_at = in_turn slot_at slot_at

-- child SLOT SLOT
unfoldable pub child_line : Layout → List (List ℕ) → Result Layout Wrong
child_line t words = do
  pair ← pair_at words
  _ ← ended_at pair.1
  derived t pair.0

-- the thread rises above those that are bound; an unknown name isn't compared
abbrev pub thread_rises : Layout → Option ObjId → Bool
thread_rises t None = true
thread_rises t (Some thread) = is_above_bindings t thread

abbrev pub is_thread_and_context : Option ObjectKind → Option ObjectKind → Bool
is_thread_and_context (Some kind.Tcb) (Some kind.Context) = true
is_thread_and_context _ _ = false

-- the binding that these words name
unfoldable pub bound : Layout → List ℕ × List ℕ → Result Layout Wrong
bound t binding = do
  _ ← demand (thread_rises t (object_named t binding.0)) wrong.Syntax
  thread ← named t binding.0
  context ← named t binding.1
  _ ← demand (not (is_bound t context)) wrong.Double
  _ ← demand (is_thread_and_context (kind_at t thread) (kind_at t context)) wrong.WrongKind
  Ok (with_binding t (record { thread = thread; context = context }))

-- bind NAME NAME
unfoldable pub bind_line : Layout → List (List ℕ) → Result Layout Wrong
bind_line t words = do
  binding ← names_at words
  _ ← ended_at binding.1
  bound t binding.0

-- an object's line, by its first word
unfoldable pub declaration : List ℕ → Layout → List (List ℕ) → Result Layout Wrong
declaration keyword t words = do
  kind ← or_syntax (object_kind_of keyword)
  object_line kind t words

-- a line by its first word
unfoldable pub line_by : List ℕ → Layout → List (List ℕ) → Result Layout Wrong
line_by keyword t words =
    if bytes_eq keyword (codes "label") then label_line t words else
    (if bytes_eq keyword (codes "cap") then cap_line t words else
    (if bytes_eq keyword (codes "child") then child_line t words else
    (if bytes_eq keyword (codes "bind") then bind_line t words else
    declaration keyword t words)))

unfoldable pub table_line : Layout → List (List ℕ) → Result Layout Wrong
table_line t words = do
  keyword ← word_at words
  line_by keyword.0 t keyword.1

-- the line of the pair of this number: the header, the labels, the objects and the capabilities come before the pairs
abbrev pub pair_line : Layout → ℕ → ℕ
pair_line t number = number + 2 + (length t.labels + length t.objects + length t.caps)

-- the table, if no pair breaks a rule of the derivation tree; else the fault of the first that does
abbrev pub grown_by : Layout → Option ℕ → Whole Layout
grown_by t None = Ok (with_originals t)
grown_by t (Some number) = Err (pair_line t number, wrong.Tree)

-- what the lines make: the table with its capabilities marked, if its derivation tree keeps the rules
unfoldable pub grown : Layout → Whole Layout
grown t = grown_by t (tree_fault (with_originals t))

-- tables of a version, line by line
abbrev pub format_of : Version → Format Layout Layout
format_of version =
    record { header = table_header version; step = table_line; whole = grown; start = empty_layout version }

-- the version of a text, by its first line: the second if that says so
abbrev pub version_of : List (Option (List (List ℕ))) → Version
version_of (Some line ∷ lines) = if line_is line (table_header version.Two) then version.Two else version.One
version_of _ = version.One

-- the format of a text, by its version
abbrev pub table_format : List (Option (List (List ℕ))) → Format Layout Layout
table_format lines = format_of (version_of lines)

-- the capability table that a text spells, or its first fault
unfoldable pub read_table_of : List ℕ → Result Layout Fault
read_table_of bytes = read_format (table_format (lines_of bytes)) (lines_of bytes)
