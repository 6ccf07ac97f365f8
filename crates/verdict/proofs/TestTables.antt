-- Tables without controls that are lawful: they are built up again of their items, each of which passes the tests of the table so far.
use Rattle.std.{specs.List.{AllByRecursion, list_all}, proofs.Common.{[], ℕ, ◌&&◌, ◌++◌, ◌==◌, ◌∷◌, ◌≡◌, Bool, List, None, Option, Some}}
use Rattle.std.proofs.{Common.{false, is_some, length, map, nat_le, nat_lt, not, refl, subst, true}, lemmas.Bool.{and_parts, eqb-true}}
use Rattle.std.proofs.lemmas.{Bool.{false≢true, leb-true, ltb-true}, List.{Elements.recursion_from_All, Sums.AllPass-from_list_all}}
use Rattle.{base.specs.declared.{ids.ObjId.ObjId, limits.TheConstants.{ADDRESS_END, MAX_PERIOD, MAX_RADIX}}, words.specs.Name.is_name}
use Rattle.machine.specs.declared.{layout.Initial.Initial, object.{Object.{Object, Object as o}, ObjectKind.ObjectKind}}
use Rattle.machine.specs.declared.object.{ObjectKind.ObjectKind as kind, ReplyState.{ReplyState, ReplyState as reply}, Share.Share}
use Rattle.machine.specs.declared.thread.{Inbox.{Inbox, Inbox as inbox}, RunState.{RunState, RunState as run}}
use Rattle.machine.specs.{Layout.{Layout, empty_layout, initial_cap, initial_of, initial_parent, most_labels}, Objects.end_of}
use Rattle.table.specs.Building.{declares_slot, has_cap_to, has_control, has_room, is_above_bindings, is_above_caps}
use Rattle.table.specs.Building.{is_above_pairs, is_bound, is_fitting, is_free, may_hold, repeats_control, repeats_untyped}
use Rattle.table.specs.{Items.{BindingItem, CapItem, Item, LabelItem, ObjectItem, PairItem, with_item}, Names.{label_named, object_named}}
use Rattle.table.specs.{Placement.is_aligned, Rules.{IsAtRest, IsBlank, IsDraft, IsLawful, IsWithinLimits, kind_at}}
use Rattle.table.specs.Tree.{is_kin, is_original, source_of, tree_fault, with_originals}
use Rattle.table.proofs.{BindingAdded.draft_binding, CapAdded.draft_filled, DraftKept.draft_empty, LabelAdded.draft_label}
use Rattle.table.proofs.{ObjectAdded.draft_initial, Pairs.draft_pair, TreeLemmas.{as_original, lawful_marked}}
use Rattle.base.specs.declared.core_number.TheConstants.CoreNo as CoreNo

-- objects as they are at boot

abbrev starts : RunState → Inbox → Option ObjId → Bool
starts run.Ready inbox.Empty None = true
starts run.Inactive inbox.Empty None = true
starts _ _ _ = false

starting :
    (state : RunState) (message : Inbox) (context : Option ObjId) → starts state message context ≡ true
    → IsAtRest state × (message ≡ inbox.Empty) × (context ≡ None)
starting run.Ready inbox.Empty None e = (tt, refl, refl)
starting run.Inactive inbox.Empty None e = (tt, refl, refl)
starting _ _ _ e = absurd (false≢true e)

abbrev is_free_reply : ReplyState → Bool
is_free_reply reply.Free = true
is_free_reply _ = false

freed : (state : ReplyState) → is_free_reply state ≡ true → state ≡ reply.Free
freed reply.Free e = refl
freed _ e = absurd (false≢true e)

abbrev has_limits : Option Share → Bool
has_limits None = true
has_limits (Some share) =
    nat_le 1 share.budget && (nat_le share.budget share.period && (nat_le share.period MAX_PERIOD && nat_lt share.core CoreNo.COUNT))

limited : (share : Option Share) → has_limits share ≡ true → IsWithinLimits share
limited None e = tt
limited (Some share) e =
    let l = and_parts _ _ e in
    let m = and_parts _ _ l.1 in
    let n = and_parts _ _ m.1 in (leb-true _ _ l.0, leb-true _ _ m.0, leb-true _ _ n.0, ltb-true _ _ n.1)

nothing : {X : Type 0} (x : Option X) → not (is_some x) ≡ true → x ≡ None
nothing None e = refl
nothing (Some x) e = absurd (false≢true e)

abbrev is_blank : Object → Bool
is_blank (o.Untyped memory) = nat_le 4 memory.bits && (nat_le memory.bits 47 && memory.watermark == memory.base)
is_blank (o.CNode node) = nat_lt 0 node.radix && nat_le node.radix MAX_RADIX
is_blank (o.Tcb thread) = starts thread.state thread.inbox thread.context
is_blank (o.Endpoint _) = true
is_blank (o.Notification notification) = not (is_some notification.pending)
is_blank (o.Reply answer) = is_free_reply answer.state
is_blank (o.Context context) = has_limits context.share && not (is_some context.thread)
is_blank (o.Frame _) = true
is_blank (o.Control _) = false

blank : (object : Object) → is_blank object ≡ true → IsBlank object
blank (o.Untyped memory) e =
    let l = and_parts _ _ e in
    let m = and_parts _ _ l.1 in (leb-true _ _ l.0, leb-true _ _ m.0, eqb-true _ _ m.1)
blank (o.CNode node) e = let l = and_parts _ _ e in (ltb-true _ _ l.0, leb-true _ _ l.1)
blank (o.Tcb thread) e = starting thread.state thread.inbox thread.context e
blank (o.Endpoint _) e = tt
blank (o.Notification notification) e = nothing notification.pending e
blank (o.Reply answer) e = freed answer.state e
blank (o.Context context) e = let l = and_parts _ _ e in (limited context.share l.0, nothing context.thread l.1)
blank (o.Frame _) e = tt
blank (o.Control _) e = absurd (false≢true e)

-- a thread and a context
abbrev may_bind : Option ObjectKind → Option ObjectKind → Bool
may_bind (Some kind.Tcb) (Some kind.Context) = true
may_bind _ _ = false

bound_kinds : (a b : Option ObjectKind) → may_bind a b ≡ true → (a ≡ Some kind.Tcb) × (b ≡ Some kind.Context)
bound_kinds (Some kind.Tcb) (Some kind.Context) e = (refl, refl)
bound_kinds _ _ e = absurd (false≢true e)

-- the tests of an item

abbrev tests : Layout → Item → List Bool
tests t (LabelItem name) =
    is_name name ∷ not (is_some (label_named t name)) ∷ nat_lt (length t.labels) (most_labels t.version) ∷ []
tests t (ObjectItem name initial) =
    is_name name ∷ not (is_some (object_named t name)) ∷ nat_lt initial.label (length t.labels) ∷ is_blank initial.object
    ∷ not (repeats_control t initial.object) ∷ has_room t initial.object ∷ nat_le (end_of initial.object) ADDRESS_END
    ∷ is_aligned initial.object ∷ is_free t initial.object ∷ []
tests t (CapItem filled) =
    is_above_caps t filled.slot ∷ declares_slot t filled.slot ∷ may_hold (initial_of t filled.slot.holder) filled.cap.detail
    ∷ is_fitting t filled.cap ∷ not (repeats_untyped t filled.cap) ∷ filled.cap.original ∷ []
tests t (PairItem pair) = is_above_pairs t pair.child ∷ declares_slot t pair.parent ∷ declares_slot t pair.child ∷ []
tests t (BindingItem binding) =
    is_above_bindings t binding.thread ∷ may_bind (kind_at t binding.thread) (kind_at t binding.context)
    ∷ not (is_bound t binding.context) ∷ []

unless : (b : Bool) → not b ≡ true → b ≡ false
unless true e = absurd (false≢true e)
unless false e = refl

each_true : (bs : List Bool) → list_all (λ b. b) bs ≡ true → AllByRecursion (λ b. b ≡ true) bs
each_true bs e = recursion_from_All (λ b. b ≡ true) bs (AllPass-from_list_all (λ b. b) bs e)

draft_with : (t : Layout) (item : Item) → list_all (λ b. b) (tests t item) ≡ true → IsDraft t → IsDraft (with_item t item)
draft_with t (LabelItem name) e draft =
    let l = each_true (tests t (LabelItem name)) e in
    draft_label t name draft (record { spelled = l.0; fresh = unless _ l.1.0; room = ltb-true _ _ l.1.1.0 })
draft_with t (ObjectItem name initial) e draft =
    let l = each_true (tests t (ObjectItem name initial)) e in
    let m = l.1.1.1.1 in
    draft_initial t name initial draft (record {
      spelled = l.0;
      fresh = unless _ l.1.0;
      label = ltb-true _ _ l.1.1.0;
      blank = blank initial.object l.1.1.1.0;
      controls = unless _ m.0;
      room = m.1.0;
      end = leb-true _ _ m.1.1.0;
      aligned = m.1.1.1.0;
      free = m.1.1.1.1.0;
    })
draft_with t (CapItem filled) e draft =
    let l = each_true (tests t (CapItem filled)) e in
    let m = l.1.1.1 in
    draft_filled t filled draft
    (record { rises = l.0; slot = l.1.0; root = l.1.1.0; fits = m.0; once = unless _ m.1.0; original = m.1.1.0 })
draft_with t (PairItem pair) e draft =
    let l = each_true (tests t (PairItem pair)) e in
    draft_pair t pair draft (record { rises = l.0; parent = l.1.0; child = l.1.1.0 })
draft_with t (BindingItem binding) e draft =
    let l = each_true (tests t (BindingItem binding)) e in
    let kinds = bound_kinds _ _ l.1.0 in
    draft_binding t binding draft (record { rises = l.0; thread = kinds.0; context = kinds.1; once = unless _ l.1.1.0 })

-- a table and then items, and whether each passes

unfoldable pub built : Layout → List Item → Layout
built t [] = t
built t (item ∷ more) = built (with_item t item) more

unfoldable pub passes : Layout → List Item → Bool
passes t [] = true
passes t (item ∷ more) = list_all (λ b. b) (tests t item) && passes (with_item t item) more

built_draft : (t : Layout) (items : List Item) → passes t items ≡ true → IsDraft t → IsDraft (built t items)
unfolding built passes
built_draft t [] e draft = draft
built_draft t (item ∷ more) e draft =
    let l = and_parts _ _ e in built_draft (with_item t item) more l.1 (draft_with t item l.0 draft)

-- the items of a table, whose capabilities are marked later

unfoldable pub objects_named : List (List ℕ) → List Initial → List Item
objects_named [] initials = []
objects_named (name ∷ names) [] = []
objects_named (name ∷ names) (initial ∷ more) = ObjectItem name initial ∷ objects_named names more

unfoldable pub items_of : Layout → List Item
items_of t =
    map LabelItem t.labels
    ++ (objects_named t.names t.objects
    ++ (map (λ filled. CapItem (as_original filled)) t.caps ++ (map PairItem t.pairs ++ map BindingItem t.bindings)))

-- the table that is built up of the items of another
unfoldable pub again : Layout → Layout
again t = built (empty_layout t.version) (items_of t)

-- whether each item passes, and the tree has no fault
unfoldable pub is_rebuilt : Layout → Bool
is_rebuilt t = passes (empty_layout t.version) (items_of t) && not (is_some (tree_fault (with_originals (again t))))

unfoldable pub marked_again : Layout → Layout
marked_again t = with_originals (again t)

pub lawful_by_tests : (t : Layout) → is_rebuilt t ≡ true → marked_again t ≡ t → IsLawful t
unfolding again is_rebuilt marked_again
lawful_by_tests t e same =
    let l = and_parts (passes (empty_layout t.version) (items_of t)) _ e in
    let draft = built_draft (empty_layout t.version) (items_of t) l.0 (draft_empty t.version) in
    subst IsLawful same (lawful_marked (again t) draft (nothing (tree_fault (with_originals (again t))) l.1))

-- what the tests compute with
unfoldable pub rebuilding : Bool
unfolding again built declares_slot has_cap_to has_control has_room initial_cap initial_of initial_parent is_above_bindings is_above_caps
    is_above_pairs is_bound is_fitting is_free is_kin is_original is_rebuilt items_of kind_at label_named marked_again object_named
    objects_named passes source_of tree_fault
rebuilding = true
