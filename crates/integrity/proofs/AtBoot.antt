-- The boot state of a table belongs to it: in particular, any address in untyped memory gives the memory's label.
use mathlib.Core.Bool.{false≢true}
use Rattle.std.proofs.Common.{ℕ, ◌&&◌, ◌<◌, ◌∙◌, ◌≡◌, ◌≢◌, ◌≤◌, Bool, None, Option, Some, ap, arith, false, find, inl, inr, nat_le, nat_lt}
use Rattle.std.proofs.{Common.{option_map, refl, slice_get, subst, sym, true}, lemmas.Bool.{Decides.Decides-ltb, and_from, and_parts}}
use Rattle.{std.proofs.lemmas.{Bool.{cases_order, le-leb, leb-true}, Option.{none-some, same_Some}}, base.specs.declared.ids.ObjId.ObjId}
use Rattle.machine.specs.declared.{layout.Initial.Initial, object.{Object.{Object, Object as o}, Reply.Reply, Untyped.Untyped}}
use Rattle.machine.specs.declared.thread.{RunState.{RunState, RunState as state}, Tcb.Tcb}
use Rattle.machine.specs.{Authority.{context_lent, has_memory_at, label_at}, Boot.{IsBoot, bound}}
use Rattle.machine.specs.{Layout.{Layout, bound_context, initial_of}, Machine.{Machine, object_of}}
use Rattle.machine.{specs.{Objects.{address_of, end_of, kind_of_object}, Step.Reply.loan_in}, proofs.Bound.{address-bound, kind-bound}}
use Rattle.table.specs.{Placement.{IsApart, Lies}, Rules.{IsAtRest, IsBlank, IsLawful}}
use Rattle.table.proofs.AtBoot.{Declared, boot_label, declared_at, initial_lawful, label_declared, rest_lends}
use Rattle.{table.proofs.Lookups.{FoundAt, found_at, found_first, pair_at}, policy.specs.Domain.EdgeTest}
use Rattle.integrity.specs.{Acting.MayAct.starts, Awake.{CallersAreServed, OthersSleep, SleepsOrActs}}
use Rattle.integrity.specs.Keeping.{BorrowersMayIdle, IsIdleBorrower, KeepersHoldNodes, MayKeep.holds, WaitersMayIdle}
use Rattle.integrity.{specs.OfTable.IsOfTable, proofs.{Asleep.acts_of, Borrowers.lent_back}}
use Rattle.integrity.proofs.{InMemory.takes_memory, ObjectLabels.kind_there, Shrinking.{same_reply, same_tcb}}
use Rattle.machine.specs.declared.object.ObjectKind.TheVariants as kind
use Rattle.machine.specs.declared.object.ReplyState.TheVariants as answers

-- untyped memory that has an address
memory_at :
    (address : ℕ) (initial : Initial) (memory : Untyped) → initial.object ≡ o.Untyped memory → memory.base ≤ address
    → address < end_of (o.Untyped memory) → has_memory_at address initial ≡ true
memory_at address initial memory is above below =
    let first : nat_le memory.base address ≡ true = le-leb memory.base address above in
    let second : nat_lt address (end_of (o.Untyped memory)) ≡ true = (Decides-ltb address (end_of (o.Untyped memory))).1 below in
    rw is (and_from _ _ first second)

lies_by :
    (address : ℕ) (initial : Initial) (object : Object) → initial.object ≡ object → has_memory_at address initial ≡ true
    → Lies initial.object address
lies_by address initial (o.Untyped memory) is e =
    let seen : has_memory_at address initial ≡ (nat_le memory.base address && nat_lt address (end_of (o.Untyped memory))) =
    rw is refl in
    let parts = and_parts (nat_le memory.base address) (nat_lt address (end_of (o.Untyped memory))) (sym seen ∙ e) in
    subst (λ (x : Object). Lies x address) (sym is)
    (leb-true memory.base address parts.0, (Decides-ltb address (end_of (o.Untyped memory))).0 parts.1)
lies_by address initial _ is e =
    let seen : has_memory_at address initial ≡ false = rw is refl in absurd (false≢true (sym seen ∙ e))

-- the label of untyped memory is that of the initial untyped whose range has the address, and there is no other
pub boot_ranged :
    (t : Layout) → IsLawful t → (id : ObjId) (initial : Initial) (memory : Untyped) (address : ℕ)
    → initial_of t id ≡ Some initial → initial.object ≡ o.Untyped memory → memory.base ≤ address
    → address < end_of (o.Untyped memory)
    → label_at t address ≡ Some initial.label
unfolding label_at initial_of
boot_ranged t lawful id initial memory address declares is above below =
    ap (option_map (λ (i : Initial). i.label))
    (found_first (has_memory_at address) t.objects id.0 initial declares (memory_at address initial memory is above below) (λ i other lt at. no_other i other lt at (has_memory_at address other) refl))
  where
    lies : Lies initial.object address
    lies = subst (λ (x : Object). Lies x address) (sym is) (above, below)

    no_other :
        (i : ℕ) (other : Initial) → i < id.0 → slice_get t.objects i ≡ Some other → (has : Bool)
        → has_memory_at address other ≡ has → has_memory_at address other ≡ false
    no_other i other lt at false e = e
    no_other i other lt at true e =
        absurd
        (pair_at (λ (one two : Initial). IsApart one.object two.object) t.objects i id.0 other initial lawful.draft.objects.apart lt at declares address (lies_by address other other.object refl e) lies)

-- an initial object lies in no other initial untyped memory
pub boot_inside :
    (t : Layout) → IsLawful t → (id : ObjId) (initial : Initial) (label : ℕ) → initial_of t id ≡ Some initial
    → kind_of_object initial.object ≢ kind.Control
    → label_at t (address_of initial.object) ≡ Some label → initial.label ≡ label
unfolding label_at initial_of
boot_inside t lawful id initial label declares other is = by (find (has_memory_at address) t.objects) refl is where
  address : ℕ
  address = address_of initial.object

  lies : Lies initial.object address
  lies = (omega arith, takes_memory initial.object other)

  by :
      (found : Option Initial) → find (has_memory_at address) t.objects ≡ found
      → option_map (λ (i : Initial). i.label) found ≡ Some label → initial.label ≡ label
  by None found e = absurd (none-some label e)
  by (Some memory) found e = at_place (found_at (has_memory_at address) t.objects memory found) where
    of_memory : has_memory_at address memory ≡ true → Lies memory.object address
    of_memory passes = lies_by address memory memory.object refl passes

    at_place : FoundAt (has_memory_at address) t.objects memory → initial.label ≡ label
    at_place at = elim (cases_order at.at id.0) [
      | inl same ↦
          ap (λ (i : Initial). i.label)
          (same_Some initial memory (sym declares ∙ ap (slice_get t.objects) (sym same) ∙ at.here))
          ∙ same_Some memory.label label e
      | inr apart ↦ elim apart [
        | inl below ↦ absurd
            (pair_at (λ (one two : Initial). IsApart one.object two.object) t.objects at.at id.0 memory initial
            lawful.draft.objects.apart below at.here declares address (of_memory at.passes) lies)
        | inr above ↦ absurd
            (pair_at (λ (one two : Initial). IsApart one.object two.object) t.objects id.0 at.at initial memory
            lawful.draft.objects.apart above declares at.here address lies (of_memory at.passes))
      ]
    ]

bound_memory :
    (t : Layout) (id : ObjId) (object : Object) (memory : Untyped) → o.Untyped memory ≡ bound t id object
    → object ≡ o.Untyped memory
bound_memory t id (o.Untyped _) memory e = sym e
bound_memory t id _ memory e = cc

bound_lends :
    (t : Layout) (id : ObjId) (object : Object) (thread : Tcb) (context : ObjId) → IsBlank object
    → o.Tcb thread ≡ bound t id object → context_lent thread.state ≡ Some context → ⊥
bound_lends t id (o.Tcb tcb) thread context blank e lends =
    let same : thread.state ≡ tcb.state = ap (λ (x : Tcb). x.state) (same_tcb thread (record tcb { context = bound_context t id }) e) in
    none-some context (sym (ap context_lent same ∙ rest_lends tcb.state blank.0) ∙ lends)
bound_lends t id _ thread context blank e lends = cc

-- at boot a thread is bound as the table says
bound_thread_is :
    (t : Layout) (id : ObjId) (object : Object) (thread : Tcb) → o.Tcb thread ≡ bound t id object
    → (tcb : Tcb) × (object ≡ o.Tcb tcb) × (thread ≡ record tcb { context = bound_context t id })
bound_thread_is t id (o.Tcb tcb) thread e = (tcb, refl, same_tcb thread (record tcb { context = bound_context t id }) e)
bound_thread_is t id _ thread e = cc

-- a thread sleeps at boot, or its label acts from boot on
pub boot_asleep : (t : Layout) (allowed : EdgeTest) (m : Machine) → IsLawful t → IsBoot t m → OthersSleep t allowed m
boot_asleep t allowed m lawful boot id thread at =
    let declared = declared_at t m boot id (o.Tcb thread) at in
    let is = bound_thread_is t id declared.initial.object thread declared.object_is in
    let blank : IsBlank (o.Tcb is.0) =
    subst IsBlank is.1 (initial_lawful t lawful id declared.initial declared.declares).blank in
    by_state declared is.0 is.1 is.2 is.0.state refl blank.0 (bound_context t id) refl
  where
    by_state :
        (declared : Declared t id (o.Tcb thread)) (tcb : Tcb) → declared.initial.object ≡ o.Tcb tcb
        → thread ≡ record tcb { context = bound_context t id } → (run : RunState) → tcb.state ≡ run → IsAtRest tcb.state
        → (context : Option ObjId) → bound_context t id ≡ context → SleepsOrActs t allowed m id thread
    by_state declared tcb is now state.Inactive run rest context link = inl (inl (ap (λ (x : Tcb). x.state) now ∙ run))
    by_state declared tcb is now state.Ready run rest None link =
        inl (inr (ap (λ (x : Tcb). x.state) now ∙ run, ap (λ (x : Tcb). x.context) now ∙ link))
    by_state declared tcb is now state.Ready run rest (Some context) link =
        inr
        (acts_of t allowed m id declared.initial.label (boot_label t m boot id ∙ label_declared t id declared.initial declared.declares)
        (starts (record {
          id = id;
          initial = declared.initial;
          declares = declared.declares;
          labelled = refl;
          thread = tcb;
          is_thread = is;
          ready = run;
          context = context;
          runs = link;
        })))
    by_state declared tcb is now run at rest context link = absurd (subst IsAtRest at rest)

-- a reply holds nobody at boot
bound_free :
    (t : Layout) (id : ObjId) (object : Object) (holding : Reply) (thread : ObjId) → IsBlank object
    → o.Reply holding ≡ bound t id object → holding.state ≡ answers.Called thread → ⊥
bound_free t id (o.Reply initial) holding thread blank e called =
    let same : holding.state ≡ initial.state = ap (λ (x : Reply). x.state) (same_reply holding initial e) in
    called_free thread (sym called ∙ same ∙ blank)
  where
    called_free : (thread : ObjId) → answers.Called thread ≡ answers.Free → ⊥
    called_free thread is = cc
bound_free t id _ holding thread blank e called = cc

pub boot_served : (t : Layout) (allowed : EdgeTest) (m : Machine) → IsLawful t → IsBoot t m → CallersAreServed t allowed m
boot_served t allowed m lawful boot id holding at thread called =
    let declared = declared_at t m boot id (o.Reply holding) at in
    absurd
    (bound_free t id declared.initial.object holding thread (initial_lawful t lawful id declared.initial declared.declares).blank
    declared.object_is called)

pub boot_of_table : (t : Layout) (m : Machine) → IsLawful t → IsBoot t m → IsOfTable t m
boot_of_table t m lawful boot =
    record {
      labelled = λ id object at. let declared = declared_at t m boot id object at in (declared.initial.label, boot_label t m boot id ∙ label_declared t id declared.initial declared.declares);
      initial = λ id object initial at is.
          let declared = declared_at t m boot id object at in
          let same : declared.initial ≡ initial = same_Some declared.initial initial (sym declared.declares ∙ is) in (
            ap kind_of_object declared.object_is ∙ kind-bound t id declared.initial.object
                ∙ ap (λ (i : Initial). kind_of_object i.object) same,
            ap address_of declared.object_is ∙ address-bound t id declared.initial.object
                ∙ ap (λ (i : Initial). address_of i.object) same,
          );
      ranged = λ id memory label address at is above below.
          let declared = declared_at t m boot id (o.Untyped memory) at in
          let same : declared.initial.label ≡ label =
          same_Some declared.initial.label label
          (sym (boot_label t m boot id ∙ label_declared t id declared.initial declared.declares) ∙ is) in
          boot_ranged t lawful id declared.initial memory address declared.declares
          (bound_memory t id declared.initial.object memory declared.object_is) above below
          ∙ ap Some same;
      inside = boot_inside t lawful;
      lent = λ id context thread at lends.
          let declared = declared_at t m boot id (o.Tcb thread) at in
          absurd
          (bound_lends t id declared.initial.object thread context (initial_lawful t lawful id declared.initial declared.declares).blank
          declared.object_is lends);
      counted = let e = boot.next in omega (arith, e);
    }

-- a CNode that holds a CNode's capability at boot is of a label that holds one
pub boot_nodes : (t : Layout) (allowed : EdgeTest) (m : Machine) → IsBoot t m → KeepersHoldNodes t allowed m
boot_nodes t allowed m boot slot held filled is_node for_node label labelled =
    let there = kind_there m slot.holder kind.CNode is_node in
    let declared = declared_at t m boot slot.holder there.0 there.1 in
    let of_kind : kind_of_object there.0 ≡ kind.CNode =
    same_Some (kind_of_object there.0) kind.CNode (sym (ap (option_map kind_of_object) there.1) ∙ is_node) in
    holds (record {
      slot = slot;
      held = held;
      filled = sym (boot.caps slot) ∙ filled;
      for_node = for_node;
      holder = declared.initial;
      declares = declared.declares;
      in_node =
          sym (ap kind_of_object declared.object_is ∙ kind-bound t slot.holder declared.initial.object) ∙ of_kind;
      labelled =
          same_Some declared.initial.label label
          (sym (boot_label t m boot slot.holder ∙ label_declared t slot.holder declared.initial declared.declares) ∙ labelled);
    })

-- no thread waits for a message at boot
pub boot_idlers : (t : Layout) (allowed : EdgeTest) (m : Machine) → IsLawful t → IsBoot t m → WaitersMayIdle t allowed m
boot_idlers t allowed m lawful boot id thread receiving at waits none label labelled =
    let declared = declared_at t m boot id (o.Tcb thread) at in
    let is = bound_thread_is t id declared.initial.object thread declared.object_is in
    let blank : IsBlank (o.Tcb is.0) =
    subst IsBlank is.1 (initial_lawful t lawful id declared.initial declared.declares).blank in
    absurd (subst IsAtRest (ap (λ (x : Tcb). x.state) (sym is.2) ∙ waits) blank.0)

-- no context is lent at boot
pub boot_borrowers : (t : Layout) (allowed : EdgeTest) (m : Machine) → IsLawful t → IsBoot t m → BorrowersMayIdle t allowed m
boot_borrowers t allowed m lawful boot id lent lends = by_content (object_of m id) refl where
  by_content : (content : Option Object) → object_of m id ≡ content → IsIdleBorrower t allowed m lent
  by_content (Some (o.Tcb thread)) at =
      absurd (none-some lent.context (sym (sleeps thread at) ∙ lent_back thread thread.state lent (ap loan_in (sym at) ∙ lends)))
    where
      sleeps : (thread : Tcb) → object_of m id ≡ Some (o.Tcb thread) → context_lent thread.state ≡ None
      sleeps thread at =
          let declared = declared_at t m boot id (o.Tcb thread) at in
          let is = bound_thread_is t id declared.initial.object thread declared.object_is in
          let blank : IsBlank (o.Tcb is.0) =
          subst IsBlank is.1 (initial_lawful t lawful id declared.initial declared.declares).blank in
          ap context_lent (ap (λ (x : Tcb). x.state) is.2) ∙ rest_lends is.0.state blank.0
  by_content None at = absurd (none-some lent (ap loan_in (sym at) ∙ lends))
  by_content (Some _) at = absurd (none-some lent (ap loan_in (sym at) ∙ lends))
