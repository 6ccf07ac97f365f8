-- A new object keeps what a part of a call keeps: the caller's label has full authority over the label where it lies, and it links to
-- nothing.
use Rattle.std.proofs.Common.{[], ℕ, ◌+◌, ◌<◌, ◌∙◌, ◌≡◌, ◌≢◌, ◌≤◌, ◌⊎◌, None, Option, Some, ap, arith, false, if◌then◌else◌, inl, inr}
use Rattle.std.proofs.{Common.{length, nat_lt, option_and_then, option_map, refl, replicate, sym, true}, lemmas.Bool.{false≢true, le-ltb}}
use Rattle.{std.proofs.lemmas.Option.{none-some, same_Some, slice_get_within}, base.specs.declared.{ids.ObjId.ObjId, kind.Kind.Kind}}
use Rattle.machine.specs.declared.{call.Event.Event, layout.Initial.Initial, object.Context.Context}
use Rattle.machine.specs.declared.{object.{Object.{Object, Object as o}, ReplyState.ReplyState, Untyped.Untyped}, thread.Tcb.Tcb}
use Rattle.machine.specs.Authority.{HasAuthority.{by_cap, by_link, by_pair, by_root}, holds_thread, label_at, label_of, links}
use Rattle.machine.specs.{Layout.{Layout, declared_label, initial_of}, Machine.{Machine, object_of, queue_of, with_new, words_of}}
use Rattle.machine.specs.{Objects.{address_of, end_of, kind_of_object, word_count}, Step.Reply.loan_in, WellFormed.kind_of}
use Rattle.machine.proofs.{Ids.{at_itself, at_other, itself, one_or_two}, LookUps.{cap_of-with_new, object_of-with_new, parent_of-with_new}}
use Rattle.{machine.proofs.{LookUps.{queue_of-with_new, words_of-with_new}, RunsLinks.runs_lent}, policy.specs.Domain.EdgeTest}
use Rattle.integrity.specs.{Awake.{IsAsleep, IsAwake}, Confined.IsConfined, Invariant.{IsBare, IsHeld}}
use Rattle.integrity.specs.{Keeping.{BorrowersMayIdle, KeepersHoldNodes, WaitersMayIdle}, OfTable.IsOfTable}
use Rattle.integrity.proofs.{Asleep.{asleep_waits, sleeps_on}, Borrowers.{borrower_stays, lender_runs}, Joined.IsJoined}
use Rattle.integrity.proofs.{Keeps.{Acts, Changes, Keeps}, ObjectLabels.{kind_there, same_label}, Shrinking.same_context}
use Rattle.base.specs.declared.kind.Kind.TheVariants as authority

-- an object that may be made in a step of a label's thread
pub record IsMakeable (t : Layout) (allowed : EdgeTest) (began : Machine) (a : ℕ) (object : Object) : Type 0 where
  pub label : ℕ
  -- the initial untyped memory that it lies in has a label, which the caller's may change
  pub lies : label_at t (address_of object) ≡ Some label
  pub changes : Changes t allowed began a label
  -- all that can be made of it has this label too
  pub ranged :
      (memory : Untyped) (address : ℕ) → object ≡ o.Untyped memory → memory.base ≤ address → address < end_of (o.Untyped memory)
      → label_at t address ≡ Some label
  pub alone : (k : Kind) (end : ObjId) → links object k end ≡ false
  -- a thread is made asleep
  pub sleeps : (thread : Tcb) → object ≡ o.Tcb thread → IsAsleep thread

module _
    (t : Layout) (allowed : EdgeTest) (began : Machine) (event : Event) (a : ℕ) (m : Machine) (held : IsHeld t allowed m)
    (joined : IsJoined m) (object : Object) (made : IsMakeable t allowed began a object) where
  id : ObjId
  id = record { 0 = m.next }

  next : Machine
  next = with_new m object

  here : object_of next id ≡ Some object
  unfolding next id
  here = object_of-with_new m object id ∙ at_itself id (Some object) (object_of m id)

  elsewhere : (q : ObjId) → q ≢ id → object_of next q ≡ object_of m q
  unfolding next id
  elsewhere q apart = object_of-with_new m object q ∙ at_other q id (Some object) (object_of m q) apart

  below_apart : (q : ObjId) → q.0 < m.next → q ≢ id
  unfolding id
  below_apart q below same = let number : q.0 ≡ m.next = ap (λ (i : ObjId). i.0) same in omega (arith, below, number)

  there_apart : (q : ObjId) (x : Object) → object_of m q ≡ Some x → q ≢ id
  there_apart q x at = below_apart q (held.numbered q x at)

  absent : object_of m id ≡ None
  absent = by (object_of m id) refl where
    by : (found : Option Object) → object_of m id ≡ found → object_of m id ≡ None
    by None at = at
    by (Some x) at = absurd (there_apart id x at refl)

  there_same : (q : ObjId) (x : Object) → object_of m q ≡ Some x → object_of next q ≡ object_of m q
  there_same q x at = elsewhere q (there_apart q x at)

  label_same : (q : ObjId) (x : Object) → object_of m q ≡ Some x → label_of t next q ≡ label_of t m q
  label_same q x at = same_label t m next q (there_same q x at)

  kind_same : (q : ObjId) (x : Object) → object_of m q ≡ Some x → kind_of next q ≡ kind_of m q
  kind_same q x at = ap (option_map kind_of_object) (there_same q x at)

  label_here : label_of t next id ≡ Some made.label
  unfolding label_of id
  label_here =
      let counted = held.of_table.counted in
      ap (option_and_then (λ (x : Object). if nat_lt id.0 (length t.objects) then declared_label t id else label_at t (address_of x))) here
      ∙ ap (λ early. if early then declared_label t id else label_at t (address_of object)) (le-ltb _ _ counted)
      ∙ made.lies

  pub new_label : label_of t (with_new m object) (record { 0 = m.next }) ≡ Some made.label
  unfolding next id
  new_label = label_here

  -- what is there now was there, or is the one that is made
  was_or_made : (q : ObjId) (x : Object) → object_of next q ≡ Some x → (object_of m q ≡ Some x) ⊎ ((q ≡ id) × (x ≡ object))
  was_or_made q x at = elim (one_or_two q id) [
    | inl same ↦ inr (same, same_Some x object (sym at ∙ ap (object_of next) same ∙ here))
    | inr apart ↦ inl (sym (elsewhere q apart) ∙ at)
  ]

  confined : IsConfined t allowed next
  unfolding next
  confined from k to (by_cap slot cap filled is_node given source target) =
      let at = sym (cap_of-with_new m object slot) ∙ filled in
      let holder = joined.filled slot cap at in
      let of = kind_there m cap.object _ (held.kinds slot cap at) in
      held.confined from k to
      (by_cap slot cap at (sym (kind_same slot.holder holder.0 holder.1) ∙ is_node) given
      (sym (label_same slot.holder holder.0 holder.1) ∙ source) (sym (label_same cap.object of.0 of.1) ∙ target))
  confined from k to (by_root slot cap filled is_thread source target) =
      let at = sym (cap_of-with_new m object slot) ∙ filled in
      let holder = joined.filled slot cap at in
      let of = kind_there m cap.object _ (held.kinds slot cap at) in
      held.confined from _ to
      (by_root slot cap at (sym (kind_same slot.holder holder.0 holder.1) ∙ is_thread)
      (sym (label_same slot.holder holder.0 holder.1) ∙ source) (sym (label_same cap.object of.0 of.1) ∙ target))
  confined from k to (by_pair slot parent derived source target) =
      let at = sym (parent_of-with_new m object slot) ∙ derived in
      let child = joined.child slot parent at in
      let over = joined.parent slot parent at in
      held.confined from _ to
      (by_pair slot parent at (sym (label_same parent.holder over.0 over.1) ∙ source) (sym (label_same slot.holder child.0 child.1) ∙ target))
  confined from k to (by_link q end x at linked source target) = by (was_or_made q x at) where
    by : (object_of m q ≡ Some x) ⊎ ((q ≡ id) × (x ≡ object)) → allowed from k to ≡ true
    by (inl was) =
        let end_same = elsewhere end (below_apart end (joined.ends q end x k was linked)) in
        held.confined from k to
        (by_link q end x was linked (sym (label_same q x was) ∙ source) (sym (same_label t m next end end_same) ∙ target))
    by (inr new) =
        absurd (false≢true (sym (made.alone k end) ∙ ap (λ (y : Object). links y k end) (sym new.1) ∙ linked))

  more : next.next ≡ m.next + 1
  unfolding next with_new
  more = refl

  not_initial : (q : ObjId) (declared : Initial) → q ≡ id → initial_of t q ≡ Some declared → ⊥
  unfolding initial_of id
  not_initial q declared same initial =
      let within = slice_get_within t.objects q.0 declared initial in
      let number : q.0 ≡ m.next = ap (λ (i : ObjId). i.0) same in
      let counted = held.of_table.counted in
      omega (arith, within, number, counted)

  of_table : IsOfTable t next
  of_table = record {
    labelled = λ q x at. elim (was_or_made q x at) [
      | inl was ↦ let label = held.of_table.labelled q x was in (label.0, label_same q x was ∙ label.1)
      | inr new ↦ (made.label, ap (label_of t next) new.0 ∙ label_here)
    ];
    initial = λ q x declared at initial. elim (was_or_made q x at) [
      | inl was ↦ held.of_table.initial q x declared was initial
      | inr new ↦ absurd (not_initial q declared new.0 initial)
    ];
    ranged = λ q memory label address at labelled from below. elim (was_or_made q (o.Untyped memory) at) [
      | inl was ↦ held.of_table.ranged q memory label address was (sym (label_same q (o.Untyped memory) was) ∙ labelled) from below
      | inr new ↦
          made.ranged memory address (sym new.1) from below
          ∙ sym label_here ∙ ap (label_of t next) (sym new.0) ∙ labelled
    ];
    inside = held.of_table.inside;
    lent = λ q context thread at lends. elim (was_or_made q (o.Tcb thread) at) [
      | inl was ↦ let below = held.of_table.lent q context thread was lends in omega (arith, below, more)
      | inr new ↦
          absurd
          (false≢true
          (sym (made.alone authority.Runs context) ∙ ap (λ (y : Object). links y authority.Runs context) (sym new.1)
          ∙ runs_lent thread context lends))
    ];
    counted = let counted = held.of_table.counted in omega (arith, counted, more);
  }

  bare : (q : ObjId) → object_of next q ≡ None → IsBare next q
  unfolding next id
  bare q gone = elim (one_or_two q id) [
    | inl same ↦ absurd (none-some object (sym gone ∙ ap (object_of next) same ∙ here))
    | inr apart ↦
        let before = held.bare q (sym (elsewhere q apart) ∙ gone) in
        record {
          queue = queue_of-with_new m object q ∙ at_other q id (Some []) (queue_of m q) apart ∙ before.queue;
          words =
              words_of-with_new m object q ∙ at_other q id (Some (replicate (word_count object) 0)) (words_of m q) apart
              ∙ before.words;
          slots = λ index. cap_of-with_new m object (record { holder = q; index = index }) ∙ before.slots index;
        }
  ]

  acts : (awake : IsAwake t allowed began a) (q : ObjId) → Acts t allowed awake.acts a m next q
  unfolding next id
  acts awake q = elim (one_or_two q id) [
    | inl same ↦ inr (record {
      label = made.label;
      labelled = inr (ap (object_of m) same ∙ absent, ap (label_of t next) same ∙ label_here);
      may = inl (record { actor = awake.actor; way = made.changes awake });
    })
    | inr apart ↦ inl (record {
      content = elsewhere q apart;
      queue = queue_of-with_new m object q ∙ at_other q id (Some []) (queue_of m q) apart;
      words = words_of-with_new m object q ∙ at_other q id (Some (replicate (word_count object) 0)) (words_of m q) apart;
      slots = λ index. cap_of-with_new m object (record { holder = q; index = index });
    })
  ]

  nodes : KeepersHoldNodes t allowed next
  unfolding next
  nodes slot cap filled is_node for_node label labelled =
      let at = sym (cap_of-with_new m object slot) ∙ filled in
      let holder = joined.filled slot cap at in
      held.nodes slot cap at (sym (kind_same slot.holder holder.0 holder.1) ∙ is_node) for_node label
      (sym (label_same slot.holder holder.0 holder.1) ∙ labelled)

  -- a thread that is made doesn't wait
  idlers : WaitersMayIdle t allowed next
  idlers q thread receiving at waits none label labelled = elim (was_or_made q (o.Tcb thread) at) [
    | inl was ↦ held.idlers q thread receiving was waits none label (sym (label_same q (o.Tcb thread) was) ∙ labelled)
    | inr new ↦ absurd (asleep_waits thread receiving (made.sleeps thread (sym new.1)) waits)
  ]

  -- a thread that is made lends nothing
  borrowers : BorrowersMayIdle t allowed next
  borrowers q lent lends = elim (one_or_two q id) [
    | inl same ↦
        let made_lends : loan_in (Some object) ≡ Some lent = ap loan_in (sym (ap (object_of next) same ∙ here)) ∙ lends in
        absurd (false≢true (sym (made.alone authority.Runs lent.context) ∙ lender_runs object lent made_lends))
    | inr apart ↦
        let before = held.borrowers q lent (ap loan_in (sym (elsewhere q apart)) ∙ lends) in
        borrower_stays t allowed m next lent (omega (arith, more))
        (λ label labelled. sym (same_label t m next lent.borrower (elsewhere lent.borrower (below_apart lent.borrower before.number))) ∙ labelled)
        before
  ]

  pub new_keeps : Keeps t allowed began event a m (with_new m object)
  unfolding next id
  new_keeps = record {
    held = record {
      of_table = of_table;
      confined = confined;
      nodes = nodes;
      idlers = idlers;
      borrowers = borrowers;
      kinds = λ slot cap filled.
          let at = sym (cap_of-with_new m object slot) ∙ filled in
          let of = kind_there m cap.object _ (held.kinds slot cap at) in
          kind_same cap.object of.0 of.1 ∙ held.kinds slot cap at;
      numbered = λ q x at. elim (was_or_made q x at) [
        | inl was ↦ let below = held.numbered q x was in omega (arith, below, more)
        | inr new ↦ let number : q.0 ≡ m.next = ap (λ (i : ObjId). i.0) new.0 in omega (arith, number, more)
      ];
      bare = bare;
    };
    acts = acts;
    stays = λ q old new was is.
        let same = same_Some new old (sym is ∙ there_same q old was ∙ was) in
        (ap kind_of_object same, ap address_of same);
    born = λ q new gone is. elim (was_or_made q new is) [
      | inl was ↦ absurd (none-some new (sym gone ∙ was))
      | inr made_now ↦ let number : q.0 ≡ m.next = ap (λ (i : ObjId). i.0) made_now.0 in omega (arith, number)
    ];
    grows = omega (arith, more);
    sleeps = λ awake others q thread at. elim (was_or_made q (o.Tcb thread) at) [
      | inl was ↦ sleeps_on t allowed m next q thread (label_same q (o.Tcb thread) was) (others q thread was)
      | inr new ↦ inl (made.sleeps thread (sym new.1))
    ];
    serves = λ awake served q reply at thread is. elim (was_or_made q (o.Reply reply) at) [
      | inl was ↦
          let before = served q reply was thread is in
          let below = before.0 in (
            omega (arith, below, more),
            λ holder caller at_holder at_caller.
                before.1 holder caller (sym (label_same q (o.Reply reply) was) ∙ at_holder)
                (sym (same_label t m next thread (elsewhere thread (below_apart thread below))) ∙ at_caller),
          )
      | inr new ↦
          absurd
          (false≢true
          (sym (made.alone authority.Holds thread) ∙ ap (λ (y : Object). links y authority.Holds thread) (sym new.1)
          ∙ ap (λ (state : ReplyState). holds_thread state thread) is ∙ itself thread))
    ];
    budgets = λ q old new was is.
        let same = same_Some (o.Context new) (o.Context old) (sym is ∙ there_same q (o.Context old) was ∙ was) in
        inl (ap (λ (c : Context). c.share) (same_context new old same));
  }
