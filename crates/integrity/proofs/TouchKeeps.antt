-- A change of one object's content, words or queue keeps what a part of a call keeps: the object keeps its kind and its address, and its
-- new links, its budget and the change are allowed.
use Rattle.std.proofs.Common.{ℕ, ◌<◌, ◌∙◌, ◌≡◌, ◌≢◌, ◌≤◌, ◌⊎◌, None, Some, ap, arith, inl, inr, option_map, refl, subst, sym, true}
use Rattle.{std.proofs.lemmas.Option.{none-some, same_Some}, base.specs.declared.{ids.{ObjId.ObjId, SlotRef.SlotRef}, kind.Kind.Kind}}
use Rattle.machine.specs.declared.{call.Event.Event, object.{Context.Context, Object.{Object, Object as o}, Reply.Reply, Untyped.Untyped}}
use Rattle.machine.specs.declared.thread.{Lent.Lent, Receiving.Receiving, RunState.RunState as state, Tcb.Tcb}
use Rattle.machine.specs.{Authority.{HasAuthority.by_link, context_lent, label_at, label_of, links}, Layout.Layout}
use Rattle.machine.specs.{Machine.{Machine, cap_of, object_of, parent_of, queue_of, words_of}, Objects.{address_of, end_of, kind_of_object}}
use Rattle.{machine.{specs.Step.Reply.loan_in, proofs.Ids.one_or_two}, policy.specs.{Domain.EdgeTest, Sharp.MayIdle}}
use Rattle.integrity.specs.{Altered.MayAlter, Awake.{CallersAreServed, IsAwake, IsHeldAfterCall, OthersSleep, SleepsOrActs}}
use Rattle.integrity.specs.{Budgets.MayConfigure, Invariant.{IsBare, IsHeld}, Keeping.BorrowersMayIdle}
use Rattle.integrity.{specs.{Keeping.{IsIdleBorrower, KeepersHoldNodes, WaitersMayIdle}, OfTable.IsOfTable}, proofs.Asleep.sleeps_on}
use Rattle.integrity.proofs.{Borrowers.borrower_stays, Keeps.{Acts, Alters, Keeps}, ObjectLabels.{kind_stays, label_stays, same_label}}
use Rattle.integrity.proofs.{Shrinking.same_context, Steady.{IsSteady, LinksAllowed, steady_confined}}
use Rattle.machine.specs.declared.object.ObjectKind.TheVariants as kind

-- all but one object's content, queue and words is as it was
pub record Touches (m : Machine) (id : ObjId) (next : Machine) : Type 0 where
  pub contents : (q : ObjId) → q ≢ id → object_of next q ≡ object_of m q
  pub queues : (q : ObjId) → q ≢ id → queue_of next q ≡ queue_of m q
  pub words : (q : ObjId) → q ≢ id → words_of next q ≡ words_of m q
  pub caps : (slot : SlotRef) → cap_of next slot ≡ cap_of m slot
  pub parents : (slot : SlotRef) → parent_of next slot ≡ parent_of m slot
  pub number : next.next ≡ m.next

-- a content that an object may get in a step of a label's thread
pub record Fits
    (t : Layout) (allowed : EdgeTest) (began : Machine) (event : Event) (a : ℕ) (m : Machine) (id : ObjId)
    (old new : Object) : Type 0 where
  pub was : object_of m id ≡ Some old
  pub kind : kind_of_object new ≡ kind_of_object old
  pub address : address_of new ≡ address_of old
  pub end : end_of new ≡ end_of old
  -- each link was there, or is in the policy
  pub links :
      (end : ObjId) (k : Kind) → links new k end ≡ true
      → (links old k end ≡ true)
      ⊎ ((from to : ℕ) → label_of t m id ≡ Some from → label_of t m end ≡ Some to → allowed from k to ≡ true)
  -- the number of a context that a thread lent was given out
  pub lent : (context : ObjId) (thread : Tcb) → new ≡ o.Tcb thread → context_lent thread.state ≡ Some context → context.0 < m.next
  -- a thread that waits for a message without a context is of a label that may idle
  pub idles :
      (thread : Tcb) (receiving : Receiving) → new ≡ o.Tcb thread → thread.state ≡ state.Receiving receiving → thread.context ≡ None
      → (label : ℕ) → label_of t m id ≡ Some label → MayIdle allowed label
  -- the borrower of a context may idle
  pub borrows : (lent : Lent) → loan_in (Some new) ≡ Some lent → IsIdleBorrower t allowed m lent
  -- a thread sleeps, or its label may act
  pub sleeps :
      IsAwake t allowed began a → OthersSleep t allowed m → (thread : Tcb) → new ≡ o.Tcb thread
      → SleepsOrActs t allowed m id thread
  -- a caller that the reply holds is served
  pub serves :
      IsAwake t allowed began a → CallersAreServed t allowed m → (reply : Reply) → new ≡ o.Reply reply
      → IsHeldAfterCall t allowed m id reply
  pub share :
      (before after : Context) → old ≡ o.Context before → new ≡ o.Context after
      → (after.share ≡ before.share) ⊎ MayConfigure t allowed began event id

-- an object may keep the content that it has
pub same_fits :
    (t : Layout) (allowed : EdgeTest) (began : Machine) (event : Event) (a : ℕ) (m : Machine) (id : ObjId) → IsHeld t allowed m
    → (object : Object) → object_of m id ≡ Some object → Fits t allowed began event a m id object object
same_fits t allowed began event a m id held object there = record {
  was = there;
  kind = refl;
  address = refl;
  end = refl;
  links = λ end k had. inl had;
  lent = λ context thread is lends. held.of_table.lent id context thread (there ∙ ap Some is) lends;
  idles = λ thread receiving is. held.idlers id thread receiving (there ∙ ap Some is);
  borrows = λ lent lends. held.borrowers id lent (ap loan_in there ∙ lends);
  sleeps = λ awake others thread is. others id thread (there ∙ ap Some is);
  serves = λ awake served reply is. served id reply (there ∙ ap Some is);
  share = λ before after was is. inl (ap (λ (c : Context). c.share) (same_context after before (sym is ∙ was)));
}

memory_by_kind : (object : Object) → kind_of_object object ≡ kind.Untyped → (memory : Untyped) × (object ≡ o.Untyped memory)
memory_by_kind (o.Untyped memory) is = (memory, refl)
memory_by_kind _ is = cc

module _
    (t : Layout) (allowed : EdgeTest) (began : Machine) (event : Event) (a : ℕ) (m : Machine) (id : ObjId) (old new : Object)
    (next : Machine) (held : IsHeld t allowed m) (fits : Fits t allowed began event a m id old new) (touches : Touches m id next)
    (here : object_of next id ≡ Some new) (may : Alters t allowed began a m next id) where
  -- an object is as it was, or it is the one
  Seen : ObjId → Type 0
  Seen q = (object_of next q ≡ object_of m q) ⊎ (q ≡ id)

  seen : (q : ObjId) → Seen q
  unfolding Seen
  seen q = elim (one_or_two q id) [ inl same ↦ inr same | inr apart ↦ inl (touches.contents q apart) ]

  was_at : (q : ObjId) → q ≡ id → object_of m q ≡ Some old
  was_at q same = ap (object_of m) same ∙ fits.was

  is_at : (q : ObjId) → q ≡ id → object_of next q ≡ Some new
  is_at q same = ap (object_of next) same ∙ here

  new_at : (q : ObjId) (object : Object) → q ≡ id → object_of next q ≡ Some object → object ≡ new
  new_at q object same at = same_Some object new (sym at ∙ is_at q same)

  steady : IsSteady t m next
  unfolding Seen
  steady = record {
    labels = λ q. elim (seen q) [ inl same ↦ same_label t m next q same | inr same ↦ label_stays t m next q old new (was_at q same) (is_at q same) fits.address ];
    kinds = λ q. elim (seen q) [ inl same ↦ ap (option_map kind_of_object) same | inr same ↦ kind_stays t m next q old new (was_at q same) (is_at q same) fits.kind ];
    caps = touches.caps;
    parents = touches.parents;
  }

  linked : LinksAllowed t allowed m next
  unfolding Seen
  linked q end object k from to at has source target = elim (seen q) [
    | inl same ↦ held.confined from k to (by_link q end object (sym same ∙ at) has source target)
    | inr same ↦ elim (fits.links end k (ap (λ x. links x k end) (sym (new_at q object same at)) ∙ has)) [
      | inl had ↦ held.confined from k to (by_link q end old (was_at q same) had source target)
      | inr within ↦ within from to (ap (label_of t m) (sym same) ∙ source) target
    ]
  ]

  ranged :
      (q : ObjId) (memory : Untyped) (label address : ℕ) → object_of next q ≡ Some (o.Untyped memory)
      → label_of t next q ≡ Some label → memory.base ≤ address → address < end_of (o.Untyped memory)
      → label_at t address ≡ Some label
  unfolding Seen
  ranged q memory label address at labelled above below = elim (seen q) [
    | inl same ↦ held.of_table.ranged q memory label address (sym same ∙ at) (sym (steady.labels q) ∙ labelled) above below
    | inr same ↦
        let is = new_at q (o.Untyped memory) same at in
        let before = memory_by_kind old (sym fits.kind ∙ ap kind_of_object (sym is)) in
        let base : before.0.base ≡ memory.base = ap address_of (sym before.1) ∙ sym fits.address ∙ ap address_of (sym is) in
        let end : end_of (o.Untyped before.0) ≡ end_of (o.Untyped memory) = ap end_of (sym before.1) ∙ sym fits.end ∙ ap end_of (sym is) in
        held.of_table.ranged q before.0 label address (was_at q same ∙ ap Some before.1) (sym (steady.labels q) ∙ labelled)
        (subst (λ n. n ≤ address) (sym base) above) (subst (λ n. address < n) (sym end) below)
  ]

  of_table : IsOfTable t next
  unfolding Seen
  of_table = record {
    labelled = λ q object at. elim (seen q) [
      | inl same ↦ let label = held.of_table.labelled q object (sym same ∙ at) in (label.0, steady.labels q ∙ label.1)
      | inr same ↦ let label = held.of_table.labelled q old (was_at q same) in (label.0, steady.labels q ∙ label.1)
    ];
    initial = λ q object declared at is. elim (seen q) [
      | inl same ↦ held.of_table.initial q object declared (sym same ∙ at) is
      | inr same ↦
          let kept = held.of_table.initial q old declared (was_at q same) is in
          let object_is = new_at q object same at in
          (ap kind_of_object object_is ∙ fits.kind ∙ kept.0, ap address_of object_is ∙ fits.address ∙ kept.1)
    ];
    ranged = ranged;
    inside = held.of_table.inside;
    lent = λ q context thread at lends.
        let number = touches.number in
        elim (seen q) [
          | inl same ↦ let below = held.of_table.lent q context thread (sym same ∙ at) lends in omega (arith, below, number)
          | inr same ↦ let below = fits.lent context thread (sym (new_at q (o.Tcb thread) same at)) lends in omega (arith, below, number)
        ];
    counted = let number = touches.number in let before = held.of_table.counted in omega (arith, number, before);
  }

  nodes : KeepersHoldNodes t allowed next
  nodes slot cap at is_node for_node label labelled =
      held.nodes slot cap (sym (steady.caps slot) ∙ at) (sym (steady.kinds slot.holder) ∙ is_node) for_node label
      (sym (steady.labels slot.holder) ∙ labelled)

  idlers : WaitersMayIdle t allowed next
  unfolding Seen
  idlers q thread receiving at waits none label labelled = elim (seen q) [
    | inl same ↦ held.idlers q thread receiving (sym same ∙ at) waits none label (sym (steady.labels q) ∙ labelled)
    | inr same ↦
        fits.idles thread receiving (sym (new_at q (o.Tcb thread) same at)) waits none label
        (ap (label_of t m) (sym same) ∙ sym (steady.labels q) ∙ labelled)
  ]

  borrowers : BorrowersMayIdle t allowed next
  unfolding Seen
  borrowers q lent lends =
      let number = touches.number in
      borrower_stays t allowed m next lent (omega (arith, number)) (λ label labelled. sym (steady.labels lent.borrower) ∙ labelled)
      (elim (seen q) [
        | inl same ↦ held.borrowers q lent (ap loan_in (sym same) ∙ lends)
        | inr same ↦ fits.borrows lent (ap loan_in (sym (is_at q same)) ∙ lends)
      ])

  bare : (q : ObjId) → object_of next q ≡ None → IsBare next q
  bare q absent = elim (one_or_two q id) [
    | inl same ↦ absurd (none-some new (sym absent ∙ is_at q same))
    | inr apart ↦
        let none = held.bare q (sym (touches.contents q apart) ∙ absent) in
        record {
          queue = touches.queues q apart ∙ none.queue;
          words = touches.words q apart ∙ none.words;
          slots = λ index. touches.caps (record { holder = q; index = index }) ∙ none.slots index;
        }
  ]

  acts : (awake : IsAwake t allowed began a) (q : ObjId) → Acts t allowed awake.acts a m next q
  acts awake q = elim (one_or_two q id) [
    | inl same ↦ inr (subst (λ (x : ObjId). MayAlter t allowed awake.acts a m next x) (sym same) (may awake))
    | inr apart ↦ inl (record {
      content = touches.contents q apart;
      queue = touches.queues q apart;
      words = touches.words q apart;
      slots = λ index. touches.caps (record { holder = q; index = index });
    })
  ]

  -- what is there before and after
  stays :
      (q : ObjId) (before after : Object) → object_of m q ≡ Some before → object_of next q ≡ Some after
      → (after ≡ before) ⊎ ((q ≡ id) × (before ≡ old) × (after ≡ new))
  unfolding Seen
  stays q before after was is = elim (seen q) [
    | inl same ↦ inl (same_Some after before (sym is ∙ same ∙ was))
    | inr same ↦ inr (same, same_Some before old (sym was ∙ was_at q same), new_at q after same is)
  ]

  budgets :
      (q : ObjId) (before after : Context) → object_of m q ≡ Some (o.Context before) → object_of next q ≡ Some (o.Context after)
      → (after.share ≡ before.share) ⊎ MayConfigure t allowed began event q
  budgets q before after was is = elim (stays q (o.Context before) (o.Context after) was is) [
    | inl same ↦ inl (ap (λ (c : Context). c.share) (same_context after before same))
    | inr one ↦ elim (fits.share before after (sym one.1) (sym one.2)) [
      | inl kept ↦ inl kept
      | inr allows ↦ inr (subst (λ (x : ObjId). MayConfigure t allowed began event x) (sym one.0) allows)
    ]
  ]

  sleeps : IsAwake t allowed began a → OthersSleep t allowed m → OthersSleep t allowed next
  unfolding Seen
  sleeps awake others q thread at =
      sleeps_on t allowed m next q thread (steady.labels q) (elim (seen q) [
        | inl same ↦ others q thread (sym same ∙ at)
        | inr same ↦
            subst (λ (x : ObjId). SleepsOrActs t allowed m x thread) (sym same)
            (fits.sleeps awake others thread (sym (new_at q (o.Tcb thread) same at)))
      ])

  -- a reply that held a caller still does, and the caller is still served
  held_on :
      (q : ObjId) (reply : Reply) → IsHeldAfterCall t allowed m q reply → IsHeldAfterCall t allowed next q reply
  held_on q reply holds thread is =
      let before = holds thread is in
      let below = before.0 in
      let number = touches.number in (
        omega (arith, below, number),
        λ holder caller at called. before.1 holder caller (sym (steady.labels q) ∙ at) (sym (steady.labels thread) ∙ called),
      )

  serves : IsAwake t allowed began a → CallersAreServed t allowed m → CallersAreServed t allowed next
  unfolding Seen
  serves awake served q reply at =
      held_on q reply (elim (seen q) [
        | inl same ↦ served q reply (sym same ∙ at)
        | inr same ↦
            subst (λ (x : ObjId). IsHeldAfterCall t allowed m x reply) (sym same)
            (fits.serves awake served reply (sym (new_at q (o.Reply reply) same at)))
      ])

  before_there : (q : ObjId) (object : Object) → object_of next q ≡ Some object → (before : Object) × (object_of m q ≡ Some before)
  unfolding Seen
  before_there q object at = elim (seen q) [ inl same ↦ (object, sym same ∙ at) | inr same ↦ (old, was_at q same) ]

  pub touch_keeps : Keeps t allowed began event a m next
  touch_keeps = record {
    held = record {
      of_table = of_table;
      confined = steady_confined t allowed m next steady linked held.confined;
      nodes = nodes;
      idlers = idlers;
      borrowers = borrowers;
      kinds = λ slot cap at. steady.kinds cap.object ∙ held.kinds slot cap (sym (steady.caps slot) ∙ at);
      numbered = λ q object at.
          let before = before_there q object at in
          let below = held.numbered q before.0 before.1 in
          let number = touches.number in
          omega (arith, below, number);
      bare = bare;
    };
    acts = acts;
    stays = λ q before after was is. elim (stays q before after was is) [
      | inl same ↦ (ap kind_of_object same, ap address_of same)
      | inr one ↦ (ap kind_of_object one.2 ∙ fits.kind ∙ ap kind_of_object (sym one.1), ap address_of one.2 ∙ fits.address ∙ ap address_of (sym one.1))
    ];
    born = λ q object absent is. let before = before_there q object is in absurd (none-some before.0 (sym absent ∙ before.1));
    grows = let number = touches.number in omega (arith, number);
    sleeps = sleeps;
    serves = serves;
    budgets = budgets;
  }
