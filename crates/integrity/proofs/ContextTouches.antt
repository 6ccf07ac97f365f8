-- Changes that link a thread and a scheduling context, end the link, or hand the context to another thread: each keeps what a part of a
-- call keeps, if the labels of the two allow it.
use Rattle.std.proofs.Common.{ℕ, ◌∙◌, ◌≡◌, ◌≢◌, ◌⊎◌, List, None, Option, Some, ap, inl, inr, refl, subst, sym, true}
use Rattle.{std.proofs.lemmas.Option.{none-some, same_Some}, base.specs.declared.{ids.ObjId.ObjId, kind.Kind.Kind}}
use Rattle.machine.specs.declared.{call.Event.Event, object.{Context.Context, Object.{Object, Object as o}}}
use Rattle.machine.specs.{declared.thread.{Receiving.Receiving, RunState.RunState as state, Tcb.Tcb}, Authority.{label_of, links}}
use Rattle.machine.specs.{Layout.Layout, Machine.{Machine, object_of, queue_of, with_object}, Releasing.with_unbound}
use Rattle.machine.specs.{Step.{Bind.{context_under, with_bound, with_handed}, Reply.loan_in}, WellFormed.IsThread}
use Rattle.machine.proofs.{Ids.{at_itself, at_other}, LookUps.{object_of-with_object, queue_of-with_object}, RunsLinks.{runs_by, runs_lent}}
use Rattle.{steps.proofs.ContextsFormed.{bound_is, unbound_is}, policy.specs.{Domain.EdgeTest, Sharp.MayIdle}}
use Rattle.integrity.specs.{Acting.MayAct, Awake.{IsAwake, OthersSleep, SleepsOrActs}, Invariant.{IsHeld, IsSound}, Shrinks.Lessens.unbound}
use Rattle.integrity.proofs.{Asleep.{acts_of, unbound_sleeps}, Contents.{changed, context_fits, loses_links, tcb_fits}}
use Rattle.integrity.proofs.{Held.held_of, Keeps.{Alters, Keeps, Takes, keeps_keeps, unchanged}}
use Rattle.integrity.proofs.{ObjectLabels.{label_stays, same_label}, SetKeeps.set_keeps, SlotKeeps.IsOpened}
use Rattle.base.specs.declared.kind.Kind.TheVariants as authority

-- the contents of a thread with another context, and of a context with another thread

abbrev pub runs_on : Tcb → Option ObjId → Tcb
runs_on tcb context = record tcb { context = context }

abbrev pub has_thread : Context → Option ObjId → Context
has_thread context thread = record context { thread = thread }

apart_by_kind :
    (m : Machine) (id thread : ObjId) (context : Context) (tcb : Tcb) → object_of m id ≡ Some (o.Context context)
    → IsThread m thread tcb → id ≢ thread
apart_by_kind m id thread context tcb context_there there same =
    differ (sym there ∙ ap (object_of m) (sym same) ∙ context_there)
  where
    differ : ◌≡◌ {A = Option Object} (Some (o.Tcb tcb)) (Some (o.Context context)) → ⊥
    differ e = cc

set_here : (m : Machine) (id : ObjId) (new : Object) → object_of (with_object m id new) id ≡ Some new
set_here m id new = object_of-with_object m id new id ∙ at_itself id (Some new) (object_of m id)

set_beside : (m : Machine) (id q : ObjId) (new : Object) → q ≢ id → object_of (with_object m id new) q ≡ object_of m q
set_beside m id q new apart = object_of-with_object m id new q ∙ at_other q id (Some new) (object_of m q) apart

-- the label of a thread may act if the step's label may act
abbrev pub ActsAt : Layout → EdgeTest → Machine → ℕ → Machine → ObjId → Type 0
ActsAt t allowed began a m thread = IsAwake t allowed began a → (label : ℕ) → label_of t m thread ≡ Some label → MayAct t allowed label

-- a thread may run on a context: it does so already, or the policy has the edge
abbrev pub MayRun : Layout → EdgeTest → Machine → ObjId → Tcb → ObjId → Type 0
MayRun t allowed m thread tcb context =
    (links (o.Tcb tcb) authority.Runs context ≡ true)
    ⊎ ((from to : ℕ) → label_of t m thread ≡ Some from → label_of t m context ≡ Some to → allowed from authority.Runs to ≡ true)

module _
    (t : Layout) (allowed : EdgeTest) (began : Machine) (event : Event) (a : ℕ) (m : Machine) (held : IsHeld t allowed m) where
  -- a thread whose label may act is bound to a context that it may run on, or any thread to none
  pub thread_keeps :
      (thread : ObjId) (tcb : Tcb) (link : Option ObjId) → IsThread m thread tcb
      → ((context : ObjId) → link ≡ Some context → MayRun t allowed m thread tcb context)
      → (link ≡ None) ⊎ ActsAt t allowed began a m thread
      → ((receiving : Receiving) → tcb.state ≡ state.Receiving receiving → link ≡ None → (label : ℕ)
      → label_of t m thread ≡ Some label → MayIdle allowed label)
      → Alters t allowed began a m (with_object m thread (o.Tcb (runs_on tcb link))) thread
      → Keeps t allowed began event a m (with_object m thread (o.Tcb (runs_on tcb link)))
  thread_keeps thread tcb link there may_run wakes idles may =
      set_keeps t allowed began event a m thread held (o.Tcb tcb) (o.Tcb (runs_on tcb link))
      (tcb_fits t allowed began event a m thread tcb (runs_on tcb link) there refl within
      (λ context lent. held.of_table.lent thread context tcb there lent) idles
      (λ lent lends. held.borrowers thread lent (ap loan_in there ∙ lends)) (sleeps wakes)) may
    where
      sleeps :
          (link ≡ None) ⊎ ActsAt t allowed began a m thread → IsAwake t allowed began a → OthersSleep t allowed m
          → SleepsOrActs t allowed m thread (runs_on tcb link)
      sleeps (inr acts) awake others = inr (acts awake)
      sleeps (inl none) awake others =
          subst (λ (x : Option ObjId). SleepsOrActs t allowed m thread (runs_on tcb x)) (sym none)
          (elim (others thread tcb there) [ inl asleep ↦ inl (unbound_sleeps tcb asleep) | inr acts ↦ inr acts ])

      within :
          (end : ObjId) (k : Kind) → links (o.Tcb (runs_on tcb link)) k end ≡ true
          → (links (o.Tcb tcb) k end ≡ true)
          ⊎ ((from to : ℕ) → label_of t m thread ≡ Some from → label_of t m end ≡ Some to → allowed from k to ≡ true)
      within end authority.Runs is = elim (runs_by (runs_on tcb link) end is) [
        | inl bound ↦ may_run end bound
        | inr lent ↦ inl (runs_lent tcb end lent)
      ]
      within end k is = inl is

  -- the context gets another thread, or none
  pub linked_keeps :
      (id thread : ObjId) (context : Context) (tcb : Tcb) (link back : Option ObjId) → object_of m id ≡ Some (o.Context context)
      → IsThread m thread tcb
      → Alters t allowed began a (with_object m thread (o.Tcb (runs_on tcb link)))
      (with_object (with_object m thread (o.Tcb (runs_on tcb link))) id (o.Context (has_thread context back))) id
      → Keeps t allowed began event a m (with_object m thread (o.Tcb (runs_on tcb link)))
      → Keeps t allowed began event a m
      (with_object (with_object m thread (o.Tcb (runs_on tcb link))) id (o.Context (has_thread context back)))
  linked_keeps id thread context tcb link back its there may first =
      let mid : Machine = with_object m thread (o.Tcb (runs_on tcb link)) in
      let new : Context = has_thread context back in
      let beside : object_of mid id ≡ object_of m id =
      set_beside m thread id (o.Tcb (runs_on tcb link)) (apart_by_kind m id thread context tcb its there) in
      keeps_keeps t allowed began event a m mid (with_object mid id (o.Context new)) held first
      (set_keeps t allowed began event a mid id first.held (o.Context context) (o.Context new)
      (context_fits t allowed began event a mid id context new (beside ∙ its) refl (inl refl)) may)

  -- the label may change the context, whatever becomes of the thread before
  pub context_changes :
      (id thread : ObjId) (context : Context) (tcb : Tcb) (link : Option ObjId) (next : Machine)
      → object_of m id ≡ Some (o.Context context) → IsThread m thread tcb → IsOpened t allowed began m a id
      → Alters t allowed began a (with_object m thread (o.Tcb (runs_on tcb link))) next id
  context_changes id thread context tcb link next its there may =
      let mid : Machine = with_object m thread (o.Tcb (runs_on tcb link)) in
      let beside : object_of mid id ≡ object_of m id =
      set_beside m thread id (o.Tcb (runs_on tcb link)) (apart_by_kind m id thread context tcb its there) in
      changed t allowed began a mid next id may.label (same_label t m mid id beside ∙ may.labelled) may.has

  -- the label may make the context smaller, and the context only loses its thread
  pub context_loses :
      (id thread : ObjId) (context : Context) (tcb : Tcb) (link : Option ObjId) (label : ℕ)
      → object_of m id ≡ Some (o.Context context) → IsThread m thread tcb → label_of t m id ≡ Some label
      → Takes t allowed began a label → (threads : List ObjId) → queue_of m id ≡ Some threads
      → Alters t allowed began a (with_object m thread (o.Tcb (runs_on tcb link)))
      (with_object (with_object m thread (o.Tcb (runs_on tcb link))) id (o.Context (has_thread context None))) id
  context_loses id thread context tcb link label its there labelled take threads queue =
      let mid : Machine = with_object m thread (o.Tcb (runs_on tcb link)) in
      let new : Context = has_thread context None in
      let beside : object_of mid id ≡ object_of m id =
      set_beside m thread id (o.Tcb (runs_on tcb link)) (apart_by_kind m id thread context tcb its there) in
      loses_links t allowed began a mid id label (o.Context context) (o.Context new) (same_label t m mid id beside ∙ labelled) take
      (beside ∙ its) (unbound context new refl refl refl refl refl) threads
      (queue_of-with_object m thread (o.Tcb (runs_on tcb link)) id ∙ queue)

-- the label may change both threads and the context that goes over, the thread that gives it doesn't wait for a message, and the thread
-- that gets it may run on it
pub record MayHand (t : Layout) (allowed : EdgeTest) (began : Machine) (a : ℕ) (m : Machine) (from to id : ObjId) : Type 0 where
  pub gives : IsOpened t allowed began m a from
  pub gets : IsOpened t allowed began m a to
  pub goes : IsOpened t allowed began m a id
  pub acts : IsAwake t allowed began a → MayAct t allowed gets.label
  pub still : (tcb : Tcb) (receiving : Receiving) → IsThread m from tcb → tcb.state ≡ state.Receiving receiving → ⊥
  pub other : Tcb
  pub there : IsThread m to other
  pub may_run : (links (o.Tcb other) authority.Runs id ≡ true) ⊎ (allowed gets.label authority.Runs goes.label ≡ true)

module _
    (t : Layout) (allowed : EdgeTest) (began : Machine) (event : Event) (a : ℕ) (m : Machine) (sound : IsSound t allowed m)
    (from to : ObjId) where
  module _
      (id : ObjId) (tcb : Tcb) (context : Context) (there : IsThread m from tcb) (runs : tcb.context ≡ Some id)
      (its : object_of m id ≡ Some (o.Context context)) (apart : to ≢ from) (may : MayHand t allowed began a m from to id) where
    abbrev halfway : Machine
    halfway = with_object m from (o.Tcb (runs_on tcb None))

    abbrev between : Machine
    between = with_object halfway id (o.Context (has_thread context None))

    leaves : Keeps t allowed began event a m between
    leaves =
        linked_keeps t allowed began event a m (held_of t allowed m sound) id from context tcb None None its there
        (context_changes t allowed began event a m (held_of t allowed m sound) id from context tcb None between its there may.goes)
        (thread_keeps t allowed began event a m (held_of t allowed m sound) from tcb None there
        (λ q none. absurd (none-some q none)) (inl refl)
        (λ receiving waits none label labelled. absurd (may.still tcb receiving there waits))
        (changed t allowed began a m halfway from may.gives.label may.gives.labelled may.gives.has))

    its_between : object_of between id ≡ Some (o.Context (has_thread context None))
    its_between = set_here halfway id (o.Context (has_thread context None))

    there_between : IsThread between to may.other
    there_between =
        set_beside halfway id to (o.Context (has_thread context None))
        (λ same. apart_by_kind m id to context may.other its may.there (sym same))
        ∙ set_beside m from to (o.Tcb (runs_on tcb None)) apart
        ∙ may.there

    to_label : label_of t between to ≡ Some may.gets.label
    to_label =
        same_label t m between to (there_between ∙ sym may.there) ∙ may.gets.labelled

    id_label : label_of t between id ≡ Some may.goes.label
    id_label =
        label_stays t m between id (o.Context context) (o.Context (has_thread context None)) its its_between refl
        ∙ may.goes.labelled

    may_run_between : MayRun t allowed between to may.other id
    may_run_between = elim may.may_run [
      | inl had ↦ inl had
      | inr edge ↦
          inr (λ one other source target.
          ap (λ x. allowed x authority.Runs other) (same_Some one may.gets.label (sym source ∙ to_label))
          ∙ ap (allowed may.gets.label authority.Runs) (same_Some other may.goes.label (sym target ∙ id_label)) ∙ edge)
    ]

    abbrev after : Machine
    after =
        with_object (with_object between to (o.Tcb (runs_on may.other (Some id)))) id
        (o.Context (has_thread (has_thread context None) (Some to)))

    joins : Keeps t allowed began event a between after
    joins =
        linked_keeps t allowed began event a between leaves.held id to (has_thread context None) may.other (Some id) (Some to)
        its_between there_between
        (context_changes t allowed began event a between leaves.held id to (has_thread context None) may.other (Some id) after
        its_between there_between (record { label = may.goes.label; labelled = id_label; has = may.goes.has }))
        (thread_keeps t allowed began event a between leaves.held to may.other (Some id) there_between
        (λ q is. subst (λ (i : ObjId). MayRun t allowed between to may.other i) (same_Some id q is) may_run_between)
        (inr (λ awake. acts_of t allowed between to may.gets.label to_label (may.acts awake)))
        (λ receiving waits none label labelled. absurd (none-some id (sym none)))
        (changed t allowed began a between (with_object between to (o.Tcb (runs_on may.other (Some id)))) to may.gets.label to_label
        may.gets.has))

    after_is : with_bound (with_unbound m from) id to ≡ after
    after_is =
        ap (λ (n : Machine). with_bound n id to) (unbound_is m id from context tcb its there runs)
        ∙ bound_is between id to (has_thread context None) may.other its_between there_between

    hands : Keeps t allowed began event a m (with_bound (with_unbound m from) id to)
    hands =
        subst (λ (n : Machine). Keeps t allowed began event a m n) (sym after_is)
        (keeps_keeps t allowed began event a m between after (held_of t allowed m sound) leaves joins)

  -- a thread's context goes over to a thread that has none
  pub handed_keeps :
      context_under (object_of m to) ≡ None
      → ((id : ObjId) → context_under (object_of m from) ≡ Some id → MayHand t allowed began a m from to id)
      → Keeps t allowed began event a m (with_handed m from to)
  unfolding with_handed
  handed_keeps free may = by_content (object_of m from) refl where
    stays : context_under (object_of m from) ≡ None → Keeps t allowed began event a m (with_handed m from to)
    stays none = rw none (unchanged t allowed began event a m (held_of t allowed m sound))

    by_link :
        (tcb : Tcb) (link : Option ObjId) → IsThread m from tcb → tcb.context ≡ link
        → Keeps t allowed began event a m (with_handed m from to)
    by_link tcb None there is = stays (ap context_under there ∙ is)
    by_link tcb (Some id) there is =
        let runs : context_under (object_of m from) ≡ Some id = ap context_under there ∙ is in
        let w = sound.well_formed.links.thread_context from id tcb there is in
        rw runs (hands id tcb w.0 there is w.1
        (λ same. none-some id (sym free ∙ ap (λ (q : ObjId). context_under (object_of m q)) same ∙ runs)) (may id runs))

    by_content : (content : Option Object) → object_of m from ≡ content → Keeps t allowed began event a m (with_handed m from to)
    by_content (Some (o.Tcb tcb)) e = by_link tcb tcb.context e refl
    by_content None e = stays (ap context_under e)
    by_content (Some _) e = stays (ap context_under e)
