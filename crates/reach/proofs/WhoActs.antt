-- The search for labels that act: those that act from boot on are the labels of ready threads that bindings name.
use Rattle.std.{specs.Option.option_and_then, proofs.Common.{[], ℕ, ◌&&◌, ◌+◌, ◌==◌, ◌||◌, ◌↔◌, ◌∙◌, ◌∷◌, ◌≡◌, ◌≤◌, ◌⊎◌}}
use Rattle.std.proofs.Common.{Bool, None, Option, Some, ap, arith, cond, false, inl, inr, length, refl, slice_get, sym, true}
use Rattle.std.proofs.lemmas.Bool.{and_from, and_parts, eq-eqb, eqb-true, false≢true, or_cases, or_left, or_right}
use Rattle.std.proofs.lemmas.Option.{none-some, same_Some, slice_get_within}
use Rattle.base.specs.{declared.{ids.ObjId.ObjId, kind.Kind.TheVariants.Control, labels.Labels.Labels}, Labels.is_in}
use Rattle.machine.specs.declared.{layout.{Binding.Binding, Initial.Initial}, object.Object.{Object, Object as o}}
use Rattle.machine.specs.{declared.thread.{RunState.{RunState, RunState as state}, Tcb.Tcb}, Layout.{Layout, initial_of}}
use Rattle.{machine.specs.Objects.kind_of_object, table.{specs.Rules.IsLawful, proofs.Lookups.{bound_at, bound_from}}}
use Rattle.policy.{specs.{Domain.EdgeTest, Steps.IsTarget}, proofs.Stepping.{IsBelow, more_below, none_more, only_kind, target_by}}
use Rattle.integrity.specs.Acting.{MayAct, MayHaveThreads, Starts}
use Rattle.reach.specs.Acting.{IsActor, has_threads, is_ready, is_ready_state, ready_label}
use Rattle.machine.specs.declared.object.ObjectKind.TheVariants as kind

-- what it is to be ready

ready_state : (s : RunState) → is_ready_state s ≡ true → s ≡ state.Ready
ready_state state.Ready is = refl
ready_state _ is = absurd (false≢true is)

ready_thread :
    (object : Object) → is_ready object ≡ true
    → (thread : Tcb) × (object ≡ o.Tcb thread) × (thread.state ≡ state.Ready)
ready_thread (o.Tcb thread) is = (thread, refl, ready_state thread.state is)
ready_thread _ is = absurd (false≢true is)

thread_ready :
    (object : Object) (thread : Tcb) → object ≡ o.Tcb thread → thread.state ≡ state.Ready → is_ready object ≡ true
thread_ready object thread is ready = ap is_ready is ∙ ap is_ready_state ready

-- the initial object of a ready thread of this label
record IsOfReady (t : Layout) (id : ObjId) (a : ℕ) : Type 0 where
  pub initial : Initial
  pub declares : initial_of t id ≡ Some initial
  pub labelled : initial.label ≡ a
  pub ready : is_ready initial.object ≡ true

of_ready : (t : Layout) (id : ObjId) (a : ℕ) → ready_label t id ≡ Some a → IsOfReady t id a
of_ready t id a is = by (initial_of t id) refl is where
  at :
      (initial : Initial) (ready : Bool) → initial_of t id ≡ Some initial → is_ready initial.object ≡ ready
      → cond ready (Some initial.label) None ≡ Some a → IsOfReady t id a
  at initial true declares ready is =
      record { initial = initial; declares = declares; labelled = same_Some initial.label a is; ready = ready }
  at initial false declares ready is = absurd (none-some a is)

  by :
      (found : Option Initial) → initial_of t id ≡ found
      → option_and_then (λ initial. cond (is_ready initial.object) (Some initial.label) None) found ≡ Some a
      → IsOfReady t id a
  by None declares is = absurd (none-some a is)
  by (Some initial) declares is = at initial (is_ready initial.object) declares refl is

ready_of :
    (t : Layout) (id : ObjId) (initial : Initial) (a : ℕ) → initial_of t id ≡ Some initial → initial.label ≡ a
    → is_ready initial.object ≡ true → ready_label t id ≡ Some a
ready_of t id initial a declares labelled ready =
    ap (option_and_then (λ other. cond (is_ready other.object) (Some other.label) None)) declares
    ∙ ap (λ b. cond b (Some initial.label) None) ready ∙ ap Some labelled

-- the binding at this place is of a ready thread of this label
pub record HasReady (t : Layout) (a k : ℕ) : Type 0 where
  pub binding : Binding
  pub here : slice_get t.bindings k ≡ Some binding
  pub ready : ready_label t binding.thread ≡ Some a

-- one more binding
module _ (t : Layout) (a n : ℕ) (binding : Binding) (here : slice_get t.bindings n ≡ Some binding) where
  ready_here : HasReady t a n → ready_label t binding.thread ≡ Some a
  ready_here has = ap (λ b. ready_label t b.thread) (same_Some binding has.binding (sym here ∙ has.here)) ∙ has.ready

  pub one_ready :
      (label : ℕ) (before : Bool) → ready_label t binding.thread ≡ Some label → (before ≡ true) ↔ IsBelow (HasReady t a) n
      → ((before || (a == label)) ≡ true) ↔ IsBelow (HasReady t a) (n + 1)
  one_ready label before is so_far =
      more_below n before (a == label) so_far
      (λ same. record { binding = binding; here = here; ready = is ∙ ap Some (sym (eqb-true a label same)) })
      (λ has. eq-eqb a label (same_Some a label (sym (ready_here has) ∙ is)))

  pub none_ready :
      (before : Bool) → ready_label t binding.thread ≡ None → (before ≡ true) ↔ IsBelow (HasReady t a) n
      → (before ≡ true) ↔ IsBelow (HasReady t a) (n + 1)
  none_ready before is so_far = none_more n before so_far (λ has. none-some a (sym is ∙ ready_here has))

module _ (t : Layout) (lawful : IsLawful t) (a : ℕ) where
  -- all bindings
  pub starts_from : (n : ℕ) → IsBelow (HasReady t a) n → Starts t a
  starts_from n below =
      let has = below.2 in
      let ready = of_ready t has.binding.thread a has.ready in
      let thread = ready_thread ready.initial.object ready.ready in record {
        id = has.binding.thread;
        initial = ready.initial;
        declares = ready.declares;
        labelled = ready.labelled;
        thread = thread.0;
        is_thread = thread.1;
        ready = thread.2;
        context = has.binding.context;
        runs = bound_from t lawful below.0 has.binding has.here;
      }

  pub starts_below : (n : ℕ) → length t.bindings ≤ n → Starts t a → IsBelow (HasReady t a) n
  starts_below n all starts =
      let bound = bound_at t starts.id starts.context starts.runs in (
        bound.at,
        omega (arith, slice_get_within t.bindings bound.at bound.element bound.here, all),
        record {
          binding = bound.element;
          here = bound.here;
          ready =
              ap (ready_label t) bound.key_is
              ∙ ready_of t starts.id starts.initial a starts.declares starts.labelled
              (thread_ready starts.initial.object starts.thread starts.is_thread starts.ready);
        },
      )

-- a label acts from boot on, or a label that does controls it
pub found_actors :
    (t : Layout) (allowed : EdgeTest) (starting controlled both : Labels)
    → ((a : ℕ) → is_in both a ≡ (is_in starting a || is_in controlled a))
    → ((a : ℕ) → (is_in starting a ≡ true) ↔ Starts t a)
    → ((a : ℕ) → (is_in controlled a ≡ true) ↔ IsTarget allowed (Control ∷ []) starting a)
    → (a : ℕ) → (is_in both a ≡ true) ↔ (Starts t a ⊎ ((b : ℕ) × Starts t b × (allowed b Control a ≡ true)))
found_actors t allowed starting controlled both union starts targets a = (forth, back) where
  forth : is_in both a ≡ true → Starts t a ⊎ ((b : ℕ) × Starts t b × (allowed b Control a ≡ true))
  forth is = elim (or_cases (is_in starting a) (is_in controlled a) (sym (union a) ∙ is)) [
    | inl first ↦ inl ((starts a).0 first)
    | inr later ↦
        let target = (targets a).0 later in
        inr (target.from, (starts target.from).0 target.among, only_kind allowed Control target.from a target.joined)
  ]

  back : Starts t a ⊎ ((b : ℕ) × Starts t b × (allowed b Control a ≡ true)) → is_in both a ≡ true
  back (inl first) = union a ∙ or_left (is_in starting a) (is_in controlled a) ((starts a).1 first)
  back (inr by) =
      union a
      ∙ or_right (is_in starting a) (is_in controlled a)
      ((targets a).1 (target_by allowed Control starting by.0 a ((starts by.0).1 by.1) by.2))

-- the object at this place is of this label, and a thread or memory of which threads can be made
pub record HasSource (t : Layout) (a k : ℕ) : Type 0 where
  pub initial : Initial
  pub here : slice_get t.objects k ≡ Some initial
  pub labelled : initial.label ≡ a
  pub source : has_threads initial.object ≡ true

source_kind :
    (object : Object) → has_threads object ≡ true
    → (kind_of_object object ≡ kind.Tcb) ⊎ (kind_of_object object ≡ kind.Untyped)
source_kind (o.Tcb thread) is = inl refl
source_kind (o.Untyped memory) is = inr refl
source_kind _ is = absurd (false≢true is)

kind_source :
    (object : Object) → (kind_of_object object ≡ kind.Tcb) ⊎ (kind_of_object object ≡ kind.Untyped) → has_threads object ≡ true
kind_source (o.Tcb thread) is = refl
kind_source (o.Untyped memory) is = refl
kind_source _ (inl is) = cc
kind_source _ (inr is) = cc

-- one more object
module _ (t : Layout) (a n : ℕ) (initial : Initial) (here : slice_get t.objects n ≡ Some initial) where
  source_is : HasSource t a n → (initial.label ≡ a) × (has_threads initial.object ≡ true)
  source_is has =
      let same = same_Some initial has.initial (sym here ∙ has.here) in
      (ap (λ (i : Initial). i.label) same ∙ has.labelled, ap (λ (i : Initial). has_threads i.object) same ∙ has.source)

  pub one_source :
      (before : Bool) → has_threads initial.object ≡ true → (before ≡ true) ↔ IsBelow (HasSource t a) n
      → ((before || (a == initial.label)) ≡ true) ↔ IsBelow (HasSource t a) (n + 1)
  one_source before source so_far =
      more_below n before (a == initial.label) so_far
      (λ same. record { initial = initial; here = here; labelled = sym (eqb-true a initial.label same); source = source })
      (λ has. eq-eqb a initial.label (sym (source_is has).0))

  pub no_source :
      (before : Bool) → has_threads initial.object ≡ false → (before ≡ true) ↔ IsBelow (HasSource t a) n
      → (before ≡ true) ↔ IsBelow (HasSource t a) (n + 1)
  no_source before none so_far = none_more n before so_far (λ has. false≢true (sym none ∙ (source_is has).1))

-- all objects
module _ (t : Layout) (a : ℕ) where
  pub threads_from : (n : ℕ) → IsBelow (HasSource t a) n → MayHaveThreads t a
  unfolding initial_of
  threads_from n below =
      let has = below.2 in record {
        id = record { 0 = below.0 };
        initial = has.initial;
        declares = has.here;
        labelled = has.labelled;
        is_source = source_kind has.initial.object has.source;
      }

  pub threads_below : (n : ℕ) → length t.objects ≤ n → MayHaveThreads t a → IsBelow (HasSource t a) n
  unfolding initial_of
  threads_below n all threads = (
    threads.id.0,
    omega (arith, slice_get_within t.objects threads.id.0 threads.initial threads.declares, all),
    record {
      initial = threads.initial;
      here = threads.declares;
      labelled = threads.labelled;
      source = kind_source threads.initial.object threads.is_source;
    },
  )

-- the labels that act and may have threads are those whose threads make calls
pub both_actors :
    (t : Layout) (allowed : EdgeTest) (acting threads both : Labels)
    → ((a : ℕ) → is_in both a ≡ (is_in acting a && is_in threads a))
    → ((a : ℕ) → (is_in acting a ≡ true) ↔ MayAct t allowed a)
    → ((a : ℕ) → (is_in threads a ≡ true) ↔ MayHaveThreads t a)
    → (a : ℕ) → (is_in both a ≡ true) ↔ IsActor t allowed a
both_actors t allowed acting threads both meets acts have a = (
  λ is. let parts = and_parts (is_in acting a) (is_in threads a) (sym (meets a) ∙ is) in ((acts a).0 parts.0, (have a).0 parts.1),
  λ actor. meets a ∙ and_from (is_in acting a) (is_in threads a) ((acts a).1 actor.0) ((have a).1 actor.1),
)
