-- That a draft stays a draft when a binding is added.
use Rattle.std.{specs.{List.{find, list_any}, Option.option_or, Ordering.is_eq}, proofs.Common.{[], ℕ, ◌++◌, ◌<◌, ◌||◌, ◌∙◌, ◌∷◌, ◌≡◌, ◌≢◌}}
use Rattle.std.proofs.Common.{Bool, List, None, Option, Some, ap, arith, cond, false, get_or, get_or-set_other, get_or-set_same, is_some}
use Rattle.std.proofs.{Common.{length, option_map, refl, set, sym, true}, lemmas.{Bool.{false≢true, ltb-true}, Cmp.tied_itself}}
use Rattle.std.proofs.lemmas.{List.{Elements.All-push, Folds.find-append, Quantifiers.all_pairs_push}, Option.{none-some, slice_get_within}}
use Rattle.base.specs.declared.{ids.ObjId.ObjId, limits.TheConstants.OBJECT_NUMBERS}
use Rattle.machine.specs.{declared.{layout.{Binding.Binding, Initial.Initial}, object.ObjectKind.ObjectKind}, Layout.{Layout, initial_of}}
use Rattle.machine.{specs.{Machine.same_id, Objects.kind_of_object}, proofs.LookUps.{id_total, one_id}}
use Rattle.table.specs.{Aims.{IsOfThreads, thread_bound_to}, Building.{AdmitsBinding, is_above_bindings, is_above_bound, is_bound}}
use Rattle.table.{specs.{Building.with_binding, Rules.{IsBindingOf, IsDraft, kind_at}}, proofs.ListLemmas.{all_from_last, not_any}}

-- threads below the last bound one are below the new one
below_new :
    (t : Layout) (thread : ObjId) → IsDraft t → is_above_bindings t thread ≡ true → (k : ℕ) (d : Binding) → k < length t.bindings
    → (get_or t.bindings k d).thread.0 < thread.0
unfolding is_above_bindings
below_new t thread h above =
    all_from_last (λ one other. one.thread.0 < other.thread.0) (λ binding. binding.thread.0 < thread.0)
    (λ one other less below. omega arith) t.bindings h.bindings.rise
    (λ last at. ltb-true last.thread.0 thread.0 (sym (ap (λ found. is_above_bound found thread) at) ∙ above))

other_context :
    (t : Layout) (context : ObjId) → is_bound t context ≡ false → (k : ℕ) (d : Binding) → k < length t.bindings
    → (get_or t.bindings k d).context ≢ context
unfolding is_bound
other_context t context once k d within same =
    let missed = not_any (λ binding. same_id binding.context context) t.bindings once k d within in
    false≢true (sym missed ∙ ap (λ id. same_id id context) same ∙ ap is_eq (tied_itself id_total context))

pub draft_binding : (t : Layout) (binding : Binding) → IsDraft t → AdmitsBinding t binding → IsDraft (with_binding t binding)
unfolding initial_of kind_at
draft_binding t binding h admits = record {
  labels = h.labels;
  objects = h.objects;
  caps = h.caps;
  pairs = h.pairs;
  bindings = record {
    each =
        All-push (IsBindingOf t.objects) t.bindings binding h.bindings.each
        (record { thread = admits.thread; context = admits.context });
    rise =
        all_pairs_push (λ one other. one.thread.0 < other.thread.0) t.bindings binding h.bindings.rise
        (below_new t binding.thread h admits.rises);
    contexts_differ =
        all_pairs_push (λ one other. one.context ≢ other.context) t.bindings binding h.bindings.contexts_differ
        (other_context t binding.context admits.once);
  };
}

-- the number of a declared object is small enough
pub context_low :
    (t : Layout) (id : ObjId) (kind : ObjectKind) → IsDraft t → kind_at t id ≡ Some kind → id.0 < OBJECT_NUMBERS
unfolding kind_at initial_of
context_low t id kind h e = by (initial_of t id) refl e where
  by :
      (found : Option Initial) → initial_of t id ≡ found → option_map (λ initial. kind_of_object initial.object) found ≡ Some kind
      → id.0 < OBJECT_NUMBERS
  by None none at = absurd (none-some kind at)
  by (Some initial) some at =
      let within = slice_get_within t.objects id.0 initial some in
      let few = h.objects.few in
      omega arith

-- a context is bound if it has a thread
pub has_thread :
    (bindings : List Binding) (context : ObjId)
    → is_some (thread_bound_to bindings context) ≡ list_any (λ binding. same_id binding.context context) bindings
has_thread [] context = refl
has_thread (binding ∷ bindings) context =
    by (same_id binding.context context) (find (λ b. same_id b.context context) bindings) _ (has_thread bindings context)
  where
    by :
        (same : Bool) (found : Option Binding) (any : Bool) → is_some (option_map (λ (b : Binding). b.thread) found) ≡ any
        → is_some (option_map (λ (b : Binding). b.thread) (cond same (Some binding) found)) ≡ (same || any)
    by true found any e = refl
    by false found any e = e

pub not_bound : (t : Layout) (context : ObjId) → is_bound t context ≡ false → thread_bound_to t.bindings context ≡ None
unfolding is_bound
not_bound t context free = by (thread_bound_to t.bindings context) (has_thread t.bindings context ∙ free) where
  by : (thread : Option ObjId) → is_some thread ≡ false → thread ≡ None
  by None e = refl
  by (Some thread) e = absurd (false≢true (sym e))

-- a new binding gives its context the thread, and changes no other context's thread
thread_added :
    (bindings : List Binding) (binding : Binding) → thread_bound_to bindings binding.context ≡ None → (context : ObjId)
    → thread_bound_to (bindings ++ binding ∷ []) context
    ≡ cond (same_id binding.context context) (Some binding.thread) (thread_bound_to bindings context)
thread_added bindings binding free context =
    ap (option_map (λ (b : Binding). b.thread)) (find-append (λ b. same_id b.context context) bindings (binding ∷ []))
    ∙ by (same_id binding.context context) (find (λ b. same_id b.context context) bindings)
    (λ same. ap (thread_bound_to bindings) (sym (one_id _ _ same)) ∙ free)
  where
    by :
        (same : Bool) (found : Option Binding) → (same ≡ true → option_map (λ (b : Binding). b.thread) found ≡ None)
        → option_map (λ (b : Binding). b.thread) (option_or found (cond same (Some binding) None))
        ≡ cond same (Some binding.thread) (option_map (λ (b : Binding). b.thread) found)
    by true None none = refl
    by true (Some other) none = absurd (none-some _ (sym (none refl)))
    by false None none = refl
    by false (Some other) none = refl

pub threads_with :
    (bindings : List Binding) (binding : Binding) (threads more : List (Option ObjId)) → IsOfThreads bindings threads
    → thread_bound_to bindings binding.context ≡ None → ((k : ℕ) → get_or more k None ≡ get_or threads k None)
    → binding.context.0 < length more
    → IsOfThreads (bindings ++ binding ∷ []) (set more binding.context.0 (Some binding.thread))
threads_with bindings binding threads more kept free same within context =
    by (same_id binding.context context) refl ∙ sym (thread_added bindings binding free context)
  where
    by :
        (is : Bool) → same_id binding.context context ≡ is
        → get_or (set more binding.context.0 (Some binding.thread)) context.0 None
        ≡ cond is (Some binding.thread) (thread_bound_to bindings context)
    by true one =
        ap (λ (id : ObjId). get_or (set more binding.context.0 (Some binding.thread)) id.0 None) (sym (one_id _ _ one))
        ∙ get_or-set_same more binding.context.0 (Some binding.thread) None within
    by false other =
        let ne : context.0 ≢ binding.context.0 =
        λ e. false≢true (sym other ∙ ap (λ id. same_id binding.context id) (λ i. record { 0 = e i }) ∙ ap is_eq (tied_itself id_total binding.context)) in
        get_or-set_other more binding.context.0 context.0 (Some binding.thread) None ne
        ∙ same context.0 ∙ kept context
