-- That a draft stays a draft when an object is added.
use Rattle.std.proofs.Common.{[], ℕ, ◌&&◌, ◌++◌, ◌+◌, ◌<◌, ◌||◌, ◌∙◌, ◌∷◌, ◌≡◌, ◌≢◌, ◌≤◌, Bool, List}
use Rattle.std.proofs.Common.{ap, arith, cond, false, get_or, length, nat_le, nat_lt, not, sym, true}
use Rattle.std.proofs.lemmas.Bool.{Decides.nat_tests, and_parts, eqb-true, false_from_ne_true, false≢true, leb-true, ltb-true, not-true}
use Rattle.std.proofs.lemmas.List.{Elements.All-push, Quantifiers.all_pairs_push, Sums.sum_by_push, length_push}
use Rattle.{base.specs.declared.limits.TheConstants.{MAX_OBJECTS, MAX_SLOTS, MAX_THREADS}, words.specs.Name.is_name}
use Rattle.machine.specs.declared.{layout.Initial.Initial, object.Object.{Object, Object as o}}
use Rattle.machine.specs.{Layout.Layout, Objects.{address_of, end_of, slot_count}}
use Rattle.table.specs.{Building.{AdmitsObject, has_control, has_room, is_free, repeats_control, with_initial}, Names.object_named}
use Rattle.table.specs.{Placement.{IsApart, meets}, Rules.{IsDraft, IsObjectOf, is_control_of, is_tcb, slots_in, threads_in}}
use Rattle.table.proofs.{DraftKept.{Keeps, bindings_kept, caps_kept, pairs_kept}, LabelAdded.differs}
use Rattle.table.proofs.{ListLemmas.{not_any, slice_get-append_left}, NameLemmas.is_some-option_map}

pub apart_from_meets : (one other : Object) → meets one other ≡ false → IsApart one other
apart_from_meets one other misses address in_one in_other =
    far (address_of one) (end_of one) (address_of other) (end_of other) address misses in_one.0 in_one.1 in_other.0 in_other.1
  where
    far : (a b c d x : ℕ) → (nat_lt a d && nat_lt c b) ≡ false → a ≤ x → x < b → c ≤ x → x < d → ⊥
    far a b c d x misses low high low2 high2 = grind (arith, nat_tests)

-- an object that controls a core is that core's control
control_at :
    (t : Layout) (object : Object) (core : ℕ) → repeats_control t object ≡ false → is_control_of object core ≡ true
    → has_control t core ≡ false
control_at t (o.Control control) core once at = ap (has_control t) (sym (eqb-true control.core core at)) ∙ once
control_at t (o.Untyped _) core once at = absurd (false≢true at)
control_at t (o.CNode _) core once at = absurd (false≢true at)
control_at t (o.Tcb _) core once at = absurd (false≢true at)
control_at t (o.Endpoint _) core once at = absurd (false≢true at)
control_at t (o.Notification _) core once at = absurd (false≢true at)
control_at t (o.Reply _) core once at = absurd (false≢true at)
control_at t (o.Context _) core once at = absurd (false≢true at)
control_at t (o.Frame _) core once at = absurd (false≢true at)

-- an object for which there is room leaves the three counts within their limits
within_limits :
    (objects slots more threads : ℕ) (thread : Bool)
    → ((nat_lt objects MAX_OBJECTS && nat_le (slots + more) MAX_SLOTS) && (nat_lt threads MAX_THREADS || not thread)) ≡ true → threads ≤ MAX_THREADS
    → (objects < MAX_OBJECTS) × (slots + more ≤ MAX_SLOTS) × (threads + cond thread 1 0 ≤ MAX_THREADS)
within_limits objects slots more threads thread e few =
    let parts = and_parts _ _ e in
    let counts = and_parts _ _ parts.0 in
    (ltb-true _ _ counts.0, leb-true _ _ counts.1, more_threads thread parts.1) where
      more_threads : (thread : Bool) → (nat_lt threads MAX_THREADS || not thread) ≡ true → threads + cond thread 1 0 ≤ MAX_THREADS
      more_threads true e = grind (arith, nat_tests)
      more_threads false e = omega arith

pub draft_initial :
    (t : Layout) (name : List ℕ) (initial : Initial) → IsDraft t → AdmitsObject t name initial
    → IsDraft (with_initial t name initial)
unfolding object_named has_room is_free has_control
draft_initial t name initial h admits = record {
  labels = h.labels;
  objects = record {
    spelled = All-push (λ other. is_name other ≡ true) t.names name h.objects.spelled admits.spelled;
    differ =
        all_pairs_push ◌≢◌ t.names name h.objects.differ
        (differs name t.names (sym (is_some-option_map _ _) ∙ admits.fresh));
    named = length_push t.names name ∙ ap (λ n. n + 1) h.objects.named ∙ sym (length_push t.objects initial);
    few = let size = length_push t.objects initial in let room = limits.0 in omega arith;
    few_slots =
        let total = sum_by_push (λ (i : Initial). slot_count i.object) t.objects initial in
        let room = limits.1 in omega arith;
    few_threads =
        let total = sum_by_push (λ (i : Initial). cond (is_tcb i.object) 1 0) t.objects initial in
        let room = limits.2 in omega arith;
    each =
        All-push (IsObjectOf (length t.labels)) t.objects initial h.objects.each
        (record { label = admits.label; blank = admits.blank; aligned = admits.aligned; end = admits.end });
    apart =
        all_pairs_push (λ one other. IsApart one.object other.object) t.objects initial h.objects.apart
        (λ k d within.
        apart_from_meets (get_or t.objects k d).object initial.object
        (not_any (λ i. meets i.object initial.object) t.objects (not-true _ admits.free) k d within));
    controls_differ =
        all_pairs_push
        (λ one other. (core : ℕ) → is_control_of one.object core ≡ true → is_control_of other.object core ≡ false)
        t.objects initial h.objects.controls_differ
        (λ k d within core at.
        other_core (get_or t.objects k d) core at
        (λ at2.
        not_any (λ i. is_control_of i.object core) t.objects (control_at t initial.object core admits.controls at2) k d within));
  };
  caps = caps_kept t.objects _ keeps t.caps h.caps;
  pairs = pairs_kept t.objects _ keeps t.pairs h.pairs;
  bindings = bindings_kept t.objects _ keeps t.bindings h.bindings;
} where
  keeps : Keeps t.objects (t.objects ++ initial ∷ [])
  keeps k found at = slice_get-append_left t.objects (initial ∷ []) k found at

  limits :
      (length t.objects < MAX_OBJECTS) × (slots_in t.objects + slot_count initial.object ≤ MAX_SLOTS)
      × (threads_in t.objects + cond (is_tcb initial.object) 1 0 ≤ MAX_THREADS)
  limits =
      within_limits (length t.objects) (slots_in t.objects) (slot_count initial.object) (threads_in t.objects) (is_tcb initial.object)
      admits.room h.objects.few_threads

  other_core :
      (one : Initial) (core : ℕ) → is_control_of one.object core ≡ true
      → (is_control_of initial.object core ≡ true → is_control_of one.object core ≡ false)
      → is_control_of initial.object core ≡ false
  other_core one core at misses =
      false_from_ne_true (is_control_of initial.object core) (λ at2. false≢true (sym (misses at2) ∙ at))
