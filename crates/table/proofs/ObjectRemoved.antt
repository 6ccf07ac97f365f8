-- That a draft without its last object is a draft, and admits that object.
use Rattle.std.proofs.Common.{ℕ, ◌+◌, ◌<◌, ◌||◌, ◌∙◌, ◌≡◌, ◌≢◌, ◌≤◌, ◌⊎◌, Bool, List, arith, cond}
use Rattle.std.proofs.Common.{false, get_or, inl, inr, length, nat_lt, not, refl, subst, sym, true}
use Rattle.std.proofs.lemmas.Bool.{Decides.nat_tests, and_from, and_parts, cases_lt, eq-eqb, false_from_ne_true, false≢true}
use Rattle.std.proofs.lemmas.{Bool.{le-leb, lt-ltb, ltb-true, not_from_false}, List.{Sums.sum_by_push, length_push}, Nat.pow_pos}
use Rattle.{base.specs.declared.limits.TheConstants.{MAX_OBJECTS, MAX_SLOTS, MAX_THREADS}, words.specs.Name.is_name}
use Rattle.machine.specs.declared.{layout.Initial.Initial, object.Object.{Object, Object as o}}
use Rattle.machine.specs.{Layout.Layout, Objects.{address_of, end_of, slot_count}}
use Rattle.table.specs.{Building.{AdmitsObject, has_control, has_room, is_free, repeats_control, with_initial}, Items.BeforeCaps}
use Rattle.table.specs.{Names.object_named, Placement.{IsApart, meets}, Rules.{BindingsFit, CapsFit, IsDraft, IsObjectOf, PairsFit}}
use Rattle.table.{specs.Rules.{is_control_of, is_tcb, slots_in, threads_in}, proofs.DraftKept.{no_bindings, no_caps, no_pairs}}
use Rattle.table.proofs.{FrontLemmas.{all_front, no_place, none_passes, pairs_front}, NameLemmas.is_some-option_map}

-- an object has a first byte, or lies at no address
starts_below : (object : Object) → (address_of object < end_of object) ⊎ (end_of object ≡ 0)
starts_below (o.Untyped memory) = inl (omega (arith, pow_pos memory.bits))
starts_below (o.CNode node) = inl (omega (arith, pow_pos (node.radix + 5)))
starts_below (o.Tcb _) = inl (omega arith)
starts_below (o.Endpoint _) = inl (omega arith)
starts_below (o.Notification _) = inl (omega arith)
starts_below (o.Reply _) = inl (omega arith)
starts_below (o.Context _) = inl (omega arith)
starts_below (o.Frame _) = inl (omega arith)
starts_below (o.Control _) = inr refl

-- objects that share no address don't meet
apart_meets : (one other : Object) → IsApart one other → meets one other ≡ false
apart_meets one other apart =
    false_from_ne_true (meets one other)
    (λ both.
    let parts = and_parts _ _ both in
    by (ltb-true _ _ parts.0) (ltb-true _ _ parts.1) (starts_below one) (starts_below other)
    (cases_lt (address_of one) (address_of other)))
  where
    by :
        address_of one < end_of other → address_of other < end_of one → (address_of one < end_of one) ⊎ (end_of one ≡ 0)
        → (address_of other < end_of other) ⊎ (end_of other ≡ 0)
        → (address_of one < address_of other) ⊎ (address_of other ≤ address_of one) → ⊥
    by below above (inl first) (inl second) (inl lower) = apart (address_of other) (omega arith, above) (omega arith, second)
    by below above (inl first) (inl second) (inr upper) = apart (address_of one) (omega arith, first) (upper, below)
    by below above (inr nowhere) second order = omega arith
    by below above (inl first) (inr nowhere) order = omega arith

no_repeat :
    (t : Layout) (object : Object)
    → ((k : ℕ) (d : Initial) → k < length t.objects → (core : ℕ) → is_control_of (get_or t.objects k d).object core ≡ true
    → is_control_of object core ≡ false)
    → repeats_control t object ≡ false
unfolding has_control
no_repeat t (o.Control control) differ =
    none_passes (λ initial. is_control_of initial.object control.core) t.objects
    (λ k d within.
    false_from_ne_true _ (λ at. false≢true (sym (differ k d within control.core at) ∙ eq-eqb control.core control.core refl)))
no_repeat t (o.Untyped _) differ = refl
no_repeat t (o.CNode _) differ = refl
no_repeat t (o.Tcb _) differ = refl
no_repeat t (o.Endpoint _) differ = refl
no_repeat t (o.Notification _) differ = refl
no_repeat t (o.Reply _) differ = refl
no_repeat t (o.Context _) differ = refl
no_repeat t (o.Frame _) differ = refl

-- one thread more is within the limit
threads_fit : (threads : ℕ) (thread : Bool) → threads + cond thread 1 0 ≤ MAX_THREADS → (nat_lt threads MAX_THREADS || not thread) ≡ true
threads_fit threads true few = grind (arith, nat_tests)
threads_fit threads false few = grind (arith, nat_tests)

pub object_removed :
    (t : Layout) (name : List ℕ) (initial : Initial) → BeforeCaps t → IsDraft (with_initial t name initial)
    → IsDraft t × AdmitsObject t name initial
unfolding object_named has_room is_free
object_removed t name initial empty h =
    let size = length_push t.objects initial in
    let sizes = length_push t.names name in
    let named = h.objects.named in
    let few = h.objects.few in
    let slots = sum_by_push (λ (i : Initial). slot_count i.object) t.objects initial in
    let fit = h.objects.few_slots in
    let threads = sum_by_push (λ (i : Initial). cond (is_tcb i.object) 1 0) t.objects initial in
    let run = h.objects.few_threads in
    let within : length t.objects < MAX_OBJECTS = omega arith in
    let fewer : slots_in t.objects + slot_count initial.object ≤ MAX_SLOTS = omega arith in
    let alive : threads_in t.objects + cond (is_tcb initial.object) 1 0 ≤ MAX_THREADS = omega arith in
    let spelled = all_front (λ other. is_name other ≡ true) t.names name h.objects.spelled in
    let differ = pairs_front ◌≢◌ t.names name h.objects.differ in
    let each = all_front (IsObjectOf (length t.labels)) t.objects initial h.objects.each in
    let apart = pairs_front (λ one other. IsApart one.object other.object) t.objects initial h.objects.apart in
    let controls =
    pairs_front (λ one other. (core : ℕ) → is_control_of one.object core ≡ true → is_control_of other.object core ≡ false)
    t.objects initial h.objects.controls_differ in (
      record {
        labels = h.labels;
        objects = record {
          spelled = spelled.0;
          differ = differ.0;
          named = omega arith;
          few = omega arith;
          few_slots = omega arith;
          few_threads = omega arith;
          each = each.0;
          apart = apart.0;
          controls_differ = controls.0;
        };
        caps = subst (CapsFit t.objects) (sym empty.0) (no_caps t.objects);
        pairs = subst (PairsFit t.objects) (sym empty.1.0) (no_pairs t.objects);
        bindings = subst (BindingsFit t.objects) (sym empty.1.1) (no_bindings t.objects);
      },
      record {
        spelled = spelled.1;
        fresh = is_some-option_map _ _ ∙ no_place name t.names differ.1;
        label = each.1.label;
        blank = each.1.blank;
        controls = no_repeat t initial.object controls.1;
        room = and_from _ _ (and_from _ _ (lt-ltb _ _ within) (le-leb _ _ fewer)) (threads_fit _ (is_tcb initial.object) alive);
        end = each.1.end;
        aligned = each.1.aligned;
        free =
            not_from_false _
            (none_passes (λ one. meets one.object initial.object) t.objects
            (λ k d within. apart_meets (get_or t.objects k d).object initial.object (apart.1 k d within)));
      },
    )
