-- That a draft without its last binding is a draft, and admits that binding.
use Rattle.std.proofs.Common.{ℕ, ◌-◌, ◌<◌, ◌≡◌, ◌≢◌, None, Option, Some, get_or, length, refl, slice_get, true}
use Rattle.std.proofs.lemmas.Bool.{false_from_ne_true, lt-ltb}
use Rattle.machine.{specs.{declared.layout.Binding.Binding, Layout.{Layout, initial_of}, Machine.same_id}, proofs.LookUps.one_id}
use Rattle.table.specs.{Building.{AdmitsBinding, is_above_bindings, is_above_bound, is_bound, with_binding}, Rules.{IsBindingOf, IsDraft}}
use Rattle.table.{specs.Rules.kind_at, proofs.FrontLemmas.{all_front, at_last, none_passes, pairs_front}}

rises :
    (t : Layout) (binding : Binding)
    → ((k : ℕ) (d : Binding) → k < length t.bindings → (get_or t.bindings k d).thread.0 < binding.thread.0)
    → is_above_bindings t binding.thread ≡ true
unfolding is_above_bindings
rises t binding below = by (slice_get t.bindings (length t.bindings - 1)) refl where
  by : (last : Option Binding) → slice_get t.bindings (length t.bindings - 1) ≡ last → is_above_bound last binding.thread ≡ true
  by None at = refl
  by (Some last) at = lt-ltb _ _ (at_last (λ one. one.thread.0 < binding.thread.0) t.bindings last below at)

pub binding_removed : (t : Layout) (binding : Binding) → IsDraft (with_binding t binding) → IsDraft t × AdmitsBinding t binding
unfolding initial_of kind_at is_bound
binding_removed t binding h =
    let each = all_front (IsBindingOf t.objects) t.bindings binding h.bindings.each in
    let rise = pairs_front (λ one other. one.thread.0 < other.thread.0) t.bindings binding h.bindings.rise in
    let differ = pairs_front (λ one other. one.context ≢ other.context) t.bindings binding h.bindings.contexts_differ in (
      record {
        labels = h.labels;
        objects = h.objects;
        caps = h.caps;
        pairs = h.pairs;
        bindings = record { each = each.0; rise = rise.0; contexts_differ = differ.0 };
      },
      record {
        rises = rises t binding rise.1;
        thread = each.1.thread;
        context = each.1.context;
        once =
            none_passes (λ other. same_id other.context binding.context) t.bindings
            (λ k d within. false_from_ne_true _ (λ tie. differ.1 k d within (one_id _ _ tie)));
      },
    )
