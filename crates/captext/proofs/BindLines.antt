-- Lines for bindings: such a line is read just where it is the line of a binding that the table takes next.
use Rattle.std.proofs.Common.{[], ℕ, ◌<◌, ◌∙◌, ◌∷◌, ◌≡◌, List, None, Ok, Option, Some, ap, arith, codes, length, not, option_map, refl, sym}
use Rattle.std.proofs.{Common.true, lemmas.{Bool.{false≢true, not-true}, Option.{none-some, slice_get_within}}}
use Rattle.base.specs.declared.ids.ObjId.{ObjId}
use Rattle.machine.specs.{declared.{layout.{Binding.Binding, Initial.Initial}, object.ObjectKind.ObjectKind}, Layout.{Layout, initial_of}}
use Rattle.machine.specs.declared.object.ObjectKind.TheVariants as kind
use Rattle.machine.specs.Objects.{kind_of_object}
use Rattle.words.{specs.{declared.faults.Wrong.Wrong as wrong, Reading.bind, Text.IsPlainLine}, proofs.Parts.{alone_again, alone_takes}}
use Rattle.words.proofs.WordLaws.{plain_bytes}
use Rattle.table.specs.{Building.{AdmitsBinding, is_above_bindings, is_bound, with_binding}, Items.BindingItem, Names.object_named}
use Rattle.table.specs.Rules.{IsDraft, kind_at}
use Rattle.captext.specs.{TableText.{binding_words, object_name}, Tables.{bind_line, bound, is_thread_and_context, thread_rises}}
use Rattle.captext.proofs.{LineLaws.{TakesItem, same_ok}, NameLaws.{AreNames, is_object_name, names_part, object_again, object_takes}}
use Rattle.captext.proofs.StepLaws.{demand_then, value_then}

pub kinds_take : (thread context : Option ObjectKind) → is_thread_and_context thread context ≡ true
    → (thread ≡ Some kind.Tcb) × (context ≡ Some kind.Context)
kinds_take (Some kind.Tcb) (Some kind.Context) h = (refl, refl)
kinds_take _ _ h = absurd (false≢true h)

pub bind_line_takes : (t : Layout) (words : List (List ℕ)) (next : Layout) → bind_line t words ≡ Ok next
    → TakesItem t (codes "bind" ∷ words) next
unfolding bind_line bound
bind_line_takes t words next h =
    let read = alone_takes names_part (bound t) words next h in
    let above = demand_then (thread_rises t (object_named t read.0.0)) wrong.Syntax _ next read.3 in
    let thread = value_then (object_named t read.0.0) wrong.UnknownName _ next above.1 in
    let context = value_then (object_named t read.0.1) wrong.UnknownName _ next thread.2 in
    let once = demand_then (not (is_bound t context.0)) wrong.Double _ next context.2 in
    let kinds = demand_then (is_thread_and_context (kind_at t thread.0) (kind_at t context.0)) wrong.WrongKind _ next once.1 in
    let are = kinds_take (kind_at t thread.0) (kind_at t context.0) kinds.0 in
    let one = object_takes t read.0.0 thread.0 thread.1 in
    let other = object_takes t read.0.1 context.0 context.1 in
    let rising : is_above_bindings t thread.0 ≡ true = ap (thread_rises t) (sym thread.1) ∙ above.0 in (
      BindingItem (record { thread = thread.0; context = context.0 }),
      record {
        now = tt;
        admits = record { rises = rising; thread = are.0; context = are.1; once = not-true _ once.0 };
        words_are = ap (λ ws. codes "bind" ∷ ws) (read.1 ∙ (λ i. one.1 i ∷ other.1 i ∷ []));
        grown = same_ok _ _ kinds.1;
      },
    )

pub has_name : (t : Layout) (id : ObjId) (kind : ObjectKind) → IsDraft t → kind_at t id ≡ Some kind → id.0 < length t.names
unfolding kind_at initial_of
has_name t id kind draft h = by (initial_of t id) refl h where
  by : (found : Option Initial) → initial_of t id ≡ found
      → option_map (λ (initial : Initial). kind_of_object initial.object) found ≡ Some kind → id.0 < length t.names
  by None at h = absurd (none-some kind h)
  by (Some initial) at h = let within = slice_get_within t.objects id.0 initial at in let each = draft.objects.named in omega arith

-- the words of a binding as they are read

abbrev binding_names : Layout → Binding → List ℕ × List ℕ
binding_names t binding = (object_name t binding.thread, object_name t binding.context)

are_names : (t : Layout) (binding : Binding) → IsDraft t → AdmitsBinding t binding → AreNames (binding_names t binding)
are_names t binding draft admits = (
  is_object_name t binding.thread draft (has_name t binding.thread kind.Tcb draft admits.thread),
  is_object_name t binding.context draft (has_name t binding.context kind.Context draft admits.context),
)

bound_again : (t : Layout) (binding : Binding) → IsDraft t → AdmitsBinding t binding
    → bound t (binding_names t binding) ≡ Ok (with_binding t binding)
unfolding bound bind
bound_again t binding draft admits =
    rw (
      object_again t binding.thread draft (has_name t binding.thread kind.Tcb draft admits.thread),
      object_again t binding.context draft (has_name t binding.context kind.Context draft admits.context),
      admits.rises,
      admits.once,
      admits.thread,
      admits.context,
    ) refl

pub bind_line_again : (t : Layout) (binding : Binding) → IsDraft t → AdmitsBinding t binding
    → bind_line t (object_name t binding.thread ∷ object_name t binding.context ∷ []) ≡ Ok (with_binding t binding)
unfolding bind_line
bind_line_again t binding draft admits =
    alone_again names_part (bound t) (binding_names t binding) (are_names t binding draft admits) ∙ bound_again t binding draft admits

pub binding_plain : (t : Layout) (binding : Binding) → IsDraft t → AdmitsBinding t binding → IsPlainLine (binding_words t binding)
binding_plain t binding draft admits =
    (plain_bytes (codes "bind") refl, names_part.plain (binding_names t binding) (are_names t binding draft admits))
