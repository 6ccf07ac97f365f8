-- The boot state of a table, read off the table: its objects with their links, their kinds and their labels.
use Rattle.std.proofs.Common.{ℕ, ◌<◌, ◌∙◌, ◌≡◌, None, Option, Some, ap, false, if◌then◌else◌, length, nat_lt, option_and_then}
use Rattle.std.proofs.{Common.{option_map, refl, subst, sym, true}, lemmas.{Bool.Decides.Decides-ltb, Option.get_or_from_slice_get}}
use Rattle.{std.proofs.lemmas.Option.{none-some, same_Some, slice_get_within}, base.specs.declared.{ids.ObjId.ObjId, kind.Kind.Kind}}
use Rattle.machine.specs.declared.{layout.Initial.Initial, object.Object.Object, thread.RunState.{RunState, RunState as state}}
use Rattle.machine.specs.{Authority.{context_lent, label_at, label_of, state_links}, Boot.{IsBoot, booted, bound}}
use Rattle.machine.specs.{Layout.{Layout, declared_label, initial_of}, Machine.{Machine, object_of}, Objects.{address_of, kind_of_object}}
use Rattle.{machine.{specs.WellFormed.kind_of, proofs.Bound.kind-bound}, table.specs.Rules.{IsAtRest, IsLawful, IsObjectOf, kind_at}}

-- an object of the boot state is a declared one with its links
pub record Declared (t : Layout) (id : ObjId) (object : Object) : Type 0 where
  pub initial : Initial
  pub declares : initial_of t id ≡ Some initial
  pub object_is : object ≡ bound t id initial.object

pub declared_at :
    (t : Layout) (m : Machine) → IsBoot t m → (id : ObjId) (object : Object) → object_of m id ≡ Some object
    → Declared t id object
declared_at t m boot id object at = by_initial (initial_of t id) refl (sym (boot.objects id) ∙ at) where
  by_initial :
      (initial : Option Initial) → initial_of t id ≡ initial
      → option_map (λ (i : Initial). bound t id i.object) (initial_of t id) ≡ Some object → Declared t id object
  by_initial None is e = absurd (none-some object (sym (ap (option_map (λ (i : Initial). bound t id i.object)) is) ∙ e))
  by_initial (Some initial) is e =
      record { initial = initial; declares = is; object_is = sym (same_Some (bound t id initial.object) object (sym (ap (option_map (λ (i : Initial). bound t id i.object)) is) ∙ e)) }

-- kinds and labels are the declared ones

pub boot_kind : (t : Layout) (m : Machine) → IsBoot t m → (id : ObjId) → kind_of m id ≡ kind_at t id
unfolding kind_at
boot_kind t m boot id = ap (option_map kind_of_object) (boot.objects id) ∙ by_initial (initial_of t id) where
  by_initial :
      (initial : Option Initial)
      → option_map kind_of_object (option_map (λ (i : Initial). bound t id i.object) initial) ≡ option_map
      (λ (i : Initial). kind_of_object i.object) initial
  by_initial None = refl
  by_initial (Some initial) = ap Some (kind-bound t id initial.object)

initial_below : (t : Layout) (id : ObjId) (initial : Initial) → initial_of t id ≡ Some initial → id.0 < length t.objects
unfolding initial_of
initial_below t id initial e = slice_get_within t.objects id.0 initial e

pub boot_label : (t : Layout) (m : Machine) → IsBoot t m → (id : ObjId) → label_of t m id ≡ declared_label t id
unfolding label_of declared_label
boot_label t m boot id = ap labelled (boot.objects id) ∙ by_initial (initial_of t id) refl where
  labelled : Option Object → Option ℕ
  labelled =
      option_and_then
      (λ (object : Object). if nat_lt id.0 (length t.objects) then declared_label t id else label_at t (address_of object))

  by_initial :
      (initial : Option Initial) → initial_of t id ≡ initial
      → labelled (booted t id) ≡ option_map (λ (i : Initial). i.label) (initial_of t id)
  by_initial None e = rw e refl
  by_initial (Some initial) e =
      let below : nat_lt id.0 (length t.objects) ≡ true =
      (Decides-ltb id.0 (length t.objects)).1 (initial_below t id initial e) in
      rw (e, below) refl

pub initial_lawful :
    (t : Layout) → IsLawful t → (id : ObjId) (initial : Initial) → initial_of t id ≡ Some initial → IsObjectOf (length t.labels) initial
unfolding initial_of
initial_lawful t lawful id initial e =
    subst (IsObjectOf (length t.labels)) (get_or_from_slice_get t.objects id.0 initial initial e)
    (lawful.draft.objects.each id.0 initial (slice_get_within t.objects id.0 initial e))

-- a thread at rest has no recorded rights
pub rest_links : (run : RunState) (k : Kind) (end : ObjId) → IsAtRest run → state_links run k end ≡ false
rest_links state.Ready k end rest = refl
rest_links state.Inactive k end rest = refl
rest_links _ k end rest = absurd rest

-- a thread at rest lends nothing
pub rest_lends : (run : RunState) → IsAtRest run → context_lent run ≡ None
rest_lends state.Ready rest = refl
rest_lends state.Inactive rest = refl
rest_lends _ rest = absurd rest

pub label_declared :
    (t : Layout) (id : ObjId) (initial : Initial) → initial_of t id ≡ Some initial → declared_label t id ≡ Some initial.label
unfolding declared_label
label_declared t id initial e = ap (option_map (λ (i : Initial). i.label)) e
