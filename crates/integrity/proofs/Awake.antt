-- Blocked threads act: the label of each may act and may have threads, so each test that holds of all such labels holds of it.
use Rattle.std.proofs.Common.{ℕ, ◌∙◌, ◌≡◌, Bool, None, Option, Some, ap, false, find, if◌then◌else◌}
use Rattle.std.proofs.Common.{inl, inr, length, nat_lt, option_and_then, option_map, refl, sym, true}
use Rattle.{std.proofs.lemmas.Option.{none-some, same_Some}, base.specs.declared.ids.ObjId.ObjId}
use Rattle.machine.specs.{declared.{layout.Initial.Initial, object.Object.{Object, Object as o}, thread.Tcb.Tcb}, Authority.has_memory_at}
use Rattle.machine.specs.{Authority.{label_at, label_of}, Layout.{Layout, declared_label, initial_of}, Machine.{Machine, object_of}}
use Rattle.{machine.specs.Objects.{address_of, kind_of_object}, table.proofs.Lookups.found_at, policy.specs.Domain.EdgeTest}
use Rattle.integrity.specs.{Acting.MayHaveThreads, Awake.{IsAwake, OthersSleep}, OfTable.IsOfTable}
use Rattle.integrity.{specs.Shrinks.IsBlocked, proofs.Asleep.blocked_acts}
use Rattle.machine.specs.declared.object.ObjectKind.TheVariants as kind

-- only untyped memory has memory at an address
memory_kind : (initial : Initial) (address : ℕ) → has_memory_at address initial ≡ true → kind_of_object initial.object ≡ kind.Untyped
memory_kind initial address has = by initial.object refl where
  by : (object : Object) → initial.object ≡ object → kind_of_object object ≡ kind.Untyped
  by (o.Untyped memory) is = refl
  by _ is = let seen : has_memory_at address initial ≡ false = rw is refl in cc

-- the initial object that a label comes from
some_label :
    (found : Option Initial) (label : ℕ) → option_map (λ (i : Initial). i.label) found ≡ Some label
    → (initial : Initial) × (found ≡ Some initial) × (initial.label ≡ label)
some_label None label e = absurd (none-some label e)
some_label (Some initial) label e = (initial, refl, same_Some initial.label label e)

-- the label of a thread may have threads: the thread is an initial one, or was made of initial untyped memory of that label
pub has_threads :
    (t : Layout) (m : Machine) → IsOfTable t m → (id : ObjId) (thread : Tcb) → object_of m id ≡ Some (o.Tcb thread)
    → (label : ℕ) → label_of t m id ≡ Some label → MayHaveThreads t label
unfolding label_of declared_label label_at initial_of
has_threads t m of_table id thread there label labelled =
    by (nat_lt id.0 (length t.objects)) refl
    (sym
    (ap (option_and_then (λ (x : Object). if nat_lt id.0 (length t.objects) then declared_label t id else label_at t (address_of x)))
    there)
    ∙ labelled)
  where
    by :
        (initial : Bool) → nat_lt id.0 (length t.objects) ≡ initial
        → (if initial then declared_label t id else label_at t thread.address) ≡ Some label → MayHaveThreads t label
    by true is e =
        let found = some_label (initial_of t id) label e in
        record {
          id = id;
          initial = found.0;
          declares = found.1;
          labelled = found.2;
          is_source = inl (sym (of_table.initial id (o.Tcb thread) found.0 there found.1).0);
        }
    by false is e =
        let found = some_label (find (has_memory_at thread.address) t.objects) label e in
        let at = found_at (has_memory_at thread.address) t.objects found.0 found.1 in
        record {
          id = record { 0 = at.at };
          initial = found.0;
          declares = at.here;
          labelled = found.2;
          is_source = inr (memory_kind found.0 thread.address at.passes);
        }

-- a blocked thread is of a label of which each test of those who act holds
pub blocked_actor :
    (t : Layout) (allowed : EdgeTest) (began m : Machine) (a : ℕ) (awake : IsAwake t allowed began a) → OthersSleep t allowed m
    → IsOfTable t m → (id : ObjId) (thread : Tcb) → object_of m id ≡ Some (o.Tcb thread) → IsBlocked thread.state
    → (label : ℕ) → label_of t m id ≡ Some label → awake.acts label ≡ true
blocked_actor t allowed began m a awake others of_table id thread there blocked label labelled =
    awake.actors label (blocked_acts t allowed m id thread others there blocked label labelled)
    (has_threads t m of_table id thread there label labelled)
