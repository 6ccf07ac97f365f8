-- A context that loses its thread: what becomes of each object.
use Rattle.std.{specs.Prelude.{None, Option, Some, if◌then◌else◌, option_map}, proofs.Common.{◌∙◌, ◌≡◌, ◌≢◌, Bool, ap, false, inl, inr}}
use Rattle.{std.proofs.{Common.{refl, subst, sym, true}, lemmas.Option.{none-some, same_Some}}, base.specs.declared.ids.ObjId.ObjId}
use Rattle.machine.specs.{declared.{object.{Context.Context, Object.{Object, Object as o}}, thread.Tcb.Tcb}, Authority.names_object}
use Rattle.machine.specs.{Machine.{Machine, object_of, same_id, with_object}, Releasing.with_unbound, Step.Bind.without_thread}
use Rattle.machine.{specs.WellFormed.{IsThread, LinksAgree}, proofs.Ids.{at_itself, at_other, itself, one_or_two}}
use Rattle.machine.proofs.{Leaving.{rest-with_object, rest_along, rest_itself}, LookUps.{object_of-with_object, one_id}}
use Rattle.{machine.proofs.{LookUps.queue_of-with_object, RunsLinks.named_so}, steps.proofs.ContextsFormed.unbound_is}
use Rattle.{integrity.proofs.Shrinking.same_context, noninterference.proofs.Carries.{Carries, Turns, turns_carry}}

-- an object without its link to a context, at either end
abbrev cut : ObjId → ObjId → Object → Object
cut id q (o.Tcb tcb) = o.Tcb (record tcb { context = if names_object tcb.context id then None else tcb.context })
cut id q (o.Context context) = o.Context (record context { thread = if same_id q id then None else context.thread })
cut id q object = object

abbrev IsCut : Machine → ObjId → Machine → Type 0
IsCut m id next = Turns m (cut id) next

-- an object that has no such link stays
uncut :
    (id q : ObjId) (object : Option Object) → ((tcb : Tcb) → object ≡ Some (o.Tcb tcb) → tcb.context ≢ Some id)
    → ((context : Context) → object ≡ Some (o.Context context) → q ≡ id → context.thread ≡ None)
    → object ≡ option_map (cut id q) object
uncut id q None threads contexts = refl
uncut id q (Some (o.Tcb tcb)) threads contexts = by_test (names_object tcb.context id) refl where
  by_test :
      (test : Bool) → names_object tcb.context id ≡ test
      → Some (o.Tcb tcb) ≡ Some (o.Tcb (record tcb { context = if test then None else tcb.context }))
  by_test true e = absurd (threads tcb refl (named_so tcb.context id e))
  by_test false e = refl
uncut id q (Some (o.Context context)) threads contexts = by_test (same_id q id) refl where
  by_test :
      (test : Bool) → same_id q id ≡ test
      → Some (o.Context context) ≡ Some (o.Context (record context { thread = if test then None else context.thread }))
  by_test true e = ap (λ link. Some (o.Context (record context { thread = link }))) (contexts context refl (one_id q id e))
  by_test false e = refl
uncut id q (Some _) threads contexts = refl

module _ (m : Machine) (links : LinksAgree m) (id : ObjId) (context : Context) (its : object_of m id ≡ Some (o.Context context)) where
  -- a thread that runs on the context is the one that the context names
  runs_it : (q : ObjId) (tcb : Tcb) → IsThread m q tcb → tcb.context ≡ Some id → context.thread ≡ Some q
  runs_it q tcb there on =
      let w = links.thread_context q id tcb there on in
      ap (λ (c : Context). c.thread) (same_context context w.0 (same_Some (o.Context context) (o.Context w.0) (sym its ∙ w.1))) ∙ w.2

  its_at : (q : ObjId) (other : Context) → object_of m q ≡ Some (o.Context other) → q ≡ id → other ≡ context
  its_at q other at same =
      same_context other context (same_Some (o.Context other) (o.Context context) (sym at ∙ ap (object_of m) same ∙ its))

  idle_cut : context.thread ≡ None → IsCut m id m
  idle_cut none = record {
    objects = λ q.
        uncut id q (object_of m q) (λ tcb there on. none-some q (sym none ∙ runs_it q tcb there on))
        (λ other at same. ap (λ (c : Context). c.thread) (its_at q other at same) ∙ none);
    queues = λ q. refl;
    rest = rest_itself m;
  }

  module _ (thread : ObjId) (on : context.thread ≡ Some thread) (tcb : Tcb) (there : IsThread m thread tcb) (runs : tcb.context ≡ Some id)
    where
      abbrev halfway : Machine
      halfway = with_object m thread (o.Tcb (record tcb { context = None }))

      abbrev next : Machine
      next = with_object halfway id (o.Context (record context { thread = None }))

      here_cut : (q : ObjId) → q ≡ id → object_of next q ≡ option_map (cut id q) (object_of m q)
      here_cut q same =
          ap (object_of next) same ∙ object_of-with_object halfway id _ id ∙ at_itself id (Some (o.Context (record context { thread = None }))) _
          ∙ ap (λ test. Some (o.Context (record context { thread = if test then None else context.thread })))
          (sym (ap (λ (x : ObjId). same_id x id) same ∙ itself id))
          ∙ ap (option_map (cut id q)) (sym (ap (object_of m) same ∙ its))

      thread_cut : (q : ObjId) → q ≢ id → q ≡ thread → object_of next q ≡ option_map (cut id q) (object_of m q)
      thread_cut q apart same =
          object_of-with_object halfway id _ q ∙ at_other q id _ (object_of halfway q) apart ∙ ap (object_of halfway) same
          ∙ object_of-with_object m thread _ thread ∙ at_itself thread (Some (o.Tcb (record tcb { context = None }))) _
          ∙ ap (λ test. Some (o.Tcb (record tcb { context = if test then None else tcb.context })))
          (sym (ap (λ link. names_object link id) runs ∙ itself id))
          ∙ ap (option_map (cut id q)) (sym (ap (object_of m) same ∙ there))

      other_cut : (q : ObjId) → q ≢ id → q ≢ thread → object_of next q ≡ option_map (cut id q) (object_of m q)
      other_cut q apart differs =
          object_of-with_object halfway id _ q ∙ at_other q id _ (object_of halfway q) apart
          ∙ object_of-with_object m thread _ q ∙ at_other q thread _ (object_of m q) differs
          ∙ uncut id q (object_of m q) (λ other at is. differs (same_Some q thread (sym (runs_it q other at is) ∙ on)))
          (λ other at same. absurd (apart same))

      bound_cut : IsCut m id (with_unbound m thread)
      bound_cut =
          subst (IsCut m id) (sym (unbound_is m id thread context tcb its there runs))
          (record {
            objects = λ q. elim (one_or_two q id) [
              | inl same ↦ here_cut q same
              | inr apart ↦ elim (one_or_two q thread) [ inl same ↦ thread_cut q apart same | inr differs ↦ other_cut q apart differs ]
            ];
            queues = λ q. queue_of-with_object halfway id _ q ∙ queue_of-with_object m thread _ q;
            rest = rest_along m halfway next (rest-with_object m thread _) (rest-with_object halfway id _);
          })

  unbound_cut : IsCut m id (without_thread m context.thread)
  unbound_cut = by_link context.thread refl where
    by_link : (link : Option ObjId) → context.thread ≡ link → IsCut m id (without_thread m link)
    by_link None on = idle_cut on
    by_link (Some thread) on =
        let w = links.context_thread id thread context its on in bound_cut thread on w.0 w.1 w.2

-- each object that was the same in two machines is the same after it
pub unbinding_carries :
    (m n : Machine) (id : ObjId) (old was : Context) → LinksAgree m → LinksAgree n → object_of m id ≡ Some (o.Context old)
    → object_of n id ≡ Some (o.Context was) → Carries m n (without_thread m old.thread) (without_thread n was.thread)
unbinding_carries m n id old was links others there here =
    turns_carry m n _ _ (cut id) (unbound_cut m links id old there) (unbound_cut n others id was here)
