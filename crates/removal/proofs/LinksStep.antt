-- One more object, of any kind, that loses its links: the threads that are reached are those of the set with it.
use Rattle.std.{specs.Prelude.{None, Option, Some, option_map}, proofs.Common.{◌||◌, ◌∙◌, ◌≡◌, ◌≢◌, Bool, ap, false, refl, subst, sym}}
use Rattle.{std.proofs.{Common.true, lemmas.Option.{none-some, same_Some}}, base.specs.declared.ids.ObjId.ObjId}
use Rattle.machine.specs.declared.{object.{Context.Context, Object.{Object, Object as o}, Reply.Reply}, thread.Tcb.Tcb}
use Rattle.machine.specs.{Machine.{Machine, object_of, same_id}, Objects.kind_of_object}
use Rattle.machine.{specs.{Releasing.with_holder_halted, WellFormed.LinksAgree}, proofs.LookUps.one_id}
use Rattle.removal.{specs.Finalised.with_links_cut, proofs.{Part.Follows, PartSteps.{context_step, no_queue_at, thread_step}}}
use Rattle.removal.proofs.{PartSteps.unlinked_step, Reached.object_by, Tests.{or_false, plus}, WaitersStep.waiters_step}
use Rattle.machine.specs.declared.object.ObjectKind.TheVariants as kind

module _ (old : Machine) (links : LinksAgree old) (done : ObjId → Bool) (x : ObjId) (now : Machine) (follows : Follows old done now) where
  there_now : (object : Object) → object_of old x ≡ Some object → object_of now x ≡ Some (object_by follows.reach x object)
  there_now object is = follows.reached.objects x ∙ ap (option_map (object_by follows.reach x)) is

  -- an object of a kind that has no links
  unlinked :
      (object : Object) → object_of old x ≡ Some object → kind_of_object object ≢ kind.Endpoint → kind_of_object object ≢ kind.Notification
      → ((tcb : Tcb) → object ≢ o.Tcb tcb) → ((holding : Reply) → object ≢ o.Reply holding)
      → ((context : Context) → object ≢ o.Context context) → with_links_cut now x ≡ now
      → Follows old (plus done x) (with_links_cut now x)
  unlinked object is not_endpoint not_notification no_tcb no_reply no_context same =
      subst (λ (n : Machine). Follows old (plus done x) n) (sym same)
      (unlinked_step old links done x now follows
      (λ tcb e. no_tcb tcb (same_Some object (o.Tcb tcb) (sym is ∙ e)))
      (λ holding e. no_reply holding (same_Some object (o.Reply holding) (sym is ∙ e)))
      (no_queue_at old links done x object is not_endpoint not_notification)
      (λ context e. no_context context (same_Some object (o.Context context) (sym is ∙ e))))

  -- an object that had lost its links before
  again : done x ≡ true → Follows old done now → Follows old (plus done x) now
  again before = subst (λ (d : ObjId → Bool). Follows old d now) (λ i q. by_tie q (same_id q x) refl i) where
    by_tie : (q : ObjId) (tie : Bool) → same_id q x ≡ tie → done q ≡ (done q || same_id q x)
    by_tie q true e =
        let is : done q ≡ true = ap done (one_id q x e) ∙ before in is ∙ sym (ap (λ b. b || same_id q x) is)
    by_tie q false e = sym (ap (λ b. done q || b) e ∙ or_false (done q))

  -- a reply that hasn't is passed over
  pub links_step :
      ((holding : Reply) → object_of old x ≡ Some (o.Reply holding) → done x ≡ true)
      → Follows old (plus done x) (with_links_cut now x)
  unfolding with_links_cut
  links_step replies = by_object (object_of old x) refl where
    by_object : (object : Option Object) → object_of old x ≡ object → Follows old (plus done x) (with_links_cut now x)
    by_object None is =
        let none : object_of now x ≡ None = follows.reached.objects x ∙ ap (option_map (object_by follows.reach x)) is in
        rw none
        (unlinked_step old links done x now follows (λ tcb e. none-some (o.Tcb tcb) (sym is ∙ e))
        (λ holding e. none-some (o.Reply holding) (sym is ∙ e))
        (λ run at e waits. none-some at (ap (option_map kind_of_object) (sym is) ∙ e))
        (λ context e. none-some (o.Context context) (sym is ∙ e)))
    by_object (Some (o.Tcb tcb)) is = rw (there_now (o.Tcb tcb) is) (thread_step old links done x now follows tcb is)
    by_object (Some (o.Endpoint endpoint)) is =
        rw (there_now (o.Endpoint endpoint) is)
        (waiters_step old links done x now follows (λ tcb e. let same : Some (o.Tcb tcb) ≡ Some (o.Endpoint endpoint) = sym e ∙ is in cc)
        (λ holding e. let same : Some (o.Reply holding) ≡ Some (o.Endpoint endpoint) = sym e ∙ is in cc)
        (λ context e. let same : Some (o.Context context) ≡ Some (o.Endpoint endpoint) = sym e ∙ is in cc))
    by_object (Some (o.Notification notification)) is =
        rw (there_now (o.Notification notification) is)
        (waiters_step old links done x now follows
        (λ tcb e. let same : Some (o.Tcb tcb) ≡ Some (o.Notification notification) = sym e ∙ is in cc)
        (λ holding e. let same : Some (o.Reply holding) ≡ Some (o.Notification notification) = sym e ∙ is in cc)
        (λ context e. let same : Some (o.Context context) ≡ Some (o.Notification notification) = sym e ∙ is in cc))
    by_object (Some (o.Context context)) is =
        rw (there_now (o.Context context) is) (context_step old links done x now follows context is)
    by_object (Some (o.Reply holding)) is = rw (there_now (o.Reply holding) is) (again (replies holding is) follows)
    by_object (Some _) is =
        unlinked _ is (λ e. cc) (λ e. cc) (λ tcb e. cc) (λ holding e. cc) (λ context e. cc) (rw (there_now _ is) refl)

  -- no thread is halted if there is no reply
  pub no_holder : ((holding : Reply) → object_of old x ≢ Some (o.Reply holding)) → with_holder_halted now x ≡ now
  unfolding with_holder_halted
  no_holder other = by_object (object_of old x) refl where
    by_object : (object : Option Object) → object_of old x ≡ object → with_holder_halted now x ≡ now
    by_object None is =
        let none : object_of now x ≡ None = follows.reached.objects x ∙ ap (option_map (object_by follows.reach x)) is in rw none refl
    by_object (Some (o.Reply holding)) is = absurd (other holding is)
    by_object (Some _) is = rw (there_now _ is) refl
