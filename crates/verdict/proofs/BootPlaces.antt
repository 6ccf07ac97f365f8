-- That a table breaks a rule exactly where the authority of its boot state lies outside the policy.
use Rattle.std.proofs.Common.{◌↔◌, ◌∙◌, ◌≡◌, None, Option, Some, ap, false, option_map, refl, subst, sym}
use Rattle.std.proofs.lemmas.Option.{get_or_from_slice_get, none-some, same_Some, slice_get_within}
use Rattle.base.specs.declared.{ids.ObjId.ObjId, kind.Kind.Kind}
use Rattle.machine.specs.{declared.{layout.Initial.Initial, object.Object.{Object, Object as o}}, Authority.holds_thread}
use Rattle.machine.specs.{Boot.{IsBoot, bound}, Layout.{Layout, bound_context, initial_of}, Machine.Machine, Objects.kind_of_object}
use Rattle.table.specs.Rules.{IsBindingOf, IsBlank, IsLawful, kind_at}
use Rattle.table.proofs.{AtBoot.{boot_kind, boot_label, initial_lawful, rest_lends, rest_links}, Lookups.bound_at}
use Rattle.policy.{specs.{Closed.IsClosed, Domain.EdgeTest, Places.IsNone}, proofs.Unbroken.{closed_if, unbroken}}
use Rattle.integrity.specs.Confined.{IsConfined}
use Rattle.verdict.specs.{declared.denial.Denial.Denial, Rules.{Exceeds, Excess}, Sources.{Sources, holds_in, keeps_in, lent_context_in}}
use Rattle.verdict.specs.{Sources.{of_machine, of_table, own_context_in}, Verdict.{Breaks, IsAccepted, IsExceeded, IsLeastBroken}}
use Rattle.verdict.{specs.Verdict.{IsOutside, excess_of}, proofs.DenialPlaces.{denial_at, exceeded_at, exceeded_there, numbered}}
use Rattle.verdict.proofs.{Outsides.{confined_within, within_confined}, RuleOrder.policy_first}
use Rattle.machine.specs.declared.object.ObjectKind.TheVariants as kind
use Rattle.verdict.specs.declared.denial.Denial.TheVariants as denial

bound_thread : (t : Layout) → IsLawful t → (thread context : ObjId) → bound_context t thread ≡ Some context → kind_at t thread ≡ Some kind.Tcb
unfolding kind_at initial_of
bound_thread t lawful thread context is =
    let at = bound_at t thread context is in
    let fits =
    subst (IsBindingOf t.objects) (get_or_from_slice_get t.bindings at.at at.element at.element at.here)
    (lawful.draft.bindings.each at.at at.element (slice_get_within t.bindings at.at at.element at.here)) in
    ap (kind_at t) (sym at.key_is) ∙ fits.thread

unbound :
    (t : Layout) → IsLawful t → (thread : ObjId) → (kind_at t thread ≡ Some kind.Tcb → ⊥) → (context : Option ObjId)
    → bound_context t thread ≡ context → context ≡ None
unbound t lawful thread other None is = refl
unbound t lawful thread other (Some context) is = absurd (other (bound_thread t lawful thread context is))

-- an object has the links at boot that the table declares

boot_context :
    (t : Layout) → IsLawful t → (id : ObjId) (initial : Option Initial) → initial_of t id ≡ initial
    → own_context_in (option_map (λ (i : Initial). bound t id i.object) initial) ≡ bound_context t id
unfolding kind_at
boot_context t lawful id None declares = sym (unbound t lawful id no_thread (bound_context t id) refl) where
  no_thread : kind_at t id ≡ Some kind.Tcb → ⊥
  no_thread e = none-some kind.Tcb (sym (ap (option_map (λ (i : Initial). kind_of_object i.object)) declares) ∙ e)
boot_context t lawful id (Some initial) declares = by initial.object refl where
  declared : kind_at t id ≡ Some (kind_of_object initial.object)
  declared = ap (option_map (λ (i : Initial). kind_of_object i.object)) declares

  other_kind : (object : Object) → initial.object ≡ object → (kind_of_object object ≡ kind.Tcb → ⊥) → None ≡ bound_context t id
  other_kind object is other =
      sym (unbound t lawful id (λ e. other (ap kind_of_object (sym is) ∙ same_Some (kind_of_object initial.object) kind.Tcb (sym declared ∙ e))) (bound_context t id) refl)

  by : (object : Object) → initial.object ≡ object → own_context_in (Some (bound t id object)) ≡ bound_context t id
  by (o.Tcb tcb) is = refl
  by object is = other_kind object is (λ e. cc)

blank_lends : (t : Layout) (id : ObjId) (object : Object) → IsBlank object → lent_context_in (Some (bound t id object)) ≡ None
blank_lends t id (o.Tcb tcb) blank = rest_lends tcb.state blank.0
blank_lends t id _ blank = refl

blank_holds : (t : Layout) (id : ObjId) (object : Object) (thread : ObjId) → IsBlank object → holds_in (Some (bound t id object)) thread ≡ false
blank_holds t id (o.Reply answers) thread blank = ap (λ held. holds_thread held thread) blank
blank_holds t id _ thread blank = refl

blank_keeps :
    (t : Layout) (id : ObjId) (object : Object) (k : Kind) (end : ObjId) → IsBlank object
    → keeps_in (Some (bound t id object)) k end ≡ false
blank_keeps t id (o.Tcb tcb) k end blank = rest_links tcb.state k end blank.0
blank_keeps t id _ k end blank = refl

boot_lends :
    (t : Layout) → IsLawful t → (id : ObjId) (initial : Option Initial) → initial_of t id ≡ initial
    → lent_context_in (option_map (λ (i : Initial). bound t id i.object) initial) ≡ None
boot_lends t lawful id None declares = refl
boot_lends t lawful id (Some initial) declares =
    blank_lends t id initial.object (initial_lawful t lawful id initial declares).blank

boot_holds :
    (t : Layout) → IsLawful t → (id thread : ObjId) (initial : Option Initial) → initial_of t id ≡ initial
    → holds_in (option_map (λ (i : Initial). bound t id i.object) initial) thread ≡ false
boot_holds t lawful id thread None declares = refl
boot_holds t lawful id thread (Some initial) declares =
    blank_holds t id initial.object thread (initial_lawful t lawful id initial declares).blank

boot_keeps :
    (t : Layout) → IsLawful t → (id : ObjId) (k : Kind) (end : ObjId) (initial : Option Initial) → initial_of t id ≡ initial
    → keeps_in (option_map (λ (i : Initial). bound t id i.object) initial) k end ≡ false
boot_keeps t lawful id k end None declares = refl
boot_keeps t lawful id k end (Some initial) declares =
    blank_keeps t id initial.object k end (initial_lawful t lawful id initial declares).blank

module _ (t : Layout) (allowed : EdgeTest) where
  -- a rule is broken at a place exactly if the authority that the table declares there is outside the policy
  broken_there : (d : Denial) (place : Excess) → excess_of d ≡ Some place → Breaks t allowed d ↔ Exceeds (of_table t) allowed place
  broken_there (denial.Policy _) place is = absurd (none-some place is)
  broken_there (denial.Sharp _) place is = absurd (none-some place is)
  broken_there d place is = exceeded_there (of_table t) allowed d place is

  -- the policy is closed if the first broken rule is one of authority
  pub first_closed : (d : Denial) (place : Excess) → excess_of d ≡ Some place → IsLeastBroken t allowed d → IsClosed allowed
  first_closed d place is least = closed_if allowed (λ b broken.
      least.first (denial.Policy b) broken (rw (numbered d place is) (policy_first b place)))

  -- each denial names a place if the policy is closed
  named : (d : Denial) → IsClosed allowed → Breaks t allowed d → (place : Excess) × (excess_of d ≡ Some place)
  named (denial.Policy b) closed broken = absurd (unbroken allowed closed b broken)
  named d closed broken = let at = exceeded_at (of_table t) allowed d broken in (at.0, at.1)

module _ (t : Layout) (m : Machine) (lawful : IsLawful t) (boot : IsBoot t m) where
  -- the sources of authority of a boot state are those of its table
  pub boot_sources : of_table t ≡ of_machine t m
  boot_sources = λ i. record {
    cap = λ slot. sym (boot.caps slot) i;
    parent = λ slot. sym (boot.parents slot) i;
    kind = λ id. sym (boot_kind t m boot id) i;
    label = λ id. sym (boot_label t m boot id) i;
    context = λ id. sym (ap own_context_in (boot.objects id) ∙ boot_context t lawful id (initial_of t id) refl) i;
    lent = λ id. sym (ap lent_context_in (boot.objects id) ∙ boot_lends t lawful id (initial_of t id) refl) i;
    holds = λ id thread.
        sym (ap (λ object. holds_in object thread) (boot.objects id) ∙ boot_holds t lawful id thread (initial_of t id) refl) i;
    keeps = λ id k end.
        sym (ap (λ object. keeps_in object k end) (boot.objects id) ∙ boot_keeps t lawful id k end (initial_of t id) refl) i;
  }

  pub exceeds_same : (allowed : EdgeTest) (place : Excess) → Exceeds (of_table t) allowed place ↔ Exceeds (of_machine t m) allowed place
  exceeds_same allowed place = (
    subst (λ (s : Sources). Exceeds s allowed place) boot_sources,
    subst (λ (s : Sources). Exceeds s allowed place) (sym boot_sources),
  )

  -- a rule is broken at a place exactly if the boot state's authority lies outside the policy there
  pub broken_outside :
      (allowed : EdgeTest) (d : Denial) (place : Excess) → excess_of d ≡ Some place
      → Breaks t allowed d ↔ Exceeds (of_machine t m) allowed place
  broken_outside allowed d place is = (
    λ broken. (exceeds_same allowed place).0 ((broken_there t allowed d place is).0 broken),
    λ out. (broken_there t allowed d place is).1 ((exceeds_same allowed place).1 out),
  )

  -- the policy is exceeded as its denial says, whichever rules it must obey itself
  exceeded_outside :
      (allowed : EdgeTest) (d : Denial) (place : Excess) → excess_of d ≡ Some place
      → IsExceeded (of_table t) allowed d ↔ Exceeds (of_machine t m) allowed place
  exceeded_outside allowed d place is = (
    λ exceeded. (exceeds_same allowed place).0 ((exceeded_there (of_table t) allowed d place is).0 exceeded),
    λ out. (exceeded_there (of_table t) allowed d place is).1 ((exceeds_same allowed place).1 out),
  )

  -- each place outside the policy has its denial
  pub outside_declared :
      (allowed : EdgeTest) (place : Excess) → Exceeds (of_machine t m) allowed place
      → (d : Denial) × (excess_of d ≡ Some place) × Breaks t allowed d
  outside_declared allowed place out =
      let d = denial_at place in (d.0, d.1, (broken_outside allowed d.0 place d.1).1 out)

  -- the boot state is confined exactly if the policy is exceeded nowhere

  pub boot_confined : (allowed : EdgeTest) → IsNone (IsExceeded (of_table t) allowed) → IsConfined t allowed m
  boot_confined allowed none =
      confined_within t allowed m
      (λ place out. let denied = denial_at place in none denied.0 ((exceeded_outside allowed denied.0 place denied.1).1 out))

  pub confined_unexceeded : (allowed : EdgeTest) → IsConfined t allowed m → IsNone (IsExceeded (of_table t) allowed)
  confined_unexceeded allowed confined d exceeded =
      let at = exceeded_at (of_table t) allowed d exceeded in
      within_confined t allowed m confined at.0 ((exceeded_outside allowed d at.0 at.1).0 exceeded)

  -- no rule is broken if the policy is closed and the boot state confined
  pub confined_accepted : (allowed : EdgeTest) → IsClosed allowed → IsConfined t allowed m → IsAccepted t allowed
  confined_accepted allowed closed confined d broken =
      let place = named t allowed d closed broken in
      within_confined t allowed m confined place.0 ((broken_outside allowed d place.0 place.1).0 broken)

  -- the least broken place is the first place outside the policy
  pub first_outside :
      (allowed : EdgeTest) (d : Denial) (place : Excess) → excess_of d ≡ Some place → IsLeastBroken t allowed d
      → IsOutside t allowed m place
  first_outside allowed d place is least = record {
    has = (broken_outside allowed d place is).0 least.has;
    first = λ other out before.
        let broken = outside_declared allowed other out in
        least.first broken.0 broken.2 (rw (numbered broken.0 other broken.1, numbered d place is) before);
  }

  -- the first place outside the policy is the least broken one, if the policy is closed
  pub least_broken :
      (allowed : EdgeTest) (d : Denial) (place : Excess) → excess_of d ≡ Some place → IsClosed allowed
      → IsOutside t allowed m place → IsLeastBroken t allowed d
  least_broken allowed d place is closed outside = record {
    has = (broken_outside allowed d place is).1 outside.has;
    first = λ other broken before.
        let at = named t allowed other closed broken in
        outside.first at.0 ((broken_outside allowed other at.0 at.1).0 broken)
        (rw (← numbered other at.0 at.1, ← numbered d place is) before);
  }
