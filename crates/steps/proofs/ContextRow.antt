-- The effect of a configure, bind or unbind that isn't refused: a scheduling context gets a share of a core, or a thread runs on a context
-- or on none.
use Rattle.std.{specs.Prelude.{None, Ok, Option, Some}, proofs.Common.{ℕ, ◌≡◌, ap, refl, sym}}
use Rattle.base.specs.declared.ids.ObjId.{ObjId}
use Rattle.machine.specs.{declared.{call.Made.Made, cap.Detail.Detail as d, object.Share.Share}, Machine.{Machine, object_of}}
use Rattle.machine.specs.declared.object.ObjectKind.TheVariants as kind
use Rattle.machine.specs.Step.Bind.{bind_of, context_under, thread_on, unbind_of, unlinked, with_bound, without_thread}
use Rattle.machine.specs.Step.{Configure.{configure_of, core_in, in_limits, with_share}, Find.find}
use Rattle.steps.proofs.{Conditions.{both_done, same_ok}, Finding.{FindsObject, finds}}

pub record ConfigureDone (m : Machine) (caller : ObjId) (control address budget period : ℕ) (next : Machine) : Type 0 where
  pub governs : ObjId
  pub finds_control : FindsObject m caller control governs d.Control
  pub id : ObjId
  pub finds : FindsObject m caller address id d.Context
  pub share : Share
  pub changes : next ≡ with_share m id share

pub record BindDone (m : Machine) (caller : ObjId) (context address : ℕ) (next : Machine) : Type 0 where
  pub id : ObjId
  pub finds : FindsObject m caller context id d.Context
  pub thread : ObjId
  pub finds_thread : FindsObject m caller address thread d.Tcb
  pub unbound : thread_on (object_of m id) ≡ None
  pub free : context_under (object_of m thread) ≡ None
  pub changes : next ≡ with_bound m id thread

pub record UnbindDone (m : Machine) (caller : ObjId) (address : ℕ) (next : Machine) : Type 0 where
  pub id : ObjId
  pub finds : FindsObject m caller address id d.Context
  pub changes : next ≡ without_thread m (thread_on (object_of m id))

pub configure_done :
    (m : Machine) (caller : ObjId) (control address budget period : ℕ) (made : Made) (next : Machine)
    → configure_of m caller control address budget period ≡ Ok (made, next)
    → ConfigureDone m caller control address budget period next
unfolding configure_of
configure_done m caller control address budget period made next e =
    let governs = both_done (find kind.Control m caller control) _ (made, next) e in
    let found = both_done (find kind.Context m caller address) _ (made, next) governs.2 in
    let limits = both_done (in_limits budget period) _ (made, next) found.2 in
    record {
      governs = (governs.0).1.object;
      finds_control = finds kind.Control m caller control governs.0 governs.1;
      id = (found.0).1.object;
      finds = finds kind.Context m caller address found.0 found.1;
      share = record { core = core_in (object_of m (governs.0).1.object); budget = budget; period = period };
      changes = sym (ap (λ p. p.1) (same_ok limits.2));
    }

is_unlinked : (link : Option ObjId) (u : Unit {0}) → unlinked link ≡ Ok u → link ≡ None
is_unlinked None u e = refl
is_unlinked (Some id) u e = cc

pub bind_done :
    (m : Machine) (caller : ObjId) (context address : ℕ) (made : Made) (next : Machine)
    → bind_of m caller context address ≡ Ok (made, next) → BindDone m caller context address next
unfolding bind_of
bind_done m caller context address made next e =
    let id = both_done (find kind.Context m caller context) _ (made, next) e in
    let found = both_done (find kind.Tcb m caller address) _ (made, next) id.2 in
    let on = both_done (unlinked (thread_on (object_of m (id.0).1.object))) _ (made, next) found.2 in
    let under = both_done (unlinked (context_under (object_of m (found.0).1.object))) _ (made, next) on.2 in
    record {
      id = (id.0).1.object;
      finds = finds kind.Context m caller context id.0 id.1;
      thread = (found.0).1.object;
      finds_thread = finds kind.Tcb m caller address found.0 found.1;
      unbound = is_unlinked (thread_on (object_of m (id.0).1.object)) on.0 on.1;
      free = is_unlinked (context_under (object_of m (found.0).1.object)) under.0 under.1;
      changes = sym (ap (λ p. p.1) (same_ok under.2));
    }

pub unbind_done :
    (m : Machine) (caller : ObjId) (address : ℕ) (made : Made) (next : Machine)
    → unbind_of m caller address ≡ Ok (made, next) → UnbindDone m caller address next
unfolding unbind_of
unbind_done m caller address made next e =
    let found = both_done (find kind.Context m caller address) _ (made, next) e in
    record {
      id = (found.0).1.object;
      finds = finds kind.Context m caller address found.0 found.1;
      changes = sym (ap (λ p. p.1) (same_ok found.2));
    }
