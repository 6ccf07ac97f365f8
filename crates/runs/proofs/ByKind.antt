-- The lessening of an object's content, kind by kind: a thread released, a reply freed, a scheduling context unbound.
use Rattle.std.proofs.Common.{◌≡◌, subst}
use Rattle.machine.specs.declared.{object.{Context.Context, Object.{Object, Object as o}, Reply.Reply}, thread.RunState.RunState as state}
use Rattle.{machine.specs.declared.thread.Tcb.Tcb, integrity.specs.Shrinks.Lessens, runs.specs.Comparing.{IsFreed, IsReleased, IsUnbound}}
use Rattle.machine.specs.declared.thread.Inbox.TheVariants as inbox

pub is_released_by :
    (old new : Object) (was is : Tcb) → old ≡ o.Tcb was → new ≡ o.Tcb is → ¬ (new ≡ old) → Lessens old new → IsReleased was is
is_released_by old new was is e f apart (Lessens.as_it_was same) = absurd (apart same)
is_released_by old new was is e f apart (Lessens.released a b g h address stops context) =
    let one : a ≡ was = cc in
    let other : b ≡ is = cc in
    subst (λ (x : Tcb). IsReleased x is) one
    (subst (λ (x : Tcb). IsReleased a x) other (record { address = address; stops = stops; context = context }))
is_released_by old new was is e f apart (Lessens.freed a b g h address free) = absurd (let no : o.Tcb was ≡ o.Reply a = cc in cc)
is_released_by old new was is e f apart (Lessens.unbound a b g h address share thread) =
    absurd (let no : o.Tcb was ≡ o.Context a = cc in cc)

pub is_freed_by :
    (old new : Object) (was is : Reply) → old ≡ o.Reply was → new ≡ o.Reply is → ¬ (new ≡ old) → Lessens old new → IsFreed was is
is_freed_by old new was is e f apart (Lessens.as_it_was same) = absurd (apart same)
is_freed_by old new was is e f apart (Lessens.released a b g h address stops context) =
    absurd (let no : o.Reply was ≡ o.Tcb a = cc in cc)
is_freed_by old new was is e f apart (Lessens.freed a b g h address free) =
    let one : a ≡ was = cc in
    let other : b ≡ is = cc in
    subst (λ (x : Reply). IsFreed x is) one (subst (λ (x : Reply). IsFreed a x) other (record { address = address; state = free }))
is_freed_by old new was is e f apart (Lessens.unbound a b g h address share thread) =
    absurd (let no : o.Reply was ≡ o.Context a = cc in cc)

pub is_unbound_by :
    (old new : Object) (was is : Context) → old ≡ o.Context was → new ≡ o.Context is → ¬ (new ≡ old) → Lessens old new
    → IsUnbound was is
is_unbound_by old new was is e f apart (Lessens.as_it_was same) = absurd (apart same)
is_unbound_by old new was is e f apart (Lessens.released a b g h address stops context) =
    absurd (let no : o.Context was ≡ o.Tcb a = cc in cc)
is_unbound_by old new was is e f apart (Lessens.freed a b g h address free) =
    absurd (let no : o.Context was ≡ o.Reply a = cc in cc)
is_unbound_by old new was is e f apart (Lessens.unbound a b g h address share thread) =
    let one : a ≡ was = cc in
    let other : b ≡ is = cc in
    subst (λ (x : Context). IsUnbound x is) one
    (subst (λ (x : Context). IsUnbound a x) other (record { address = address; share = share; thread = thread }))
