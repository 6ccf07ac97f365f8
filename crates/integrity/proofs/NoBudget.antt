-- The edges of a label that changes a context's share: schedcontrol, and context to the context's label.
use Rattle.std.proofs.{Common.{ℕ, ◌∙◌, ◌≡◌, ◌≢◌, ◌⊎◌, Some, ap, false, inl, inr, sym}, lemmas.{Bool.false≢true, Option.same_Some}}
use Rattle.base.specs.declared.{ids.ObjId.ObjId, kind.Kind.Kind as authority}
use Rattle.machine.specs.{declared.{call.Event.Event, object.{Context.Context, Object.Object as o}}, Authority.label_of, Layout.Layout}
use Rattle.{machine.specs.Machine.{Machine, object_of}, policy.specs.Domain.EdgeTest, integrity.specs.Budgets.{KeepsBudgets, MayConfigure}}

-- a label that changes a share may configure the context
changer :
    (t : Layout) (allowed : EdgeTest) (m next : Machine) (event : Event) (id : ObjId) (old new : Context)
    → object_of m id ≡ Some (o.Context old) → object_of next id ≡ Some (o.Context new) → new.share ≢ old.share
    → KeepsBudgets t allowed m event next → MayConfigure t allowed m event id
changer t allowed m next event id old new was is differ keeps = by (keeps id old new was is) where
  by : (new.share ≡ old.share) ⊎ MayConfigure t allowed m event id → MayConfigure t allowed m event id
  by (inl same) = absurd (differ same)
  by (inr may) = may

pub no_schedcontrol :
    (t : Layout) (allowed : EdgeTest) (m next : Machine) (event : Event) (id : ObjId) (old new : Context) (caller : ℕ)
    → object_of m id ≡ Some (o.Context old) → object_of next id ≡ Some (o.Context new) → new.share ≢ old.share
    → label_of t m event.thread ≡ Some caller → ((control : ℕ) → allowed caller authority.SchedControl control ≡ false)
    → ¬ KeepsBudgets t allowed m event next
no_schedcontrol t allowed m next event id old new caller was is differ calls lacks keeps =
    let may = changer t allowed m next event id old new was is differ keeps in
    let who : caller ≡ may.caller_label = same_Some caller may.caller_label (sym calls ∙ may.calls) in
    false≢true
    (sym (lacks may.control_label) ∙ ap (λ a. allowed a authority.SchedControl may.control_label) who ∙ may.may_schedule)

pub no_context :
    (t : Layout) (allowed : EdgeTest) (m next : Machine) (event : Event) (id : ObjId) (old new : Context) (caller label : ℕ)
    → object_of m id ≡ Some (o.Context old) → object_of next id ≡ Some (o.Context new) → new.share ≢ old.share
    → label_of t m event.thread ≡ Some caller → label_of t m id ≡ Some label → allowed caller authority.Context label ≡ false
    → ¬ KeepsBudgets t allowed m event next
no_context t allowed m next event id old new caller label was is differ calls labelled lacks keeps =
    let may = changer t allowed m next event id old new was is differ keeps in
    let who : caller ≡ may.caller_label = same_Some caller may.caller_label (sym calls ∙ may.calls) in
    let whose : label ≡ may.context_label = same_Some label may.context_label (sym labelled ∙ may.labelled) in
    false≢true (
    sym lacks ∙ ap (λ a. allowed a authority.Context label) who ∙ ap (λ l. allowed may.caller_label authority.Context l) whose
    ∙ may.may_use
    )
