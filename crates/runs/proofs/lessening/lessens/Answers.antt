use mathlib.Core.Bool.{false≢true}
use Rattle.std.proofs.Common.{◌∙◌, sym}
use Rattle.{integrity.specs.Shrinks.Lessens, runs.proofs.ByKind.{is_freed_by, is_released_by, is_unbound_by}}
use Rattle.runs.proofs.lessening.lessens.Goals as goal

pub returns-in-Tcb-Tcb : goal.returns-in-Tcb-Tcb
returns-in-Tcb-Tcb c = (
  λ h. let r = c.is_released.ensures.0 h in Lessens.released _ _ c.in-Tcb-Tcb.is-0 c.in-Tcb-Tcb.is-1 r.address r.stops r.context,
  λ h.
      c.is_released.ensures.1
      (is_released_by _ _ _ _ c.in-Tcb-Tcb.is-0 c.in-Tcb-Tcb.is-1
      (λ same. false≢true (sym c.if-same_content.false ∙ c.same_content.ensures.1 same)) h),
)

pub returns-in-Reply-Reply : goal.returns-in-Reply-Reply
returns-in-Reply-Reply c = (
  λ h. let r = c.is_freed.ensures.0 h in Lessens.freed _ _ c.in-Reply-Reply.is-0 c.in-Reply-Reply.is-1 r.address r.state,
  λ h.
      c.is_freed.ensures.1
      (is_freed_by _ _ _ _ c.in-Reply-Reply.is-0 c.in-Reply-Reply.is-1
      (λ same. false≢true (sym c.if-same_content.false ∙ c.same_content.ensures.1 same)) h),
)

pub returns-in-Context-Context : goal.returns-in-Context-Context
returns-in-Context-Context c = (
  λ h.
      let r = c.is_unbound.ensures.0 h in
      Lessens.unbound _ _ c.in-Context-Context.is-0 c.in-Context-Context.is-1 r.address r.share r.thread,
  λ h.
      c.is_unbound.ensures.1
      (is_unbound_by _ _ _ _ c.in-Context-Context.is-0 c.in-Context-Context.is-1
      (λ same. false≢true (sym c.if-same_content.false ∙ c.same_content.ensures.1 same)) h),
)
