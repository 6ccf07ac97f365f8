use Rattle.std.{specs.Prelude.false, proofs.Common.{◌<◌, ◌∙◌, ◌≡◌, ap, get_or, inl, refl, subst, sym}}
use Rattle.base.specs.declared.core_number.TheConstants.CoreNo as CoreNo
use Rattle.cores.{specs.Workers.events_of, proofs.BusyCores.none_on_core}
use Rattle.cores.proofs.workers.serve.Goals as goal

-- a core that isn't busy has no events, and its seat has made none
pub returns-then-not-busy-from : goal.returns-then-not-busy-from
returns-then-not-busy-from g c =
    let core = c.number.ensures.value ∙ c.core-core.ensures in
    let below = subst (λ k. k < CoreNo.COUNT) core c.number.ensures.below in
    let idle = subst (λ k. get_or c.args.busy.now k false ≡ false) (c.from.ensures ∙ core) c.if-not-busy-from.true in
    record {
      of = c.requires.fresh.of;
      number = refl;
      core = refl;
      made = inl (ap events_of c.requires.fresh.new ∙ sym (none_on_core c.args.events.now c.args.busy.now c.args.seat.core c.requires.busy below idle));
    }
