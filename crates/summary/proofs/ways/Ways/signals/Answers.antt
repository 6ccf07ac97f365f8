use mathlib.Core.Bool.{false≢true}
use Rattle.std.proofs.Common.{◌↔◌, ◌∙◌, ◌≡◌, subst, sym, true}
use Rattle.base.specs.{declared.kind.Kind.TheVariants.{Await, Notify}, Labels.is_in}
use Rattle.{policy.{specs.Policy.allows, proofs.Gathering.{either, row_tells, told_as, waiting_tells}}, reach.specs.Extents.limits_by}
use Rattle.summary.{specs.{Letters.{HasLetter, by_signal}, Ways.WaysOf}, proofs.{LetterSets.{signal_from, signal_to}, Waiting.of_kind}}
use Rattle.summary.proofs.ways.Ways.signals.Goals as goal

-- a label whose threads make no calls changes nothing
pub returns-then-not-has : goal.returns-then-not-has
returns-then-not-has c l =
    subst (λ (w : WaysOf). (is_in c.none.result l ≡ true) ↔ HasLetter by_signal (limits_by w.edges w.actors) c.args.actor l) c.self.view_is (
      λ is. absurd (false≢true (sym (c.none.ensures l) ∙ is)),
      λ has. absurd (false≢true (sym (sym c.has.ensures ∙ c.if-not-has.true) ∙ has.0.actor)),
    )

pub returns : goal.returns
returns c l =
    let edges = c.self.inside.policy.now in
    let test = allows edges in
    let actors = c.self.inside.actors in
    let acts = is_in actors in
    let actor = c.args.actor in
    let is_actor : acts actor ≡ true = sym c.has.ensures ∙ c.if-not-has.false in
    let notify = row_tells test Notify actor c.row-notify.result c.row-notify.ensures in
    let woken =
    waiting_tells test Await _ c.row-notify.result notify l (is_in c.waiting-woken.result l) (acts l)
    (of_kind edges Await c.self.inside.waiters c.self.invariant.waiters c.row-notify.result actors c.waiting-woken.result c.waiting-woken.ensures l) in
    subst (λ (w : WaysOf). (is_in c.union.result l ≡ true) ↔ HasLetter by_signal (limits_by w.edges w.actors) actor l) c.self.view_is
    (told_as (is_in c.union.result l)
    (either (is_in c.union.result l) (is_in c.row-notify.result l) (is_in c.waiting-woken.result l) (notify l) woken (c.union.ensures l))
    (λ w. let way = signal_to test acts actor l w in (record { actor = is_actor; way = way.0 }, way.1))
    (λ has. signal_from test acts actor l has.0.way has.1))
