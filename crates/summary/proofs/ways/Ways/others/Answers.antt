use Rattle.std.proofs.Common.{ℕ, ◌↔◌, ◌∙◌, ◌≡◌, subst, sym, true}
use Rattle.base.specs.{declared.kind.Kind.TheVariants.{Await, Control, Grant, Receive, Write}, Labels.is_in}
use Rattle.policy.{specs.Policy.allows, proofs.Gathering.{either, row_tells, target_tells, told_as, waiting_tells}}
use Rattle.reach.specs.Extents.{limits_by}
use Rattle.summary.{specs.{Letters.{HasLetter, by_other}, Ways.WaysOf}, proofs.{LetterSets.{other_from, other_to}, Waiting.of_kind}}
use Rattle.summary.proofs.ways.Ways.others.Goals as goal
use mathlib.Core.Bool.{false≢true}

-- a label whose threads make no calls changes nothing
pub returns-then-not-has : goal.returns-then-not-has
returns-then-not-has c l =
    subst (λ (w : WaysOf). (is_in c.none.result l ≡ true) ↔ HasLetter by_other (limits_by w.edges w.actors) c.args.actor l) c.self.view_is (
      λ is. absurd (false≢true (sym (c.none.ensures l) ∙ is)),
      λ has. absurd (false≢true (sym (sym c.has.ensures ∙ c.if-not-has.true) ∙ has.0.actor)),
    )

pub returns : goal.returns
returns c l =
    let edges = c.self.inside.policy.now in
    let test = allows edges in
    let actors = c.self.inside.actors in
    let acts = is_in actors in
    let actor = c.args.actor in
    let is_actor : acts actor ≡ true = sym c.has.ensures ∙ c.if-not-has.false in
    let control = row_tells test Control actor c.row-control.result c.row-control.ensures in
    let poll = row_tells test Await actor c.row-poll.result c.row-poll.ensures in
    let write = row_tells test Write actor c.row-write.result c.row-write.ensures in
    let grant = row_tells test Grant actor c.row-grant.result c.row-grant.ensures in
    let takers = λ (receiver : ℕ).
    waiting_tells test Receive _ c.row-grant.result grant receiver (is_in c.waiting-takers.result receiver) (acts receiver)
    (of_kind edges Receive c.self.inside.receivers c.self.invariant.receivers c.row-grant.result actors c.waiting-takers.result c.waiting-takers.ensures receiver) in
    let granted = target_tells test Control _ c.waiting-takers.result takers l (is_in c.targets-granted.result l) (c.targets-granted.ensures l) in
    let lent = told_as (is_in c.row_among-lent.result l) (c.row_among-lent.ensures l)
    (λ w. (w.0, (c.self.invariant.lenders actor).0 w.1)) (λ h. (h.0, (c.self.invariant.lenders actor).1 h.1)) in
    subst (λ (w : WaysOf). (is_in c.union.result l ≡ true) ↔ HasLetter by_other (limits_by w.edges w.actors) actor l) c.self.view_is
    (told_as (is_in c.union.result l)
    (either (is_in c.union.result l) (is_in c.union-moved.result l) (is_in c.targets-granted.result l) (either (is_in c.union-moved.result l) (is_in c.union-used.result l) (is_in c.row_among-lent.result l) (either (is_in c.union-used.result l) (is_in c.union-own.result l) (is_in c.contexts.result l) (either (is_in c.union-own.result l) (is_in c.union-taken.result l) (is_in c.row-write.result l) (either (is_in c.union-taken.result l) (is_in c.row-control.result l) (is_in c.row-poll.result l) (control l) (poll l) (c.union-taken.ensures l)) (write l) (c.union-own.ensures l)) (c.contexts.ensures l) (c.union-used.ensures l)) lent (c.union-moved.ensures l)) granted (c.union.ensures l))
    (λ w. let way = other_to test acts actor l w in (record { actor = is_actor; way = way.0 }, way.1))
    (λ has. other_from test acts actor l has.0.way has.1))
