use mathlib.Core.Bool.{false≢true}
use Rattle.std.proofs.Common.{◌↔◌, ◌∙◌, ◌≡◌, subst, sym, true}
use Rattle.base.specs.{declared.kind.Kind.TheVariants.{Receive, Reply, Send}, Labels.is_in}
use Rattle.{policy.{specs.Policy.allows, proofs.Gathering.{either, row_tells, told_as, waiting_tells}}, reach.specs.Extents.limits_by}
use Rattle.summary.specs.{Letters.{HasLetter, by_answer}, Ways.{IsHeldBy, WaysOf}}
use Rattle.summary.proofs.{LetterSets.{answer_from, answer_to}, Waiting.{held_answers, of_kind}}
use Rattle.summary.proofs.ways.Ways.answers.Goals as goal

-- a label whose threads make no calls changes nothing
pub returns-then-not-has : goal.returns-then-not-has
returns-then-not-has c l =
    subst (λ (w : WaysOf). (is_in c.none.result l ≡ true) ↔ HasLetter by_answer (limits_by w.edges w.actors) c.args.actor l) c.self.view_is (
      λ is. absurd (false≢true (sym (c.none.ensures l) ∙ is)),
      λ has. absurd (false≢true (sym (sym c.has.ensures ∙ c.if-not-has.true) ∙ has.0.actor)),
    )

pub returns : goal.returns
returns c l =
    let edges = c.self.inside.policy.now in
    let test = allows edges in
    let actors = c.self.inside.actors in
    let acts = is_in actors in
    let actor = c.args.actor in
    let is_actor : acts actor ≡ true = sym c.has.ensures ∙ c.if-not-has.false in
    let receive = row_tells test Receive actor c.row-receive.result c.row-receive.ensures in
    let reply = row_tells test Reply actor c.row-reply.result c.row-reply.ensures in
    let reached =
    waiting_tells test Send _ c.row-receive.result receive l (is_in c.waiting-reached.result l) (acts l)
    (of_kind edges Send c.self.inside.senders c.self.invariant.senders c.row-receive.result actors c.waiting-reached.result c.waiting-reached.ensures l) in
    let answered = held_answers edges acts actor l c.row-reply.result (is_in c.answered-answered.result l) reply
    (subst (λ (w : WaysOf). (is_in c.answered-answered.result l ≡ true) ↔ IsHeldBy (allows w.edges) (is_in w.actors) c.row-reply.result l) (sym c.self.view_is) (c.answered-answered.ensures l)) in
    let returned = told_as (is_in c.row_among-returned.result l) (c.row_among-returned.ensures l)
    (λ w. (w.0, (c.self.invariant.borrowers actor).0 w.1)) (λ h. (h.0, (c.self.invariant.borrowers actor).1 h.1)) in
    subst (λ (w : WaysOf). (is_in c.union.result l ≡ true) ↔ HasLetter by_answer (limits_by w.edges w.actors) actor l) c.self.view_is
    (told_as (is_in c.union.result l)
    (either (is_in c.union.result l) (is_in c.union-given_back.result l) (is_in c.answered-answered.result l) (either (is_in c.union-given_back.result l) (is_in c.union-met.result l) (is_in c.row_among-returned.result l) (either (is_in c.union-met.result l) (is_in c.union-own.result l) (is_in c.waiting-reached.result l) (either (is_in c.union-own.result l) (is_in c.row-receive.result l) (is_in c.row-reply.result l) (receive l) (reply l) (c.union-own.ensures l)) reached (c.union-met.ensures l)) returned (c.union-given_back.ensures l)) answered (c.union.ensures l))
    (λ w. let way = answer_to test acts actor l w in (record { actor = is_actor; way = way.0 }, way.1))
    (λ has. answer_from test acts actor l has.0.way has.1))
