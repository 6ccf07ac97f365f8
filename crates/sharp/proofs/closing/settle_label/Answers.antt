use mathlib.Core.Bool.{false≢true}
use Rattle.std.proofs.{Common.{ℕ, ◌∙◌, ◌≡◌, arith, subst, sym, true}, lemmas.Option.slice_get-get_or}
use Rattle.base.specs.Labels.{is_in}
use Rattle.policy.{specs.{Policy.allows, Sharp.Told}, proofs.{ClosingSets.one_more_kind, KindNumbers.{all_kinds, kind_number_below}}}
use Rattle.sharp.{specs.{Asked.{IsSettledAmong, SharesSharply}, Least.GrowsSharply}, proofs.AskedRules.{asked_among, shares_grow}}
use Rattle.sharp.proofs.{SharpGrowth.{grows_by_none, grows_more, grows_no_more}, closing.settle_label.Goals.{else-branch, then-branch}}
use Rattle.sharp.proofs.closing.settle_label.Goals as goal

pub loop-kind-init : goal.loop-kind-init
loop-kind-init c = record {
  grows = grows_by_none c.args.keeping c.args.policy.now;
  settled = λ is kind below. absurd (omega (arith, below));
  share = λ giver. (c.givers-sharing.ensures giver).0;
}

pub loop-kind-preserved : goal.loop-kind-preserved
loop-kind-preserved c =
    let from = c.args.from in
    let keeping = c.args.keeping in
    let keeps = Told (is_in keeping) in
    let shares = Told (is_in c.givers-sharing.result) in
    let old = c.args.policy.now in
    let middle = c.loop-kind.policy in
    let new = c.settle_row.new.policy in
    let step = c.in_ok-settle_row.ensures in
    let so_far = c.loop-kind.invariant in
    let share = λ (giver : ℕ) (is : is_in c.givers-sharing.result giver ≡ true).
    shares_grow (allows middle) (allows new) keeps step.grows.grows.kept giver from (so_far.share giver is) in
    elim c.if-branch.branch [
      | then-branch w ↦ record {
        grows = rw w.changed-is
            (grows_more keeping old middle new c.loop-kind.changed so_far.grows (subst (GrowsSharply keeping middle new) w.if-branch.true step.grows));
        settled = λ is. absurd (false≢true (sym is ∙ w.changed-is));
        share = share;
      }
      | else-branch w ↦ record {
        grows = rw w.changed-is
            (grows_no_more keeping old middle new c.loop-kind.changed so_far.grows (subst (GrowsSharply keeping middle new) w.if-branch.false step.grows));
        settled = λ is.
            one_more_kind (IsSettledAmong (allows new) keeps shares from) c.loop-kind.kind-index _
            (slice_get-get_or all_kinds c.loop-kind.kind-index _ (omega arith))
            (λ kind below. subst (λ edges. IsSettledAmong (allows edges) keeps shares from kind) (sym (step.grows.grows.same w.if-branch.false))
            (so_far.settled (sym w.changed-is ∙ is) kind below))
            (step.settled w.if-branch.false);
        share = share;
      }
    ]

pub returns-clause-settled : goal.returns-clause-settled
returns-clause-settled c is kind to asked =
    let from = c.args.from in
    let keeps = Told (is_in c.args.keeping) in
    let below = kind_number_below kind in
    let so_far = c.loop-kind.invariant in
    let same = so_far.grows.grows.same is in
    so_far.settled is kind (omega (arith, below)) to
    (asked_among (allows c.loop-kind.policy) keeps (λ giver. SharesSharply (allows c.loop-kind.policy) keeps giver from)
    (Told (is_in c.givers-sharing.result))
    (λ giver h. (c.givers-sharing.ensures giver).1 (subst (λ edges. SharesSharply (allows edges) keeps giver from) same h))
    from kind to asked)
