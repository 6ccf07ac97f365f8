-- That the search ends with all keepers: when no label keeps by one step from those found.
use Rattle.std.proofs.{Common.{◌<◌, ◌∙◌, inl, inr, subst, sym}, lemmas.Bool.{false≢true, or_cases, or_left, or_right}}
use Rattle.{base.specs.Labels.is_in, policy.specs.Policy.allows}
use Rattle.sharp.{specs.Keeping.KeepsFrom.held, proofs.{KeeperSearch.{all_keep, beside_keeps}, Missing.fewer_missing}}
use Rattle.sharp.proofs.keeping.keepers.Goals as goal

pub loop-label-init : goal.loop-label-init
loop-label-init c = record { begins = λ a is. is; keep = λ a is. held is; steps = c.beside-more.ensures }

pub loop-label-smaller : goal.loop-label-smaller
loop-label-smaller c =
    let keeping = c.loop-label.keeping in
    let more = c.loop-label.more in
    let label = c.in-Some.label in
    let among = c.in-Some.ensures.some.0 in
    fewer_missing (is_in keeping) (is_in c.union-keeping.result)
    (λ a is. c.union-keeping.ensures a ∙ or_left (is_in keeping a) (is_in more a) is) label
    ((c.loop-label.invariant.steps label).0 among).missing
    (c.union-keeping.ensures label ∙ or_right (is_in keeping label) (is_in more label) among)
    256 (subst (λ n. n < 256) c.number.ensures.value c.number.ensures.below)

pub loop-label-preserved : goal.loop-label-preserved
loop-label-preserved c =
    let keeping = c.loop-label.keeping in
    let more = c.loop-label.more in
    let so_far = c.loop-label.invariant in
    record {
      begins = λ a is. c.union-keeping.ensures a ∙ or_left (is_in keeping a) (is_in more a) (so_far.begins a is);
      keep = λ a is. elim (or_cases (is_in keeping a) (is_in more a) (sym (c.union-keeping.ensures a) ∙ is)) [
        | inl before ↦ so_far.keep a before
        | inr now ↦ beside_keeps (allows c.args.policy.now) (is_in c.args.held) (is_in keeping) so_far.keep a ((so_far.steps a).0 now)
      ];
      steps = c.beside-more-in-Some.ensures;
    }

pub returns : goal.returns
returns c a =
    let so_far = c.loop-label.invariant in (
      so_far.keep a,
      all_keep (allows c.args.policy.now) (is_in c.args.held) (is_in c.loop-label.keeping) so_far.begins
          (λ b beside. false≢true (sym (c.in_default.ensures.none b) ∙ (so_far.steps b).1 beside)) a,
    )
