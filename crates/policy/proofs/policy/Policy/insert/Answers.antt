use Rattle.std.proofs.Common.{[], ◌++◌, ◌||◌, ◌∙◌, ◌∷◌, Some, ap, arith, subst, sym}
use Rattle.base.specs.declared.label.TheConstants.Label as Label
use Rattle.policy.{specs.{Policy.{IsAboveLast, IsRising, allows, is_edge}, Rows.{edges_of_rows, last_with}}, proofs.Members.last_added}
use Rattle.policy.proofs.{Members.{not_above, pushed}, RowEdges.{edges_added, edges_rising}}
use Rattle.policy.proofs.policy.Policy.insert.Goals as goal

pub returns-in_err-set-clause-rising : goal.returns-in_err-set-clause-rising
returns-in_err-set-clause-rising c = edges_rising c.set.new.rows.items

pub invariant_of-self-then-not-contains : goal.invariant_of-self-then-not-contains
invariant_of-self-then-not-contains c =
    let old = c.self.inside.rows.items in
    let rows = c.set.new.rows in
    let new = rows.items in
    let edge = c.args.edge in
    let greatest = c.span_with-self-inside.ensures.greatest in
    let after = edges_added old new c.self.inside.span c.span_with-self-inside.result edge (omega arith) c.span_with-self-inside.ensures.few (omega arith) (omega arith)
    c.in_ok-set.ensures.added c.self.invariant.labels in
    record {
      count = omega (arith, rows.ok.0, c.set.ensures.count);
      few = c.span_with-self-inside.ensures.few;
      labels = after.labels;
      greatest = ap Some (c.later.ensures ∙ ap (λ last. last_with last edge) c.self.invariant.greatest)
          ∙ sym (last_added (edges_of_rows old) (edges_of_rows new) edge (edges_rising old) (edges_rising new) after.added);
    }

pub returns-in_ok-set-clause-rising : goal.returns-in_ok-set-clause-rising
returns-in_ok-set-clause-rising c = edges_rising c.set.new.rows.items

pub returns-in_ok-set-clause-added : goal.returns-in_ok-set-clause-added
returns-in_ok-set-clause-added c from kind to =
    let after = edges_added c.self.inside.rows.items c.set.new.rows.items c.self.inside.span Label.COUNT c.args.edge c.self.invariant.few (omega arith)
    c.joins_labels.ensures.from c.joins_labels.ensures.to
    c.in_ok-set.ensures.added c.self.invariant.labels in
    after.added from kind to ∙ ap (λ edges. is_edge from kind to c.args.edge || allows edges from kind to) c.self.view_is

pub returns-in_ok-set-clause-pushed : goal.returns-in_ok-set-clause-pushed
returns-in_ok-set-clause-pushed c above =
    let old = c.self.inside.rows.items in
    let new = c.set.new.rows.items in
    let edge = c.args.edge in
    let after = edges_added old new c.self.inside.span Label.COUNT edge c.self.invariant.few (omega arith) c.joins_labels.ensures.from c.joins_labels.ensures.to
    c.in_ok-set.ensures.added c.self.invariant.labels in
    pushed (edges_of_rows old) (edges_of_rows new) edge (edges_rising old) (edges_rising new) after.added
    (subst (λ edges. IsAboveLast edges edge) (sym c.self.view_is) above)
    ∙ ap (λ edges. edges ++ edge ∷ []) c.self.view_is

pub returns-else-not-contains-clause-rising : goal.returns-else-not-contains-clause-rising
returns-else-not-contains-clause-rising c = subst IsRising c.self.view_is (edges_rising c.self.inside.rows.items)

pub returns-else-not-contains-clause-pushed : goal.returns-else-not-contains-clause-pushed
returns-else-not-contains-clause-pushed c above =
    let rising : IsRising c.args.self.now = subst IsRising c.self.view_is (edges_rising c.self.inside.rows.items) in
    absurd (not_above c.args.self.now c.args.edge rising (sym c.contains.ensures ∙ c.if-not-contains.false) above)
