use Rattle.std.proofs.Common.{◌∙◌, ◌≡◌, ap, arith, get_or, sym}
use Rattle.base.{specs.Labels.{is_in, no_labels}, proofs.LabelParts.in_no_labels}
use Rattle.policy.{specs.{Policy.allows, Rows.row_of}, proofs.RowEdges.row_allows}
use Rattle.policy.proofs.policy.Policy.row.Goals as goal

pub returns-in-Some : goal.returns-in-Some
returns-in-Some c to =
    let rows = c.self.inside.rows.items in
    let row : c.in-Some.row.now ≡ row_of rows c.args.from c.args.kind =
    c.in-Some.ensures.lookup.4 (omega arith) no_labels
    ∙ (λ i. get_or (c.deref.ensures.value i) (c.number_of.ensures.value i) no_labels) in
    ap (λ r. is_in r to) row ∙ row_allows rows c.self.inside.span c.self.invariant.few c.self.invariant.labels c.args.from c.args.kind to
    ∙ ap (λ edges. allows edges c.args.from c.args.kind to) c.self.view_is

pub returns-in-None : goal.returns-in-None
returns-in-None c to =
    let rows = c.self.inside.rows.items in
    let row : no_labels ≡ row_of rows c.args.from c.args.kind =
    c.in-None.ensures.lookup.4 (omega arith) no_labels
    ∙ (λ i. get_or (c.deref.ensures.value i) (c.number_of.ensures.value i) no_labels) in
    c.none.ensures to ∙ sym (in_no_labels to)
    ∙ ap (λ r. is_in r to) row ∙ row_allows rows c.self.inside.span c.self.invariant.few c.self.invariant.labels c.args.from c.args.kind to
    ∙ ap (λ edges. allows edges c.args.from c.args.kind to) c.self.view_is
