use Rattle.std.proofs.Common.{ℕ, ◌++◌, ◌-◌, ◌==◌, ◌||◌, ◌∙◌, ◌≡◌, ap, arith, get_or, length, replicate, set, vec_len}
use Rattle.{std.proofs.lemmas.List.{get_or_read, take_all}, base.specs.Labels.{is_in, no_labels}}
use Rattle.policy.{specs.Rows.{row_count, row_number, row_of}, proofs.RowEdges.{filled, row_set}}
use Rattle.policy.proofs.policy.set.Goals as goal

pub returns-clause-added : goal.returns-clause-added
returns-clause-added c from kind to =
    let rows = c.args.rows.now.items in
    let grown = c.resize.new.self.items in
    let grown_vec = c.resize.new.self in
    let edge = c.args.edge.now in
    let at : c.number_of.result ≡ row_number edge.from edge.kind = c.number_of.ensures.value in
    let count : length grown ≡ row_count = omega (arith, grown_vec.ok.0, c.in_ok-resize.ensures.len) in
    let fill : grown ≡ rows ++ replicate (row_count - vec_len c.args.rows.now) c.none.result =
    c.in_ok-resize.ensures.items ∙ ap (λ front. front ++ replicate (row_count - vec_len c.args.rows.now) c.none.result) (take_all row_count rows (omega (arith, c.args.rows.now.ok.0, c.requires))) in
    let same : (n label : ℕ) → is_in (get_or grown n no_labels) label ≡ is_in (get_or rows n no_labels) label =
    λ n label.
    ap (λ all. is_in (get_or all n no_labels) label) fill
    ∙ filled rows (row_count - vec_len c.args.rows.now) n c.none.result label (c.none.ensures label) in
    let read : c.index_mut-row.result.now ≡ row_of grown edge.from edge.kind =
    get_or_read grown c.number_of.result c.index_mut-row.result.now (omega (arith, count, c.number_of.ensures.below)) c.index_mut-row.ensures.value no_labels
    ∙ ap (λ n. get_or grown n no_labels) at in
    let row : (label : ℕ) → is_in c.union.result label ≡ (is_in (row_of grown edge.from edge.kind) label || (label == edge.to)) =
    λ label. c.union.ensures label ∙ (λ i. is_in (read i) label || c.only.ensures label i) in
    ap (λ n. is_in (row_of (set grown n c.union.result) from kind) to) at
    ∙ row_set rows grown edge c.union.result count c.number_of.ensures.label same row from kind to
