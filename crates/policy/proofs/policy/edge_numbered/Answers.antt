use Rattle.std.proofs.Common.{◌%◌, ◌/◌, arith, slice_index_or}
use Rattle.base.specs.declared.kind.{Kind.TheVariants.Control, TheConstants.Kind.ALL}
use Rattle.policy.{specs.Rows.{edge_at, kind_count}, proofs.RowEdges.parts_within}
use Rattle.policy.proofs.policy.edge_numbered.Goals as goal
use mathlib.Core.Bool.{false≢true}

pub nonzero_div-row : goal.nonzero_div-row
nonzero_div-row c =
    let parts = parts_within c.args.labels c.args.number (omega arith) in
    omega arith

pub nonzero_rem-to : goal.nonzero_rem-to
nonzero_rem-to c =
    let parts = parts_within c.args.labels c.args.number (omega arith) in
    omega arith

pub overflow_cast-row : goal.overflow_cast-row
overflow_cast-row c =
    let parts = parts_within c.args.labels c.args.number (omega arith) in
    omega arith

pub overflow_cast-to : goal.overflow_cast-to
overflow_cast-to c =
    let parts = parts_within c.args.labels c.args.number (omega arith) in
    omega arith

pub returns-in_err-new : goal.returns-in_err-new
returns-in_err-new c =
    let parts = parts_within c.args.labels c.args.number (omega arith) in
    absurd (false≢true (c.in_err-new.ensures.valid.1 (omega arith)))

pub returns-in_err-new-2 : goal.returns-in_err-new-2
returns-in_err-new-2 c =
    let parts = parts_within c.args.labels c.args.number (omega arith) in
    absurd (false≢true (c.in_err-new-2.ensures.valid.1 (omega arith)))

pub returns : goal.returns
unfolding edge_at
returns c = (
  omega arith,
  λ i. record { from = c.in_ok-new.ensures.value i; kind = slice_index_or ALL (c.args.number / c.args.labels % kind_count) Control; to = c.in_ok-new-2.ensures.value i },
)
