-- The next label has a name, or none can be found.
use Rattle.std.proofs.{Common.{◌∙◌, sym}, lemmas.Result.err_from_is_err_and}
use Rattle.microkit.{specs.{LabelView.bytes_of, View.description_of}, proofs.LabelSteps.{one_named, one_refused}}
use Rattle.microkit.proofs.labels.names_of.Goals as goal

pub returns-in_err-add_name : goal.returns-in_err-add_name
returns-in_err-add_name c =
    let p = err_from_is_err_and c.from_residual.result c.from_residual.ensures.1 in
    rw (p.1, p.2)
    (λ lacked. sym c.loop-subject.invariant
    ∙ one_refused (description_of c.args.description.now) (bytes_of c.loop-subject.names.items) c.args.subjects.now
    c.loop-subject.subject-index _ _ c.loop-subject-test.true (c.in_err-add_name.ensures lacked))

pub loop-subject-preserved : goal.loop-subject-preserved
loop-subject-preserved c =
    sym (one_named (description_of c.args.description.now) (bytes_of c.loop-subject.names.items) _ c.args.subjects.now
    c.loop-subject.subject-index _ c.loop-subject-test.true c.in_ok-add_name.ensures)
    ∙ c.loop-subject.invariant
