-- No line comes before the first.
use Rattle.std.proofs.{Common.{[], ◌∙◌, ◌≡◌}, lemmas.Result.err_from_is_err_and}
use Rattle.certificate.specs.Reading.{read_certificate_of}
use Rattle.certificate.proofs.reading.lines_of.Goals as goal

pub returns : goal.returns
unfolding read_certificate_of
returns c =
    let none : c.of.result ≡ [] = c.of.ensures ∙ c.new.ensures.items in
    rw none at c.in_ok-read_text.ensures

pub returns-in_err-read_text : goal.returns-in_err-read_text
unfolding read_certificate_of
returns-in_err-read_text c =
    let none : c.of.result ≡ [] = c.of.ensures ∙ c.new.ensures.items in
    let fault = err_from_is_err_and c.from_residual.result c.from_residual.ensures.1 in
    rw (fault.1, fault.2) (rw none at c.in_err-read_text.ensures)
