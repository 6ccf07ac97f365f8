use Rattle.std.proofs.Common.{◌≡◌}
use Rattle.certificate.{specs.Certificate.certificate_text, proofs.Certificates.certificate_is_read}
use Rattle.certificate.proofs.writing.write.Goals as goal

-- the text of a certificate for the table is read back
pub returns-clause-read_back : goal.returns-clause-read_back
returns-clause-read_back c = λ are.
    let text : c.into_bytes.result.items ≡ certificate_text c.args.table.now c.args.certificate.now =
    cc (c.into_bytes.ensures.value, c.in_ok-certificate_string.ensures) in
    certificate_is_read c.args.table.now c.into_bytes.result.items c.args.certificate.now c.keeps_rules.ensures are text
