-- The certificate that is read is the one that the definition reads, and the laws of certificates and their texts hold of it.
use Rattle.words.{specs.Text.lines_of, proofs.{FirstFaults.{faults, refused_for}, ListLaws.{found, only}}}
use Rattle.certificate.specs.{Certificate.certificate_header, Reading.{certificate_format, read_certificate_of}}
use Rattle.certificate.proofs.Certificates.{format, plain_header}
use Rattle.certificate.proofs.reading.read.Goals as goal

pub returns : goal.returns
unfolding read_certificate_of
returns c =
    let read = c.lines_of.ensures in
    let lines = format c.args.table.now c.keeps_rules.ensures in
    record {
      exact = read;
      found = found lines _ certificate_header c.args.text.now c.lines_of.result read;
      only = only lines _ certificate_header c.args.text.now c.lines_of.result plain_header read;
      faults = faults _ (certificate_format c.args.table.now) (lines_of c.args.text.now) c.lines_of.result read;
      refused = refused_for _ (certificate_format c.args.table.now) (lines_of c.args.text.now) c.lines_of.result read;
    }
