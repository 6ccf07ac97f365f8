use Rattle.{words.{specs.Text.lines_of, proofs.FirstFaults.{faults, refused_for}}, claims.specs.Reading.{claims_format, read_claims_of}}
use Rattle.claims.proofs.reading.read.Goals as goal

pub returns-clause-faults : goal.returns-clause-faults
unfolding read_claims_of
returns-clause-faults c =
    faults _ (claims_format c.args.table.now) (lines_of c.args.text.now) c.body_of.result c.body_of.ensures

pub returns-clause-refused : goal.returns-clause-refused
unfolding read_claims_of
returns-clause-refused c =
    refused_for _ (claims_format c.args.table.now) (lines_of c.args.text.now) c.body_of.result c.body_of.ensures
