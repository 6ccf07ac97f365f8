use Rattle.claims.specs.Reading.{read_claims_of}
use Rattle.claims.proofs.reading.body_of.Goals as goal

pub returns-in-Ok : goal.returns-in-Ok
unfolding read_claims_of
returns-in-Ok c = rw (c.new.ensures, c.in-Ok.is) at c.read_text.ensures

pub returns-in-Err : goal.returns-in-Err
unfolding read_claims_of
returns-in-Err c = rw (c.new.ensures, c.in-Err.is) at c.read_text.ensures
