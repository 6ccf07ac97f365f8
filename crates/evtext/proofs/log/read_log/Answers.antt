-- The log that is read is the one that the definition reads, and the laws of logs and their texts hold of it.
use Rattle.words.{specs.Text.lines_of, proofs.{FirstFaults.{faults, refused_for}, ListLaws.{found, only}}}
use Rattle.evtext.{specs.Log.{log_format, log_header, read_log_of}, proofs.LogTexts.{format, plain_header}}
use Rattle.evtext.proofs.log.read_log.Goals as goal

pub returns : goal.returns
unfolding read_log_of
returns c =
    let read = c.entries_of.ensures.exact in
    record {
      exact = read;
      found = found format _ log_header c.args.text.now c.entries_of.result read;
      only = only format _ log_header c.args.text.now c.entries_of.result plain_header read;
      faults = faults _ log_format (lines_of c.args.text.now) c.entries_of.result read;
      refused = refused_for _ log_format (lines_of c.args.text.now) c.entries_of.result read;
    }
