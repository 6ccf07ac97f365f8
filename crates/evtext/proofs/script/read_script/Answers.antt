-- The script that is read is the one that the definition reads, and the laws of scripts and their texts hold of it.
use Rattle.words.{specs.Text.lines_of, proofs.{FirstFaults.{faults, refused_for}, ListLaws.{found, only}}}
use Rattle.evtext.{specs.Script.{read_script_of, script_format, script_header}, proofs.Scripts.{format, plain_header}}
use Rattle.evtext.proofs.script.read_script.Goals as goal

pub returns : goal.returns
unfolding read_script_of
returns c =
    let read = c.events_of.ensures.exact in
    record {
      exact = read;
      found = found format _ script_header c.args.text.now c.events_of.result read;
      only = only format _ script_header c.args.text.now c.events_of.result plain_header read;
      faults = faults _ script_format (lines_of c.args.text.now) c.events_of.result read;
      refused = refused_for _ script_format (lines_of c.args.text.now) c.events_of.result read;
    }
