-- A table that is read is tied to its text by the law of texts, and a refused text to its first fault.
use Rattle.words.{specs.Text.lines_of, proofs.FirstFaults.{faults, refused_for}}
use Rattle.captext.{specs.Tables.{read_table_of, table_format}, proofs.TableLaws.{found, only}}
use Rattle.captext.proofs.tables.read_table.Goals as goal

pub returns : goal.returns
unfolding read_table_of
returns c =
    let law = c.tables_are_read_back.ensures.named in
    let read = c.table_of.ensures in
    record {
      exact = read;
      found = found c.table_of.result c.args.text.now law read;
      only = only c.table_of.result c.args.text.now law read;
      faults = faults _ (table_format (lines_of c.args.text.now)) (lines_of c.args.text.now) c.table_of.result read;
      refused = refused_for _ (table_format (lines_of c.args.text.now)) (lines_of c.args.text.now) c.table_of.result read;
    }
