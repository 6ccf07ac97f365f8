use Rattle.captext.proofs.TableLaws.{table_iff, table_once}
use Rattle.captext.proofs.tables.tables_are_read_back.Goals as goal

pub returns : goal.returns
returns c =
    let law = c.lawful_tables_are_built_up.ensures.tables in record { named = table_iff law; once = table_once law }
