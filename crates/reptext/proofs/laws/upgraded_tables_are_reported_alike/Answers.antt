use Rattle.reptext.proofs.Upgraded.{reported, reported_upgraded, same_names, same_outside, same_places}
use Rattle.reptext.proofs.laws.upgraded_tables_are_reported_alike.Goals as goal

pub returns : goal.returns
returns c = record {
  report = λ t edges text. (reported t edges text, reported_upgraded t edges text);
  places = same_places;
  outside = same_outside;
  names = same_names;
}
