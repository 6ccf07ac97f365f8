use Rattle.integrity.proofs.Aparts.{never_changes, only_takes}
use Rattle.integrity.proofs.safe.bounded_systems_keep_labels_apart.Goals as goal

pub returns-clause-apart : goal.returns-clause-apart
returns-clause-apart c = λ t allowed acts a l bounds actors. never_changes t allowed acts actors a l bounds

pub returns-clause-takes : goal.returns-clause-takes
returns-clause-takes c = λ t allowed acts a l bounds actors. only_takes t allowed acts actors a l bounds
