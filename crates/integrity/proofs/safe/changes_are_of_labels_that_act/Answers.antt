use Rattle.integrity.proofs.Actors.{change_acts, idle_changes_nothing}
use Rattle.integrity.proofs.safe.changes_are_of_labels_that_act.Goals as goal

pub returns-clause-changed : goal.returns-clause-changed
returns-clause-changed c = λ t allowed m next event outcome id refuses reached step differs.
    change_acts t allowed refuses m next event outcome id reached step differs

pub returns-clause-content : goal.returns-clause-content
returns-clause-content c = λ t allowed m next event outcome id refuses reached step differs.
    change_acts t allowed refuses m next event outcome id reached step (λ same. differs same.content)

pub returns-clause-never : goal.returns-clause-never
returns-clause-never c = λ t allowed a l refuses idle. idle_changes_nothing t allowed refuses a l idle
