use Rattle.steps.proofs.RemovalRows.{deleted_empty, revoked_childless}
use Rattle.steps.proofs.removal_laws.deletes_and_revokes_leave_nothing.Goals as goal

pub returns-clause-delete : goal.returns-clause-delete
returns-clause-delete c = deleted_empty

pub returns-clause-revoke : goal.returns-clause-revoke
returns-clause-revoke c = revoked_childless
