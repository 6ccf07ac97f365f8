use Rattle.steps.proofs.RemovalRows.{delete_done, revoke_done}
use Rattle.integrity.proofs.{Keeps.some_event, RemovalCalls.{delete_keeps, revoke_keeps}}
use Rattle.integrity.proofs.removing.deletes_and_revokes_stay_within_authority.Goals as goal

pub returns : goal.returns
returns c = record {
  delete = λ t allowed a m next caller address made sound closed labelled e.
      let done = delete_keeps t allowed (some_event caller) a m sound closed caller labelled address next (delete_done m caller address made next e) in
      (done.0, done.1.acts);
  revoke = λ t allowed a m next caller address made sound closed labelled e.
      let done = revoke_keeps t allowed (some_event caller) a m sound closed caller labelled address next (revoke_done m caller address made next e) in
      (done.0, done.1.acts);
}
