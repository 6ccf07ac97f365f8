use Rattle.integrity.proofs.{Keeps.some_event, RemovalKeeps.{removed_keeps, removed_sound, share_stays}, RemovalShrinks.absent_after}
use Rattle.integrity.proofs.removing.removals_stay_within_authority.Goals as goal

pub returns : goal.returns
returns c = record {
  sound = removed_sound;
  changes = λ t allowed a m chosen sound closed may awake id.
      (removed_keeps t allowed m chosen sound closed (some_event id) a may).acts awake id;
  absent = absent_after;
  budgets = share_stays;
}
