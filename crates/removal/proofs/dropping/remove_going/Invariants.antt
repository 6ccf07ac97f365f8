-- The objects before have gone, and nothing holds to those that are left.
use Rattle.std.proofs.Common.{◌≡◌, Contains, take}
use Rattle.{base.specs.declared.ids.ObjId.ObjId, removal.specs.Dropping.{IsCutOff, without_objects}}
use Rattle.removal.proofs.dropping.remove_going.Given as goal

abbrev pub invariant-loop-next : goal.invariant-loop-next
invariant-loop-next l = record {
  going : l.state.going ≡ l.fn.state.going;
  gone : l.state ≡ without_objects l.fn.state (take l.next l.fn.state.going);
  cut : (id : ObjId) → Contains l.fn.state.going id → IsCutOff l.state id;
}
