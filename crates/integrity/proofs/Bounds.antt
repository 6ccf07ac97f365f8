-- Steps bounded by the labels that act are allowed ones: changes are within full authority, and losses within cut or full authority.
use Rattle.std.proofs.Common.{ℕ, ◌⊎◌, inl, inr}
use Rattle.{base.specs.declared.ids.ObjId.ObjId, machine.specs.{declared.call.Event.Event, Layout.Layout, Machine.Machine}}
use Rattle.policy.{specs.{Change.ActorTest, Cut.IsCut, Domain.EdgeTest, Full.IsFull}, proofs.Changing.{change_is_full, shrink_is_cut}}
use Rattle.integrity.specs.Allowed.{IsAllowedStep, IsModified, MayModify}
use Rattle.integrity.specs.{Altered.{IsAltered, IsNarrowStep, MayChangeOrShrink}, Shrinks.IsSame}

alter_modifies :
    (allowed : EdgeTest) (acts : ActorTest) (caller label : ℕ) (m next : Machine) (id : ObjId)
    → MayChangeOrShrink allowed acts caller label m next id → MayModify allowed caller label m next id
alter_modifies allowed acts caller label m next id (inl change) = inl (change_is_full allowed acts caller label change)
alter_modifies allowed acts caller label m next id (inr shrink) = by (shrink_is_cut allowed acts caller label shrink.0) where
  by : IsCut allowed caller label ⊎ IsFull allowed caller label → MayModify allowed caller label m next id
  by (inl cut) = inr (cut, shrink.1)
  by (inr full) = inl full

pub narrow_allowed :
    (t : Layout) (allowed : EdgeTest) (acts : ActorTest) (m next : Machine) (event : Event)
    → IsNarrowStep t allowed acts m event next → IsAllowedStep t allowed m event next
narrow_allowed t allowed acts m next event narrow id = by (narrow id) where
  by : IsSame m next id ⊎ IsAltered t allowed acts m next event.thread id → IsSame m next id ⊎ IsModified t allowed m next event.thread id
  by (inl same) = inl same
  by (inr altered) = inr (record {
    caller = altered.caller;
    calls = altered.calls;
    may = record {
      label = altered.may.label;
      labelled = altered.may.labelled;
      may = alter_modifies allowed acts altered.caller altered.may.label m next id altered.may.may;
    };
  })
