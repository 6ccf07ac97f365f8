-- A made retype stays within authority, by what it keeps.
use Rattle.std.proofs.Common.{ℕ, ◌≡◌, Ok, Some}
use Rattle.base.specs.declared.ids.ObjId.{ObjId}
use Rattle.machine.specs.{declared.{call.Made.Made, object.MemoryKind.MemoryKind}, Authority.label_of, Layout.Layout, Machine.Machine}
use Rattle.{machine.specs.Step.Retype.retype_of, steps.proofs.RetypeRow.retype_done, policy.specs.Domain.EdgeTest}
use Rattle.integrity.{specs.{Invariant.IsSound, Keeping.IsSharp}, proofs.{Keeps.{Keeps, some_event}, RetypeKeeps.retype_keeps}}
use Rattle.integrity.proofs.making.what_is_made_stays_within_authority.Goals as goal

keeps :
    (t : Layout) (allowed : EdgeTest) (a : ℕ) (m next : Machine) (caller : ObjId) (untyped : ℕ) (of : MemoryKind)
    (bits to offset count : ℕ) (made : Made) → IsSound t allowed m → IsSharp t allowed → label_of t m caller ≡ Some a
    → retype_of m caller untyped of bits to offset count ≡ Ok (made, next) → Keeps t allowed m (some_event caller) a m next
keeps t allowed a m next caller untyped of bits to offset count made sound closed labelled e =
    retype_keeps t allowed (some_event caller) a m sound closed caller labelled untyped of bits to offset count next
    (retype_done m caller untyped of bits to offset count made next e)

pub returns : goal.returns
returns c = record {
  confined = λ t allowed a m next caller untyped of bits to offset count made sound closed labelled e.
      (keeps t allowed a m next caller untyped of bits to offset count made sound closed labelled e).held.confined;
  labelled = λ t allowed a m next caller untyped of bits to offset count made sound closed labelled e.
      (keeps t allowed a m next caller untyped of bits to offset count made sound closed labelled e).held.of_table;
  changes = λ t allowed a m next caller untyped of bits to offset count made sound closed labelled e awake.
      (keeps t allowed a m next caller untyped of bits to offset count made sound closed labelled e).acts awake;
}
