-- Configure (seL4 manual, seL4_SchedControl_ConfigureFlags): a scheduling context gets a budget and a period on the core of a control.
use Rattle.std.specs.Prelude.{ℕ, ◌&&◌, Err, Ok, Option, Result, Some, if◌then◌else◌, nat_le}
use Rattle.base.specs.declared.{ids.ObjId.ObjId, limits.TheConstants.MAX_PERIOD, refusal.Cause.{Cause, Cause as cause}}
use Rattle.machine.specs.declared.{call.{Answer.Answer as answer, Made.{Made, TheVariants.Done}}, object.Object.{Object, Object as o}}
use Rattle.machine.specs.{declared.object.{ObjectKind.ObjectKind as kind, Share.Share}, Changes.with_context, Machine.{Machine, object_of}}
use Rattle.machine.specs.{Refusing.◌>>=◌, Step.Find.find}

-- a budget is at least 1, and at most its period, which has a limit
abbrev pub in_limits : ℕ → ℕ → Result (Unit {0}) Cause
in_limits budget period =
    if nat_le 1 budget && (nat_le budget period && nat_le period MAX_PERIOD) then Ok tt else Err cause.RangeError

-- the core of a control
abbrev pub core_in : Option Object → ℕ
core_in (Some (o.Control control)) = control.core
core_in _ = 0

-- a scheduling context has a share of a core
unfoldable pub with_share : Machine → ObjId → Share → Machine
with_share m id share = by_content (object_of m id) where
  by_content : Option Object → Machine
  by_content (Some (o.Context context)) = with_context m id (record context { share = Some share })
  by_content _ = m

unfoldable pub configure_of : Machine → ObjId → ℕ → ℕ → ℕ → ℕ → Result (Made × Machine) Cause
configure_of m caller control address budget period = do
  governs ← find kind.Control m caller control
  found ← find kind.Context m caller address
  _ ← in_limits budget period
  Ok (
    Done answer.Nothing,
    with_share m found.1.object (record { core = core_in (object_of m governs.1.object); budget = budget; period = period }),
  )
