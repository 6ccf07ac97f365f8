-- The end of a hop, by what the guard and the radix leave.
use Rattle.std.proofs.Common.{◌≡◌, Bool, Err, List, None, Ok, Some, refl}
use Rattle.base.specs.declared.refusal.LookupFailure.TheVariants.{DepthMismatch, GuardMismatch}
use Rattle.machine.specs.{Bits.{after, number, split}, Lookup.{Level, hop}}

pub hop-apart : (level : Level) (string : List Bool) → after level.guard string ≡ None → hop level string ≡ Err GuardMismatch
unfolding hop
hop-apart level string e = rw e refl

pub hop-deep :
    (level : Level) (string rest : List Bool) → after level.guard string ≡ Some rest → split level.radix rest ≡ None
    → hop level string ≡ Err DepthMismatch
unfolding hop
hop-deep level string rest e f = rw (e, f) refl

pub hop-slot :
    (level : Level) (string rest : List Bool) (parts : List Bool × List Bool) → after level.guard string ≡ Some rest
    → split level.radix rest ≡ Some parts
    → hop level string ≡ Ok (record { holder = level.node; index = number parts.0 }, parts.1)
unfolding hop
hop-slot level string rest parts e f = rw (e, f) refl
