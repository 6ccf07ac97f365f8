use Rattle.std.{specs.Prelude.bytes_eq, proofs.Common.{◌<◌, ◌≡◌, false}}
use Rattle.base.specs.{declared.kind.Kind.Kind, Kinds.{kind_name, kind_number}}
use Rattle.base.proofs.kind.Kind.from_name.Given as goal

-- none of the kinds that were looked at has the name
abbrev pub invariant-loop-kind : goal.invariant-loop-kind
invariant-loop-kind l = (kind : Kind) → kind_number kind < l.kind-index → bytes_eq (kind_name kind) l.name ≡ false
