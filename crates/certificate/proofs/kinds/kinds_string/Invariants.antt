use Rattle.std.proofs.Common.{filter, map, string_bytes, take}
use Rattle.{base.specs.{declared.kind.TheConstants.Kind.ALL, Kinds.{is_among, kind_name}}, certificate.proofs.KindWords.IsWritten}
use Rattle.certificate.proofs.kinds.kinds_string.Given as goal

-- the names of the kinds so far are written
abbrev pub invariant-loop-kind : goal.invariant-loop-kind
invariant-loop-kind l =
    IsWritten (string_bytes l.text) l.separator (map kind_name (filter (is_among l.kinds.0) (take l.kind-index ALL)))
