use Rattle.std.proofs.Common.{◌&&◌, ◌<◌, ◌^◌, ◌≡◌, nat_lt}
use Rattle.{base.specs.{declared.kind.Kind.Kind, Kinds.{is_among, kind_number}}, machine.specs.Capabilities.gives}
use Rattle.machine.proofs.cap.Cap.kinds.Given as goal

-- the kinds so far are those that the capability gives, and no bit is another
abbrev pub invariant-loop-kind : goal.invariant-loop-kind
invariant-loop-kind l = record {
  each : (kind : Kind) → is_among l.kinds.0 kind ≡ (nat_lt (kind_number kind) l.kind-index && gives l.self.detail kind);
  alone : l.kinds.0 < 2 ^ 17;
}
