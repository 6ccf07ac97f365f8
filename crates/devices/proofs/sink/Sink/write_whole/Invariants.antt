use Rattle.std.{specs.Io.KnownBytes.Appends, proofs.Common.{◌-◌, ◌≡◌, ◌≤◌, false, length, take}}
use Rattle.devices.proofs.sink.Sink.write_whole.Given as goal

-- what was written so far is a beginning of the bytes, and nothing failed
abbrev pub invariant-loop-written : goal.invariant-loop-written
invariant-loop-written g l =
    Appends (g.Self.Sink.contents l.initial.self) (g.Self.Sink.contents l.self) (take l.written l.bytes)
    × (l.written ≤ length l.bytes)
    × (g.Self.Sink.failed l.self ≡ false)

-- each turn writes a byte
abbrev pub decreases-loop-written : goal.decreases-loop-written
decreases-loop-written g l = length l.bytes - l.written
