use Rattle.std.{specs.Io.KnownBytes.Consumes, proofs.Common.{◌-◌, ◌^◌, ◌≡◌, false, vec_items, vec_len}}
use Rattle.devices.proofs.source.Source.read_whole.Given as goal

-- the bytes that were read so far were left at first, and nothing failed
abbrev pub invariant-loop-bytes : goal.invariant-loop-bytes
invariant-loop-bytes g l =
    Consumes (g.Self.Source.remaining l.initial.self) (g.Self.Source.remaining l.self) (vec_items l.bytes)
    × (g.Self.Source.failed l.self ≡ false)

-- each turn adds a byte
abbrev pub decreases-loop-bytes : goal.decreases-loop-bytes
decreases-loop-bytes g l = 2 ^ 63 - vec_len l.bytes
