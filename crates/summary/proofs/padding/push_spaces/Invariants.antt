use Rattle.std.{specs.Prelude.replicate, proofs.Common.{◌++◌, ◌≡◌, string_bytes}}
use Rattle.summary.proofs.padding.push_spaces.Given as goal

abbrev pub invariant-loop-index : goal.invariant-loop-index
invariant-loop-index l = string_bytes l.text ≡ string_bytes l.fn.text ++ replicate l.index 32
