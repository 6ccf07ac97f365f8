use Rattle.{std.proofs.Common.{[], take}, machine.specs.Boot.IsBoot}
use Rattle.kernel.proofs.boot_state.fill.Given as goal

abbrev pub invariant-loop-filled : goal.invariant-loop-filled
invariant-loop-filled l = IsBoot (record l.table { caps = take l.filled-index l.table.caps; pairs = [] }) l.state
