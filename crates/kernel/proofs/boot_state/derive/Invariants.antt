use Rattle.{std.proofs.Common.take, machine.specs.Boot.IsBoot}
use Rattle.kernel.proofs.boot_state.derive.Given as goal

abbrev pub invariant-loop-pair : goal.invariant-loop-pair
invariant-loop-pair l = IsBoot (record l.table { pairs = take l.pair-index l.table.pairs }) l.state
