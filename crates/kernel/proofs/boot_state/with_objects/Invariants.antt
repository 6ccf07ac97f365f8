use Rattle.{std.proofs.Common.{[], take}, machine.specs.Boot.IsBoot}
use Rattle.kernel.proofs.boot_state.with_objects.Given as goal

abbrev pub invariant-loop-initial : goal.invariant-loop-initial
invariant-loop-initial l =
    IsBoot (record l.table { objects = take l.initial-index l.table.objects; caps = []; pairs = [] }) l.state
