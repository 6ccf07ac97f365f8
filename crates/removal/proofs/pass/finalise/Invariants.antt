-- First the replies so far have let go of their threads, and then all so far has lost its links.
use Rattle.{std.proofs.Common.take, removal.proofs.Passes.{HoldersHalted, LinksCut}}
use Rattle.removal.proofs.pass.finalise.Given as goal

abbrev pub invariant-loop-place : goal.invariant-loop-place
invariant-loop-place l = HoldersHalted l.fn.state (take l.place l.fn.state.going) l.state

abbrev pub invariant-loop-index : goal.invariant-loop-index
invariant-loop-index l = LinksCut l.fn.state l.fn.state.going (take l.index l.fn.state.going) l.state
