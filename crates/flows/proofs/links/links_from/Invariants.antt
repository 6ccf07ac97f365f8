-- The links so far lead to where the way is, and from there the first of the links lead on.
use Rattle.std.proofs.Common.{ℕ, ◌≤◌, length}
use Rattle.{reach.specs.Extents.Limits, flows.{specs.{Chains.{AreFoundLinks, IsLinked}, Flowing.FilterTest}, proofs.FoundLinks.IsOnTheWay}}
use Rattle.flows.proofs.links.links_from.Given as goal

abbrev pub invariant-loop-left : goal.invariant-loop-left
invariant-loop-left l =
    (l.left ≤ length l.links)
    × ((limits : Limits) (filters : FilterTest) (to : ℕ) (are : AreFoundLinks limits filters to l.links)
    → IsLinked to l.links (length l.links) l.fn.from → IsOnTheWay limits filters l.fn.from to l.links are l.chain.items l.at l.left)

abbrev pub decreases-loop-left : goal.decreases-loop-left
decreases-loop-left l = l.left
