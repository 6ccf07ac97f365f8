-- A chain leads, by a link, from each label that was found, and only such labels flow to those that are done.
use Rattle.std.proofs.Common.{ℕ, ◌+◌, ◌≡◌, length, true}
use Rattle.{base.specs.Labels.is_in, sharp.proofs.Missing.missing_below, reach.specs.Extents.limits_of}
use Rattle.flows.{specs.Chains.{AreFoundLinks, IsLinked}, proofs.Leading.AreLeading}
use Rattle.flows.proofs.flowing.Flows.search.Given as goal

abbrev pub invariant-loop-label : goal.invariant-loop-label
invariant-loop-label l =
    AreLeading (limits_of l.self) (is_in l.filters) l.fn.to (is_in l.done) (is_in l.labels)
    × ((x : ℕ) → is_in l.labels x ≡ true → IsLinked l.fn.to l.links.items (length l.links.items) x)
    × AreFoundLinks (limits_of l.self) (is_in l.filters) l.fn.to l.links.items

abbrev pub decreases-loop-label : goal.decreases-loop-label
decreases-loop-label l = missing_below (is_in l.done) 256 + missing_below (is_in l.labels) 256
