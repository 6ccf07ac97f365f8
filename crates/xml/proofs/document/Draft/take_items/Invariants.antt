-- The comments and tags that are left make of the draft what all of them make.
use Rattle.std.proofs.Common.{◌-◌, ◌≡◌}
use Rattle.xml.specs.Document.{items_at}
use Rattle.xml.proofs.document.Draft.take_items.Given as goal

abbrev pub invariant-loop : goal.invariant-loop
invariant-loop l = items_at (l.count - l.counter) l.self l.cursor ≡ items_at l.count l.fn.self l.fn.cursor
