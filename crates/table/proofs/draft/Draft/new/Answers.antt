use Rattle.table.proofs.DraftKept.{draft_empty}
use Rattle.table.proofs.draft.Draft.new.Goals as goal

pub invariant_of-result : goal.invariant_of-result
invariant_of-result c =
    rw
    (c.new.ensures, c.new-2.ensures.names, c.new-2.ensures.objects, c.new-3.ensures, c.new-4.ensures.items, c.new-5.ensures)
    (draft_empty c.args.version)
