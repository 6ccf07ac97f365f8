use Rattle.std.proofs.Common.{[], ◌∙◌, ap, arith, get_or, length}
use Rattle.reptext.{specs.Objects.entry_words, proofs.Numbered.{all, more}}
use Rattle.reptext.proofs.listing.write_entries.Goals as goal

-- the next object is written with its number and its name
pub loop-number-preserved : goal.loop-number-preserved
loop-number-preserved c =
    let t = c.args.table.now in
    let own = c.objects-initial-items.ensures in
    let initial = c.initial-item.result in
    more (λ entry. entry_words t entry.0 entry.1.0 entry.1.1) t.names t.objects own.lawful.draft.objects.named c.loop-number.number [] initial _ _ _
    (omega (arith, ap length own.objects))
    (c.initial-item.is ∙ ap (λ objects. get_or objects c.loop-number.number initial) own.objects)
    c.loop-number.invariant c.in_ok-write_entry.ensures

pub returns : goal.returns
returns c =
    let t = c.args.table.now in
    let own = c.objects-initial-items.ensures in
    all (λ entry. entry_words t entry.0 entry.1.0 entry.1.1) t.names t.objects own.lawful.draft.objects.named c.loop-number.number _ _
    (omega (arith, ap length own.objects)) c.loop-number.invariant
