-- The extent is inserted after those that start below its end.
use Rattle.std.{specs.Result.is_ok, proofs.{Common.{◌≡◌, true}, lemmas.List.Sorted.IsPermutation-insert}}
use Rattle.table.proofs.ApartLemmas.{apart_with}
use Rattle.table.proofs.extent.insert_within.Goals as goal

pub returns-clause-items : goal.returns-clause-items
returns-clause-items c =
    let ok : is_ok c.insert.result ≡ true = c.if-is_err.ensures.negation in
    rw (rw ok at c.insert.ensures.items) (IsPermutation-insert c.args.rising.now.items c.count_below-at.result c.args.extent)

pub returns-clause-apart : goal.returns-clause-apart
returns-clause-apart c =
    let ok : is_ok c.insert.result ≡ true = c.if-is_err.ensures.negation in
    rw (rw ok at c.insert.ensures.items)
    (apart_with c.args.rising.now.items c.args.extent c.count_below-at.result c.requires.apart
    (rw c.as_slice.ensures.value at c.count_below-at.ensures.bound)
    (rw c.as_slice.ensures.value at c.count_below-at.ensures.parted) c.requires.upward c.requires.free)
