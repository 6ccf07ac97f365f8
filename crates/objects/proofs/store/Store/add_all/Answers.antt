-- The entries are added one by one, after room was found for all of them.
use Rattle.std.{specs.Vec.Iter.into_iter_items, proofs.{Common.{◌+◌, ◌∙◌, ap, arith, length, sym}, lemmas.List.length-map}}
use Rattle.std.proofs.lemmas.{List.nil_from_length, Result.err_from_is_err_and}
use Rattle.objects.{specs.Entries.{new_entry, with_more}, proofs.PlaceLemmas.{IsPlaced-added, IsPlaced-same, added_by_number}}
use Rattle.objects.proofs.PlaceLemmas.{same_by_number}
use Rattle.objects.proofs.store.Store.add_all.Goals as goal

pub returns-in_err-reserve-clause-err : goal.returns-in_err-reserve-clause-err
returns-in_err-reserve-clause-err c =
    let p = err_from_is_err_and c.from_residual-in_err-reserve.result c.from_residual-in_err-reserve.ensures.1 in
    rw (p.1, ← c.self.view_is)
    (same_by_number c.self.inside (record c.self.inside { places = c.reserve.new.places; entries = c.reserve.new.entries })
    c.in_err-reserve.ensures.same)

pub loop-entry-init : goal.loop-entry-init
loop-entry-init c =
    let t = record c.self.inside { places = c.reserve.new.places; entries = c.reserve.new.entries } in
    let same = c.in_ok-reserve.ensures.same in
    let room = c.in_ok-reserve.ensures.room in
    let gives = c.into_iter-entry-iterator.ensures.into_iter_gives in
    let left = gives.0 ∙ c.in_ok-made.ensures.made in
    let all = ap length left ∙ length-map c.args.objects.now new_entry in
    let whole = c.in_ok-made.made.ok in
    let of = ap length gives.0 in
    let count = c.len.ensures in (
      IsPlaced-same c.self.inside t c.self.invariant same,
      ap (λ e. with_more e c.args.first (into_iter_items c.into_iter-entry-iterator.result))
          (same_by_number c.self.inside t same ∙ c.self.view_is)
          ∙ ap (with_more c.args.self.now c.args.first) left,
      (omega (arith, room.0, of, whole, count), omega (arith, room.1, of, whole, count)),
      ap (λ n. c.args.first + n) all,
      gives.1 ∙ sym (omega (arith, of, whole)),
    )

pub invariant_of-self-in-None : goal.invariant_of-self-in-None
invariant_of-self-in-None c = c.loop-entry.invariant.0

pub add_reserved-requires : goal.add_reserved-requires
add_reserved-requires c =
    let steps = c.in-Some.ensures.steps in
    let count = ap length steps.0 in
    let room = c.loop-entry.invariant.2 in
    (omega (arith, count, room.0), omega (arith, count, room.1))

pub overflow_add-number : goal.overflow_add-number
overflow_add-number c =
    let steps = c.in-Some.ensures.steps in
    let count = ap length steps.0 in
    let sum = c.loop-entry.invariant.3 in
    let most = c.requires in
    omega (arith, count, sum, most)

pub loop-entry-preserved : goal.loop-entry-preserved
loop-entry-preserved c =
    let steps = c.in-Some.ensures.steps in
    let count = ap length steps.0 in
    let inv = c.loop-entry.invariant in
    let s = c.loop-entry.self-inside in
    let t = record s { places = c.add_reserved.new.places; entries = c.add_reserved.new.entries } in
    let added = c.add_reserved.ensures.added in
    let room = c.add_reserved.ensures.room in (
      IsPlaced-added s t inv.0 c.loop-entry.number c.in-Some.entry added,
      ap (λ e. with_more e (c.loop-entry.number + 1) (into_iter_items c.next.new.self))
          (added_by_number s t inv.0 c.loop-entry.number c.in-Some.entry added)
          ∙ ap (with_more _ c.loop-entry.number) (sym steps.0) ∙ inv.1,
      room (length (into_iter_items c.next.new.self)) (omega (arith, count, inv.2.0), omega (arith, count, inv.2.1)),
      omega (arith, count, inv.3),
      omega (arith, count, steps.1, inv.4),
    )

pub returns-clause-ok : goal.returns-clause-ok
returns-clause-ok c =
    let inv = c.loop-entry.invariant in
    let none = nil_from_length _ (sym inv.4 ∙ c.in-None.ensures.steps.0) in
    ap (with_more _ c.loop-entry.number) (sym none) ∙ inv.1
