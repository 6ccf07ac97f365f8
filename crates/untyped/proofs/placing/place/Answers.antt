-- That each round writes one more object, and that none is left at the end.
use Rattle.std.proofs.{Common.{◌∙◌, arith, suc, sym, take, zero}, lemmas.List.{append-nil, take_all}}
use Rattle.untyped.proofs.Placed.{one_placed}
use Rattle.untyped.proofs.placing.place.Goals as goal

pub loop-object-preserved : goal.loop-object-preserved
loop-object-preserved c =
    let a = c.args in
    let inv = c.loop-object.invariant in
    let within = c.loop-object-test.true in
    let kept = c.loop-object.auto.objects in
    let next = c.next_multiple_of-address.ensures in
    let size = c.new_size-size.ensures in
    let most = next.upper_bound in
    let so_far = inv.2 in (
      λ left at.
          rw (c.new_object.ensures, next.value, size.value)
          (one_placed a.kind a.bits a.memory c.loop-object.objects _ c.loop-object.object-index left c.loop-object.mark
          (omega (arith, within, kept)) (inv.0 (suc left) (omega (arith, at)))),
      λ left at. rw (next.value, size.value) (inv.1 (suc left) (omega (arith, at))),
      omega (arith, so_far, size.least, size.most, most),
    )

pub returns-clause-objects : goal.returns-clause-objects
returns-clause-objects c =
    let past = c.loop-object-test.false in
    let kept = c.loop-object.auto.objects in
    let ended = c.loop-object.auto.object-index-end in
    sym (take_all c.loop-object.object-index c.loop-object.objects (omega (arith, past, kept)))
    ∙ sym (append-nil (take c.loop-object.object-index c.loop-object.objects))
    ∙ c.loop-object.invariant.0 zero (omega (arith, past, ended))

pub returns-clause-mark : goal.returns-clause-mark
returns-clause-mark c =
    let past = c.loop-object-test.false in
    let kept = c.loop-object.auto.objects in
    let ended = c.loop-object.auto.object-index-end in
    c.loop-object.invariant.1 zero (omega (arith, past, kept, ended))
