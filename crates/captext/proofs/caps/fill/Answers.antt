-- The tests of a capability's line give what the table asks of a capability.
use Rattle.std.proofs.Common.{◌∙◌, ◌≡◌, ap, false, sym, true}
use Rattle.table.specs.{Building.declares_slot, Rules.kind_at}
use Rattle.captext.{specs.Tables.{is_claimed, may_fill}, proofs.{Admits.admits_cap, CapLines.target_takes}}
use Rattle.captext.proofs.caps.fill.Goals as goal

pub add_cap-requires : goal.add_cap-requires
add_cap-requires c =
    let t = c.args.draft.now in
    let told = target_takes t c.args.target c.args.terms c.in_ok-detail.detail c.requires.spelled (sym c.in_ok-detail.ensures) in
    let once : is_claimed t c.args.target ≡ false = sym c.is_claimed.ensures ∙ c.if-is_claimed.false in
    let fills : may_fill (kind_at t c.args.holder) c.args.place (kind_at t c.args.target) ≡ true =
    ap (λ k. may_fill k c.args.place (kind_at t c.args.target)) (sym c.kind.ensures)
    ∙ ap (λ k. may_fill c.kind.result c.args.place k) (sym c.kind-2.ensures)
    ∙ sym c.may_fill.ensures
    ∙ c.if-not-may_fill.false in
    let within =
    sym (ap (declares_slot t) c.slot_in-slot.ensures) ∙ sym c.declares_slot.ensures ∙ c.if-not-declares_slot.false in
    rw c.slot_in-slot.ensures
    (admits_cap t c.args.holder c.args.place c.args.target c.in_ok-detail.detail
    c.requires.rises within fills told.fitting told.kind_is once)
