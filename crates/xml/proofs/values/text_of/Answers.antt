use Rattle.std.{specs.Option.option_map, proofs.Common.{ℕ, ◌∙◌, Global, Option, Vec, ap, drop, sym}}
use Rattle.xml.{specs.Value.text_of, proofs.ValueBytes.{reference_cut, text_ends}}
use Rattle.xml.proofs.values.text_of.Goals as goal

pub returns-in-None-pending : goal.returns-in-None-pending
returns-in-None-pending c =
    let bytes = c.args.spelled.now in
    let at = c.loop-byte.byte-index in
    let text = c.loop-byte.text.items in
    sym (text_ends text bytes at c.loop-byte-test.false)
    ∙ ap (λ (p : Option (Vec ℕ Global)). text_of text (option_map (λ name. name.items) p) (drop at bytes)) (sym c.in-None-pending.is)
    ∙ c.loop-byte.invariant

pub returns-in-Some-pending : goal.returns-in-Some-pending
returns-in-Some-pending c =
    let bytes = c.args.spelled.now in
    let at = c.loop-byte.byte-index in
    let text = c.loop-byte.text.items in
    sym (reference_cut text c.in-Some-pending.field-0.items bytes at c.loop-byte-test.false)
    ∙ ap (λ (p : Option (Vec ℕ Global)). text_of text (option_map (λ name. name.items) p) (drop at bytes)) (sym c.in-Some-pending.is)
    ∙ c.loop-byte.invariant
