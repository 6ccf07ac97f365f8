-- That the objects are added to a machine that keeps what it has, and a retype is made at once.
use Rattle.std.proofs.{Common.{◌∙◌, ap, arith, length}, lemmas.List.length-take-le}
use Rattle.untyped.proofs.Grown.{all_made, cap_past_news, free_past_news, length-new_objects, news_there}
use Rattle.untyped.proofs.retyping.make.Goals as goal

pub fill-requires-clause-free : goal.fill-requires-clause-free
fill-requires-clause-free c =
    rw c.in_ok-add_objects.ensures.ok
    (free_past_news c.args.state.now c.place-mark.new.objects c.args.making.window c.requires.node c.requires.free)

pub fill-requires-clause-made : goal.fill-requires-clause-made
fill-requires-clause-made c =
    let count = ap length c.place-mark.ensures.objects ∙ length-new_objects _ _ _ _ ∙ length-take-le c.args.making.window.count _ c.requires.few in
    rw (c.in_ok-add_objects.ensures.ok, c.next_id-first.ensures.value)
    (λ number low high. news_there c.args.state.now c.place-mark.new.objects number low (omega (arith, high, count)))

pub fill-requires-clause-above : goal.fill-requires-clause-above
fill-requires-clause-above c =
    rw (c.in_ok-add_objects.ensures.ok, cap_past_news c.args.state.now c.place-mark.new.objects c.args.making.source.slot)
    c.requires.held

pub returns-clause-ok : goal.returns-clause-ok
returns-clause-ok c =
    rw (
      c.set_watermark.ensures,
      c.fill.ensures,
      c.in_ok-add_objects.ensures.ok,
      c.next_id-first.ensures.value,
      c.place-mark.ensures.objects,
      c.place-mark.ensures.mark,
    )
    (all_made c.args.state.now c.args.making _ (length-take-le c.args.making.window.count _ c.requires.few) c.requires)
