use Rattle.std.proofs.Common.{[], ◌∙◌, ap, arith, get_or, length}
use Rattle.captext.{specs.TableText.object_words, proofs.Written.{named_all, named_more}}
use Rattle.captext.proofs.write.write_objects.Goals as goal

-- the next object is written with its name
pub loop-id-preserved : goal.loop-id-preserved
loop-id-preserved c =
    let t = c.args.table.now in
    let own = c.objects-initial-items.ensures in
    let initial = c.initial-item.result in
    named_more (λ named. object_words t named.0 named.1) t.names t.objects c.loop-id.id [] initial _ _ _
    own.lawful.draft.objects.named (omega (arith, ap length own.objects))
    (c.initial-item.is ∙ ap (λ objects. get_or objects c.loop-id.id initial) own.objects)
    c.loop-id.invariant c.in_ok-write_object.ensures

pub returns : goal.returns
returns c =
    let t = c.args.table.now in
    let own = c.objects-initial-items.ensures in
    named_all (λ named. object_words t named.0 named.1) t.names t.objects c.loop-id.id _ _
    own.lawful.draft.objects.named (omega (arith, ap length own.objects)) c.loop-id.invariant
