use Rattle.std.proofs.Common.{◌∙◌, ap, sym}
use Rattle.machine.specs.{Lookup.root_of, Machine.object_of}
use Rattle.objects.{specs.{Entries.{entry_of, slot_at}, Family.cap_in, Roots.held_by_thread, State.machine_of}, proofs.StateLemmas.tells-machine_of}
use Rattle.objects.proofs.state.State.root.Goals as goal

pub returns : goal.returns
returns c =
    let tells = tells-machine_of c.self.inside in
    rw (c.root.ensures, ← c.self.view_is)
    (ap (λ o. held_by_thread o (cap_in (slot_at (entry_of c.self.inside.store) (root_of c.args.thread)))) (sym (tells.objects c.args.thread))
    ∙ ap (held_by_thread (object_of (machine_of c.self.inside) c.args.thread)) (sym (tells.caps (root_of c.args.thread))))
