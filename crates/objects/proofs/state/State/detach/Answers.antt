use Rattle.{std.proofs.Common.refl, machine.proofs.CapCounts.caps_to-without_parent}
use Rattle.objects.proofs.{CapsKept.caps-detached, CountLemmas.counts-without_parent, CountedStates.sound_after}
use Rattle.objects.proofs.{PairLemmas.paired-without_parent, TreeState.{IsConsistent-detached, detach_gives}}
use Rattle.objects.proofs.state.State.detach.Goals as goal

pub invariant_of-self : goal.invariant_of-self
invariant_of-self c = rw c.detach.ensures
    (sound_after c.self.inside _ c.self.invariant (IsConsistent-detached c.self.inside c.self.invariant.consistent c.args.slot) refl refl refl
    (caps-detached c.self.inside.store c.args.slot) _
    (detach_gives c.self.inside c.self.invariant.consistent c.args.slot) (counts-without_parent _ c.args.slot)
    (caps_to-without_parent _ c.args.slot)
    (paired-without_parent _ c.args.slot c.self.invariant.paired))

pub returns : goal.returns
returns c = rw (c.detach.ensures, ← c.self.view_is) (detach_gives c.self.inside c.self.invariant.consistent c.args.slot)
