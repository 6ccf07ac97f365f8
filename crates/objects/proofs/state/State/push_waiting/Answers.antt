use Rattle.{std.proofs.Common.refl, machine.proofs.CapCounts.caps_to-with_waiting}
use Rattle.objects.proofs.{CapsKept.caps-pushed, ConsistentLemmas.{IsConsistent-pushed, push_gives}}
use Rattle.objects.proofs.{CountLemmas.counts-with_waiting, CountedStates.sound_after, PairLemmas.paired-with_waiting}
use Rattle.objects.proofs.state.State.push_waiting.Goals as goal

pub invariant_of-self : goal.invariant_of-self
invariant_of-self c =
    rw c.push.ensures
    (sound_after c.self.inside _ c.self.invariant
    (IsConsistent-pushed c.self.inside c.self.invariant.consistent c.args.id c.args.thread (rw c.self.view_is c.requires.present)
    (rw c.self.view_is c.requires.free)) refl refl refl
    (caps-pushed c.self.inside.store c.args.id c.args.thread _) _
    (push_gives c.self.inside c.self.invariant.consistent c.args.id c.args.thread (rw c.self.view_is c.requires.present)
    (rw c.self.view_is c.requires.free))
    (counts-with_waiting _ c.args.id c.args.thread) (caps_to-with_waiting _ c.args.id c.args.thread)
    (paired-with_waiting _ c.args.id c.args.thread c.self.invariant.paired))

pub returns : goal.returns
returns c =
    rw (c.push.ensures, ← c.self.view_is)
    (push_gives c.self.inside c.self.invariant.consistent c.args.id c.args.thread (rw c.self.view_is c.requires.present)
    (rw c.self.view_is c.requires.free))
