use Rattle.{std.proofs.Common.refl, machine.proofs.CapCounts.caps_to-without_waiting}
use Rattle.objects.proofs.{CapsKept.caps-quitted, ConsistentLemmas.{IsConsistent-quitted, quit_gives}}
use Rattle.objects.proofs.{CountLemmas.counts-without_waiting, CountedStates.sound_after, PairLemmas.paired-without_waiting}
use Rattle.objects.proofs.state.State.take_waiting.Goals as goal

pub invariant_of-self : goal.invariant_of-self
invariant_of-self c =
    rw c.take_out.ensures
    (sound_after c.self.inside _ c.self.invariant
    (IsConsistent-quitted c.self.inside c.self.invariant.consistent c.args.id c.args.thread (rw c.self.view_is c.requires)) refl refl refl
    (caps-quitted c.self.inside.store c.args.id c.args.thread _) _
    (quit_gives c.self.inside c.self.invariant.consistent c.args.id c.args.thread (rw c.self.view_is c.requires))
    (counts-without_waiting _ c.args.id c.args.thread) (caps_to-without_waiting _ c.args.id c.args.thread)
    (paired-without_waiting _ c.args.id c.args.thread c.self.invariant.paired))

pub returns : goal.returns
returns c =
    rw (c.take_out.ensures, ← c.self.view_is)
    (quit_gives c.self.inside c.self.invariant.consistent c.args.id c.args.thread (rw c.self.view_is c.requires))
