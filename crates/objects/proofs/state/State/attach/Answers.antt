use Rattle.{std.proofs.Common.refl, machine.proofs.CapCounts.caps_to-with_parent}
use Rattle.objects.proofs.{CapsKept.caps-attached, CountLemmas.counts-with_parent, CountedStates.sound_after}
use Rattle.objects.proofs.{PairLemmas.paired-with_parent, TreeState.{IsConsistent-attached, attach_gives}}
use Rattle.objects.proofs.state.State.attach.Goals as goal

pub invariant_of-self : goal.invariant_of-self
invariant_of-self c =
    rw c.attach.ensures
    (sound_after c.self.inside _ c.self.invariant
    (IsConsistent-attached c.self.inside c.self.invariant.consistent c.args.slot c.args.parent (rw c.self.view_is c.requires.below)
    (rw c.self.view_is c.requires.above) (rw c.self.view_is c.requires.root) (rw c.self.view_is c.requires.ranked)) refl refl refl
    (caps-attached c.self.inside.store c.args.slot c.args.parent) _
    (attach_gives c.self.inside c.self.invariant.consistent c.args.slot c.args.parent (rw c.self.view_is c.requires.below)
    (rw c.self.view_is c.requires.above) (rw c.self.view_is c.requires.root) (rw c.self.view_is c.requires.ranked))
    (counts-with_parent _ c.args.slot c.args.parent) (caps_to-with_parent _ c.args.slot c.args.parent)
    (paired-with_parent _ c.args.slot c.args.parent (rw c.self.view_is c.requires.low) (rw c.self.view_is c.requires.high)
    c.self.invariant.paired))

pub returns : goal.returns
returns c =
    rw (c.attach.ensures, ← c.self.view_is)
    (attach_gives c.self.inside c.self.invariant.consistent c.args.slot c.args.parent (rw c.self.view_is c.requires.below)
    (rw c.self.view_is c.requires.above) (rw c.self.view_is c.requires.root) (rw c.self.view_is c.requires.ranked))
