use Rattle.objects.proofs.{ConsistentLemmas.replace_gives, CountedStates.sound_replace}
use Rattle.objects.proofs.state.State.replace.Goals as goal

pub invariant_of-self : goal.invariant_of-self
invariant_of-self c =
    rw c.replace.ensures
    (sound_replace c.self.inside c.self.invariant c.args.id c.args.object c.cnode_takes_bits.ensures
    (rw c.self.view_is c.requires.present) (rw c.self.view_is c.requires.same_slots) (rw c.self.view_is c.requires.same_threads))

pub returns : goal.returns
returns c =
    rw (c.replace.ensures, ← c.self.view_is)
    (replace_gives c.self.inside c.self.invariant.consistent c.args.id c.args.object (rw c.self.view_is c.requires.present))
