use Rattle.{std.proofs.Common.arith, machine.specs.Changes.with_none_going}
use Rattle.objects.{specs.State.machine_of, proofs.{CountedStates.{going_gives, sound_going}, PairLemmas.paired-with_none_going}}
use Rattle.objects.proofs.state.State.clear_going.Goals as goal

pub invariant_of-self : goal.invariant_of-self
unfolding with_none_going
invariant_of-self c =
    let room = c.clear.ensures.capacity in
    sound_going c.self.inside _ c.self.invariant (omega (arith, room)) _ (going_gives c.self.inside _ _ c.clear.ensures.items)
    (paired-with_none_going (machine_of c.self.inside) (rw c.self.view_is c.requires))

pub returns : goal.returns
unfolding with_none_going
returns c = rw (← c.self.view_is) (going_gives c.self.inside _ _ c.clear.ensures.items)
