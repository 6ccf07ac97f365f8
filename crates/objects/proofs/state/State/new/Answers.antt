use Rattle.{std.proofs.Common.refl, objects.proofs.{ConsistentLemmas.empty_gives, CountedStates.sound_empty}}
use Rattle.objects.proofs.state.State.new.Goals as goal

pub invariant_of-result : goal.invariant_of-result
invariant_of-result c = sound_empty _ c.new.ensures refl refl c.new-2.ensures.items

pub returns : goal.returns
returns c = empty_gives _ c.new.ensures refl c.new-2.ensures.items
