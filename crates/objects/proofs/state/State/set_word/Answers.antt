use Rattle.objects.proofs.{ConsistentLemmas.word_gives, CountedStates.sound_word}
use Rattle.objects.proofs.state.State.set_word.Goals as goal

pub invariant_of-self : goal.invariant_of-self
invariant_of-self c = rw c.set_word.ensures (sound_word c.self.inside c.self.invariant c.args.id c.args.index c.args.word)

pub returns : goal.returns
returns c = rw (c.set_word.ensures, ← c.self.view_is) (word_gives c.self.inside c.args.id c.args.index c.args.word)
