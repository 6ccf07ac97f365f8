use Rattle.std.proofs.Common.{[], ◌++◌, ◌<◌, ◌∙◌, ◌∷◌, ◌≡◌, ap, arith, length, sym}
use Rattle.machine.specs.{Changes.with_going, Counts.objects_in}
use Rattle.objects.{specs.State.machine_of, proofs.{CountedStates.{going_gives, sound_going}, PairLemmas.paired-with_going}}
use Rattle.objects.proofs.StateLemmas.{going-machine_of}
use Rattle.objects.proofs.state.State.add_going.Goals as goal

pub push_reserved-requires : goal.push_reserved-requires
push_reserved-requires c =
    let s = c.self.inside in
    let room : length (machine_of s).going < objects_in (machine_of s) = rw c.self.view_is c.requires.room in
    let listed : length (machine_of s).going ≡ length s.going.items = ap length (going-machine_of s) in
    let exact = ap (λ counts. counts.objects) c.self.invariant.counted.exact in
    let roomy = c.self.invariant.roomy in
    let whole = s.going.ok.0 in
    omega (arith, room, listed, exact, roomy, whole)

pub invariant_of-self : goal.invariant_of-self
unfolding with_going
invariant_of-self c =
    let room = c.push_reserved.ensures.capacity in
    sound_going c.self.inside _ c.self.invariant (omega (arith, room)) _
    (going_gives c.self.inside _ _
    (c.push_reserved.ensures.items ∙ ap (λ going. going ++ c.args.id ∷ []) (sym (going-machine_of c.self.inside))))
    (paired-with_going _ c.args.id c.self.invariant.paired)

pub returns : goal.returns
unfolding with_going
returns c =
    rw (← c.self.view_is)
    (going_gives c.self.inside _ _
    (c.push_reserved.ensures.items ∙ ap (λ going. going ++ c.args.id ∷ []) (sym (going-machine_of c.self.inside))))
