use Rattle.std.proofs.Common.{◌∙◌, sym}
use Rattle.objects.proofs.{Emptied.{one_at_least, sound_emptied, sound_taken, taken_gives}, TreeState.take_cap_gives}
use Rattle.objects.proofs.state.State.take_cap.Goals as goal

pub count_less-requires : goal.count_less-requires
count_less-requires c =
    rw c.empty_slot.ensures.emptied
    (one_at_least c.self.inside c.args.slot c.in-Some.object (sym c.empty_slot.ensures.value ∙ c.in-Some.is) c.self.invariant)

pub invariant_of-self : goal.invariant_of-self
invariant_of-self c =
    rw (c.count_less.ensures, c.empty_slot.ensures.emptied)
    (sound_taken c.self.inside c.args.slot c.in-Some.object (sym c.empty_slot.ensures.value ∙ c.in-Some.is) c.self.invariant
    (rw c.self.view_is c.requires))

pub invariant_of-self-in_default : goal.invariant_of-self-in_default
invariant_of-self-in_default c =
    rw c.empty_slot.ensures.emptied
    (sound_emptied c.self.inside c.args.slot c.self.invariant (sym c.empty_slot.ensures.value ∙ c.in_default.is))

pub returns-in-Some : goal.returns-in-Some
returns-in-Some c =
    rw (c.count_less.ensures, c.empty_slot.ensures.emptied, ← c.self.view_is)
    (taken_gives c.self.inside c.args.slot c.in-Some.object (sym c.empty_slot.ensures.value ∙ c.in-Some.is) c.self.invariant)

pub returns-in_default : goal.returns-in_default
returns-in_default c =
    rw (c.empty_slot.ensures.emptied, ← c.self.view_is)
    (take_cap_gives c.self.inside c.self.invariant.consistent c.args.slot)
