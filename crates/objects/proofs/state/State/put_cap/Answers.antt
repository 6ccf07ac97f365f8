use Rattle.std.specs.Prelude.{Some}
use Rattle.std.proofs.Common.{◌+◌, ◌∙◌, ap, arith}
use Rattle.objects.proofs.{CapBounds.caps_bounded, CapsKept.caps-with_slot, CountedStates.{cap_set_gives, sound_put}, TreeState.put_cap_gives}
use Rattle.objects.proofs.state.State.put_cap.Goals as goal

pub count_more-requires : goal.count_more-requires
count_more-requires c =
    let kept = caps-with_slot c.self.inside.store c.args.slot (λ slot. record slot { cap = Some c.args.cap }) c.args.cap.object in
    let bounded = caps_bounded c.self.inside c.self.invariant.consistent c.args.cap.object in
    let tallied = c.self.invariant.tallied c.args.cap.object in
    rw c.set_cap.ensures (omega (arith, kept, bounded, tallied))

pub invariant_of-self : goal.invariant_of-self
invariant_of-self c =
    rw (c.count_more.ensures, c.set_cap.ensures)
    (sound_put c.self.inside c.self.invariant c.args.slot c.args.cap _ (rw c.self.view_is c.requires.there)
    (rw c.self.view_is c.requires.vacant) (rw c.self.view_is c.requires.object)
    (ap (λ n. n + 1)
    (caps-with_slot c.self.inside.store c.args.slot (λ slot. record slot { cap = Some c.args.cap }) c.args.cap.object
    ∙ c.self.invariant.tallied c.args.cap.object)))

pub returns : goal.returns
returns c =
    rw (c.count_more.ensures, c.set_cap.ensures, ← c.self.view_is)
    (cap_set_gives c.self.inside c.args.slot c.args.cap _ _ _
    (put_cap_gives c.self.inside c.self.invariant.consistent c.args.slot c.args.cap (rw c.self.view_is c.requires.there)))
