-- Room is made for the objects that may be going, then the objects are added at once.
use Rattle.std.{specs.{List.fold, Prelude.vec_capacity}, proofs.Common.{◌+◌, ◌^◌, ◌∙◌, ◌≤◌, ap, arith, length}}
use Rattle.{std.proofs.lemmas.Result.err_from_is_err_and, machine.specs.Machine.with_new}
use Rattle.objects.proofs.ConsistentLemmas.{all_added_gives}
use Rattle.objects.proofs.{CountedStates.{room_gives, sound_all_added, sound_room}, StateLemmas.next-machine_of}
use Rattle.objects.proofs.state.State.add_objects.Goals as goal

pub invariant_of-self : goal.invariant_of-self
invariant_of-self c = sound_room c.self.inside c.reserve.new.self c.self.invariant c.in_err-reserve.ensures.capacity c.in_err-reserve.ensures.items

pub returns-in_err-reserve-clause-err : goal.returns-in_err-reserve-clause-err
returns-in_err-reserve-clause-err c =
    let p = err_from_is_err_and c.from_residual.result c.from_residual.ensures.1 in
    rw (p.1, ← c.self.view_is) (room_gives c.self.inside c.reserve.new.self c.in_err-reserve.ensures.items)

pub add_all-requires : goal.add_all-requires
add_all-requires c = rw (← next-machine_of c.self.inside, c.self.view_is) c.requires

pub invariant_of-self-in_err-add_all : goal.invariant_of-self-in_err-add_all
invariant_of-self-in_err-add_all c =
    rw c.in_err-add_all.ensures.err
    (sound_room c.self.inside c.reserve.new.self c.self.invariant c.in_ok-reserve.ensures.capacity c.in_ok-reserve.ensures.items)

pub returns-in_err-add_all-clause-err : goal.returns-in_err-add_all-clause-err
returns-in_err-add_all-clause-err c =
    let p = err_from_is_err_and c.from_residual-in_err-add_all.result c.from_residual-in_err-add_all.ensures.1 in
    rw (p.1, ← c.self.view_is, c.in_err-add_all.ensures.err)
    (room_gives c.self.inside c.reserve.new.self c.in_ok-reserve.ensures.items)

pub invariant_of-self-2 : goal.invariant_of-self-2
invariant_of-self-2 c =
    let s = c.self.inside in
    let room : s.next + length c.args.objects.now ≤ 2 ^ 48 = rw (← next-machine_of s, c.self.view_is) c.requires in
    let left = c.in_ok-reserve.ensures.ok in
    let roomy : s.counts.objects + length c.args.objects.now ≤ vec_capacity c.reserve.new.self = omega (arith, left) in
    rw (c.in_ok-add_all.ensures.ok, c.with_all-self-inside.ensures)
    (sound_all_added (record s { going = c.reserve.new.self })
    (sound_room s c.reserve.new.self c.self.invariant c.in_ok-reserve.ensures.capacity c.in_ok-reserve.ensures.items) c.args.objects.now room
    c.in_ok-add_all.ensures.radices roomy)

pub returns-clause-ok : goal.returns-clause-ok
returns-clause-ok c =
    let s = c.self.inside in
    let room : s.next + length c.args.objects.now ≤ 2 ^ 48 = rw (← next-machine_of s, c.self.view_is) c.requires in
    rw (c.in_ok-add_all.ensures.ok, c.with_all-self-inside.ensures, ← c.self.view_is)
    (all_added_gives (record s { going = c.reserve.new.self })
    (sound_room s c.reserve.new.self c.self.invariant c.in_ok-reserve.ensures.capacity c.in_ok-reserve.ensures.items).consistent c.args.objects.now room
    c.in_ok-add_all.ensures.radices
    ∙ ap (λ m. fold with_new m c.args.objects.now) (room_gives s c.reserve.new.self c.in_ok-reserve.ensures.items))
