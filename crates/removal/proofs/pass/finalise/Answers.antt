-- Each turn takes one more of those that go.
use Rattle.std.{specs.Prelude.{List, None, Some, slice_get}, proofs.Common.{◌∙◌, ◌≡◌, ◌≤◌, ap, arith, length, subst, sym}}
use Rattle.{std.proofs.lemmas.List.take_all, base.specs.declared.ids.ObjId.ObjId, machine.specs.Releasing.with_holder_halted}
use Rattle.removal.{specs.Finalised.with_links_cut, proofs.Passes.{LinksCut, agreed_in, all_cut, is_taken, next_cut, next_halted}}
use Rattle.removal.proofs.{Passes.none_halted, pass.finalise.Goals.{in-Some, in-Some-going, in_default, in_default-going}}
use Rattle.removal.proofs.pass.finalise.Goals as goal

pub loop-place-init : goal.loop-place-init
loop-place-init c = none_halted c.args.state.now c.requires

pub unlink-requires : goal.unlink-requires
unlink-requires c thread tcb id there waits =
    let h = c.loop-place.invariant in
    (agreed_in c.args.state.now c.requires h.done c.loop-place.state h.follows).waiting thread id tcb there waits

pub loop-place-preserved : goal.loop-place-preserved
loop-place-preserved c =
    elim c.match-going.branch [
      | in-Some w ↦
          (let e : slice_get c.loop-place.state.going c.loop-place.place ≡ Some w.in-Some.id = cc in
          let is : c.match-going.state ≡ with_holder_halted c.loop-place.state w.in-Some.id = cc in
          next_halted c.args.state.now c.requires c.loop-place.place c.loop-place.state c.match-going.state w.in-Some.id e is
          c.loop-place.invariant)
      | in_default w ↦
          (let h = c.loop-place.invariant in
          let same : c.loop-place.state.going ≡ c.args.state.now.going = h.follows.reached.rest.going in
          let none : slice_get c.loop-place.state.going c.loop-place.place ≡ None = cc in
          let count : c.going_count-count.result ≡ length c.args.state.now.going = cc in
          absurd
          (is_taken c.args.state.now.going c.loop-place.place (omega arith)
          (sym (ap (λ (ids : List ObjId). slice_get ids c.loop-place.place) same) ∙ none)))
    ]

pub cut_links-requires : goal.cut_links-requires
cut_links-requires c =
    let h = c.loop-index.invariant in agreed_in c.args.state.now c.requires h.done c.loop-index.state h.follows

pub loop-index-preserved : goal.loop-index-preserved
loop-index-preserved c =
    elim c.match-going-2.branch [
      | in-Some-going w ↦
          (let e : slice_get c.loop-index.state.going c.loop-index.index ≡ Some w.in-Some-going.id = cc in
          let is : c.match-going-2.state ≡ with_links_cut c.loop-index.state w.in-Some-going.id = cc in
          next_cut c.args.state.now c.requires c.loop-index.index c.loop-index.state c.match-going-2.state w.in-Some-going.id e is
          c.loop-index.invariant)
      | in_default-going w ↦
          (let h = c.loop-index.invariant in
          let same : c.loop-index.state.going ≡ c.args.state.now.going = h.follows.reached.rest.going in
          let none : slice_get c.loop-index.state.going c.loop-index.index ≡ None = cc in
          let count : c.going_count-count.result ≡ length c.args.state.now.going = cc in
          absurd
          (is_taken c.args.state.now.going c.loop-index.index (omega arith)
          (sym (ap (λ (ids : List ObjId). slice_get ids c.loop-index.index) same) ∙ none)))
    ]

pub returns : goal.returns
returns c =
    let count : c.going_count-count.result ≡ length c.args.state.now.going = cc in
    let ended : length c.args.state.now.going ≤ c.loop-index.index = omega arith in
    all_cut c.args.state.now c.requires c.args.state.now.going c.loop-index.state
    (subst (λ (ids : List ObjId). LinksCut c.args.state.now c.args.state.now.going ids c.loop-index.state)
    (take_all c.loop-index.index c.args.state.now.going ended) c.loop-index.invariant)
